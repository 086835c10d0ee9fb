-- Identities of a commutative ring, by computing: an expression is brought to a normal form, a sorted list of signed products
-- of variables, and two expressions are equal in every ring where the normal form of their difference is empty. `ring` proves
-- an identity so, `ring_by` one that follows from equations, each with the factor that it is multiplied by.
use Prim.Native.Nat.{ℕ, zero, suc}
use mathlib.Core.Path.{◌≡◌, refl, sym, ◌∙◌, ap, ap₂}
use mathlib.Core.Bool.{Bool, true, false}
use mathlib.Core.List.{List, [], ◌∷◌}
use Rattle.fractions.proofs.Rings.{CommutativeRing}

infixl 60 ◌∔◌ ◌∸◌
infixl 70 ◌∗◌
infix 80 −◌
-- variables by number, 0, 1, sums, products, negatives
pub data Expr : Type 0 where
  ν : ℕ → Expr
  k0 k1 : Expr
  ◌∔◌ ◌∗◌ : Expr → Expr → Expr
  −◌ : Expr → Expr

abbrev pub ◌∸◌ : Expr → Expr → Expr
a ∸ b = a ∔ (− b)

-- the outcome of a comparison; that of equals carries their equation
pub data Order {A : Type 0} (a b : A) : Type 0 where
  less more : Order a b
  equal : a ≡ b → Order a b

abbrev order_suc : {m n : ℕ} → Order m n → Order (suc m) (suc n)
order_suc less = less
order_suc more = more
order_suc (equal p) = equal (ap suc p)

abbrev order_variables : (m n : ℕ) → Order m n
order_variables zero zero = equal refl
order_variables zero (suc n) = less
order_variables (suc m) zero = more
order_variables (suc m) (suc n) = order_suc (order_variables m n)

abbrev order_cons : {m n : ℕ} {a b : List ℕ} → Order m n → Order a b → Order (m ∷ a) (n ∷ b)
order_cons less o = less
order_cons more o = more
order_cons (equal p) less = less
order_cons (equal p) more = more
order_cons (equal p) (equal q) = equal (ap₂ ◌∷◌ p q)

abbrev order_products : (a b : List ℕ) → Order a b
order_products [] [] = equal refl
order_products [] (n ∷ b) = less
order_products (m ∷ a) [] = more
order_products (m ∷ a) (n ∷ b) = order_cons (order_variables m n) (order_products a b)

-- a signed product of variables, which are sorted; true stands for minus
pub data Term : Type 0 where
  term : Bool → List ℕ → Term

abbrev place_variable : {m n : ℕ} → Order m n → List ℕ → List ℕ → List ℕ
place_variable {m} {n} less rest after = m ∷ n ∷ rest
place_variable {m} {n} (equal p) rest after = m ∷ n ∷ rest
place_variable {m} {n} more rest after = n ∷ after

abbrev insert_variable : ℕ → List ℕ → List ℕ
insert_variable m [] = m ∷ []
insert_variable m (n ∷ l) = place_variable (order_variables m n) l (insert_variable m l)

abbrev merge : List ℕ → List ℕ → List ℕ
merge [] b = b
merge (m ∷ a) b = insert_variable m (merge a b)

abbrev differ : Bool → Bool → Bool
differ true true = false
differ true false = true
differ false b = b

-- a term beside one with the same variables and the other sign cancels it
abbrev place_term : {a b : List ℕ} → Order a b → Bool → Bool → List Term → List Term → List Term
place_term {a} {b} less s t rest after = term s a ∷ term t b ∷ rest
place_term {a} {b} more s t rest after = term t b ∷ after
place_term {a} {b} (equal e) true true rest after = term true a ∷ term true b ∷ rest
place_term {a} {b} (equal e) true false rest after = rest
place_term {a} {b} (equal e) false true rest after = rest
place_term {a} {b} (equal e) false false rest after = term false a ∷ term false b ∷ rest

abbrev insert_term : Bool → List ℕ → List Term → List Term
insert_term s a [] = term s a ∷ []
insert_term s a (term t b ∷ p) = place_term (order_products a b) s t p (insert_term s a p)

abbrev plus : List Term → List Term → List Term
plus [] q = q
plus (term s a ∷ p) q = insert_term s a (plus p q)

abbrev scale : Bool → List ℕ → List Term → List Term
scale s a [] = []
scale s a (term t b ∷ q) = insert_term (differ s t) (merge a b) (scale s a q)

abbrev times : List Term → List Term → List Term
times [] q = []
times (term s a ∷ p) q = plus (scale s a q) (times p q)

abbrev normal : Expr → List Term
normal (ν n) = term false (n ∷ []) ∷ []
normal k0 = []
normal k1 = term false [] ∷ []
normal (a ∔ b) = plus (normal a) (normal b)
normal (a ∗ b) = times (normal a) (normal b)
normal (− a) = scale true [] (normal a)

module _ (R : CommutativeRing) where
  open R use {F, 𝟘, 𝟙, ◌⊕◌, ◌⊗◌, neg, add_assoc, add_comm, add_zero, add_neg, mul_assoc, mul_comm, mul_one, distrib}

  abbrev pub get : List F → ℕ → F
  get [] n = 𝟘
  get (a ∷ ρ) zero = a
  get (a ∷ ρ) (suc n) = get ρ n

  -- what an expression means where the variables have the values ρ
  abbrev pub value : List F → Expr → F
  value ρ (ν n) = get ρ n
  value ρ k0 = 𝟘
  value ρ k1 = 𝟙
  value ρ (a ∔ b) = value ρ a ⊕ value ρ b
  value ρ (a ∗ b) = value ρ a ⊗ value ρ b
  value ρ (− a) = neg (value ρ a)

  zero_add : (a : F) → 𝟘 ⊕ a ≡ a
  zero_add a = add_comm 𝟘 a ∙ add_zero a

  one_mul : (a : F) → 𝟙 ⊗ a ≡ a
  one_mul a = mul_comm 𝟙 a ∙ mul_one a

  add_left_comm : (a b c : F) → a ⊕ (b ⊕ c) ≡ b ⊕ (a ⊕ c)
  add_left_comm a b c = sym (add_assoc a b c) ∙ ap (λ x. x ⊕ c) (add_comm a b) ∙ add_assoc b a c

  mul_left_comm : (a b c : F) → a ⊗ (b ⊗ c) ≡ b ⊗ (a ⊗ c)
  mul_left_comm a b c = sym (mul_assoc a b c) ∙ ap (λ x. x ⊗ c) (mul_comm a b) ∙ mul_assoc b a c

  cancel : (a b c : F) → c ⊕ a ≡ c ⊕ b → a ≡ b
  cancel a b c h = sym (off a) ∙ ap (λ x. neg c ⊕ x) h ∙ off b
    where
      off : (x : F) → neg c ⊕ (c ⊕ x) ≡ x
      off x = sym (add_assoc (neg c) c x) ∙ ap (λ y. y ⊕ x) (add_comm (neg c) c ∙ add_neg c) ∙ zero_add x

  mul_zero : (a : F) → a ⊗ 𝟘 ≡ 𝟘
  mul_zero a = cancel (a ⊗ 𝟘) 𝟘 (a ⊗ 𝟘) (sym (distrib a 𝟘 𝟘) ∙ ap (λ x. a ⊗ x) (add_zero 𝟘) ∙ sym (add_zero (a ⊗ 𝟘)))

  zero_mul : (a : F) → 𝟘 ⊗ a ≡ 𝟘
  zero_mul a = mul_comm 𝟘 a ∙ mul_zero a

  distrib_right : (a b c : F) → (a ⊕ b) ⊗ c ≡ a ⊗ c ⊕ b ⊗ c
  distrib_right a b c = mul_comm (a ⊕ b) c ∙ distrib c a b ∙ ap₂ ◌⊕◌ (mul_comm c a) (mul_comm c b)

  neg_unique : (a b : F) → a ⊕ b ≡ 𝟘 → b ≡ neg a
  neg_unique a b h = cancel b (neg a) a (h ∙ sym (add_neg a))

  neg_neg : (a : F) → neg (neg a) ≡ a
  neg_neg a = sym (neg_unique (neg a) a (add_comm (neg a) a ∙ add_neg a))

  neg_zero : neg 𝟘 ≡ 𝟘
  neg_zero = sym (neg_unique 𝟘 𝟘 (add_zero 𝟘))

  neg_mul : (a b : F) → neg a ⊗ b ≡ neg (a ⊗ b)
  neg_mul a b = neg_unique (a ⊗ b) (neg a ⊗ b) (sym (distrib_right a (neg a) b) ∙ ap (λ x. x ⊗ b) (add_neg a) ∙ zero_mul b)

  mul_neg : (a b : F) → a ⊗ neg b ≡ neg (a ⊗ b)
  mul_neg a b = mul_comm a (neg b) ∙ neg_mul b a ∙ ap neg (mul_comm b a)

  signed : Bool → F → F
  signed true a = neg a
  signed false a = a

  -- what products of variables and normal forms mean
  product_value : List F → List ℕ → F
  product_value ρ [] = 𝟙
  product_value ρ (n ∷ l) = get ρ n ⊗ product_value ρ l

  terms_value : List F → List Term → F
  terms_value ρ [] = 𝟘
  terms_value ρ (term s a ∷ p) = signed s (product_value ρ a) ⊕ terms_value ρ p

  place_variable_ok : (ρ : List F) (m n : ℕ) (o : Order m n) (l r : List ℕ) → product_value ρ r ≡ get ρ m ⊗ product_value ρ l
      → product_value ρ (place_variable o l r) ≡ get ρ m ⊗ product_value ρ (n ∷ l)
  unfolding product_value
  place_variable_ok ρ m n less l r h = refl
  place_variable_ok ρ m n (equal p) l r h = refl
  place_variable_ok ρ m n more l r h = ap (λ x. get ρ n ⊗ x) h ∙ mul_left_comm (get ρ n) (get ρ m) (product_value ρ l)

  insert_variable_ok : (ρ : List F) (m : ℕ) (l : List ℕ) → product_value ρ (insert_variable m l) ≡ get ρ m ⊗ product_value ρ l
  unfolding product_value
  insert_variable_ok ρ m [] = refl
  insert_variable_ok ρ m (n ∷ l) = place_variable_ok ρ m n (order_variables m n) l (insert_variable m l) (insert_variable_ok ρ m l)

  merge_ok : (ρ : List F) (a b : List ℕ) → product_value ρ (merge a b) ≡ product_value ρ a ⊗ product_value ρ b
  unfolding product_value
  merge_ok ρ [] b = sym (one_mul (product_value ρ b))
  merge_ok ρ (m ∷ a) b =
      insert_variable_ok ρ m (merge a b) ∙ ap (λ x. get ρ m ⊗ x) (merge_ok ρ a b) ∙ sym (mul_assoc (get ρ m) (product_value ρ a) (product_value ρ b))

  place_term_ok : (ρ : List F) (a b : List ℕ) (o : Order a b) (s t : Bool) (p r : List Term) → terms_value ρ r ≡ signed s (product_value ρ a) ⊕ terms_value ρ p
      → terms_value ρ (place_term o s t p r) ≡ signed s (product_value ρ a) ⊕ terms_value ρ (term t b ∷ p)
  unfolding terms_value signed
  place_term_ok ρ a b less s t p r h = refl
  place_term_ok ρ a b more s t p r h =
      ap (λ x. signed t (product_value ρ b) ⊕ x) h ∙ add_left_comm (signed t (product_value ρ b)) (signed s (product_value ρ a)) (terms_value ρ p)
  place_term_ok ρ a b (equal e) true true p r h = refl
  place_term_ok ρ a b (equal e) false false p r h = refl
  place_term_ok ρ a b (equal e) true false p r h =
      sym (rw (← e) (sym (add_assoc (neg (product_value ρ a)) (product_value ρ a) (terms_value ρ p))
      ∙ ap (λ y. y ⊕ terms_value ρ p) (add_comm (neg (product_value ρ a)) (product_value ρ a) ∙ add_neg (product_value ρ a)) ∙ zero_add (terms_value ρ p)))
  place_term_ok ρ a b (equal e) false true p r h =
      sym (rw (← e) (sym (add_assoc (product_value ρ a) (neg (product_value ρ a)) (terms_value ρ p))
      ∙ ap (λ y. y ⊕ terms_value ρ p) (add_neg (product_value ρ a)) ∙ zero_add (terms_value ρ p)))

  insert_term_ok : (ρ : List F) (s : Bool) (a : List ℕ) (p : List Term) → terms_value ρ (insert_term s a p) ≡ signed s (product_value ρ a) ⊕ terms_value ρ p
  unfolding terms_value
  insert_term_ok ρ s a [] = refl
  insert_term_ok ρ s a (term t b ∷ p) = place_term_ok ρ a b (order_products a b) s t p (insert_term s a p) (insert_term_ok ρ s a p)

  plus_ok : (ρ : List F) (p q : List Term) → terms_value ρ (plus p q) ≡ terms_value ρ p ⊕ terms_value ρ q
  unfolding terms_value
  plus_ok ρ [] q = sym (zero_add (terms_value ρ q))
  plus_ok ρ (term s a ∷ p) q =
      insert_term_ok ρ s a (plus p q) ∙ ap (λ x. signed s (product_value ρ a) ⊕ x) (plus_ok ρ p q) ∙ sym (add_assoc (signed s (product_value ρ a)) (terms_value ρ p) (terms_value ρ q))

  signed_mul : (s t : Bool) (a b : F) → signed (differ s t) (a ⊗ b) ≡ signed s a ⊗ signed t b
  unfolding signed
  signed_mul true true a b = sym (neg_mul a (neg b) ∙ ap neg (mul_neg a b) ∙ neg_neg (a ⊗ b))
  signed_mul true false a b = sym (neg_mul a b)
  signed_mul false true a b = sym (mul_neg a b)
  signed_mul false false a b = refl

  scale_ok : (ρ : List F) (s : Bool) (a : List ℕ) (q : List Term) → terms_value ρ (scale s a q) ≡ signed s (product_value ρ a) ⊗ terms_value ρ q
  unfolding terms_value
  scale_ok ρ s a [] = sym (mul_zero (signed s (product_value ρ a)))
  scale_ok ρ s a (term t b ∷ q) =
      insert_term_ok ρ (differ s t) (merge a b) (scale s a q)
      ∙ ap₂ ◌⊕◌ (ap (signed (differ s t)) (merge_ok ρ a b) ∙ signed_mul s t (product_value ρ a) (product_value ρ b)) (scale_ok ρ s a q)
      ∙ sym (distrib (signed s (product_value ρ a)) (signed t (product_value ρ b)) (terms_value ρ q))

  times_ok : (ρ : List F) (p q : List Term) → terms_value ρ (times p q) ≡ terms_value ρ p ⊗ terms_value ρ q
  unfolding terms_value
  times_ok ρ [] q = sym (zero_mul (terms_value ρ q))
  times_ok ρ (term s a ∷ p) q =
      plus_ok ρ (scale s a q) (times p q) ∙ ap₂ ◌⊕◌ (scale_ok ρ s a q) (times_ok ρ p q) ∙ sym (distrib_right (signed s (product_value ρ a)) (terms_value ρ p) (terms_value ρ q))

  normal_ok : (ρ : List F) (e : Expr) → terms_value ρ (normal e) ≡ value ρ e
  unfolding terms_value product_value signed
  normal_ok ρ (ν n) = add_zero (get ρ n ⊗ 𝟙) ∙ mul_one (get ρ n)
  normal_ok ρ k0 = refl
  normal_ok ρ k1 = add_zero 𝟙
  normal_ok ρ (a ∔ b) = plus_ok ρ (normal a) (normal b) ∙ ap₂ ◌⊕◌ (normal_ok ρ a) (normal_ok ρ b)
  normal_ok ρ (a ∗ b) = times_ok ρ (normal a) (normal b) ∙ ap₂ ◌⊗◌ (normal_ok ρ a) (normal_ok ρ b)
  normal_ok ρ (− a) = scale_ok ρ true [] (normal a) ∙ neg_mul 𝟙 (terms_value ρ (normal a)) ∙ ap neg (one_mul (terms_value ρ (normal a)) ∙ normal_ok ρ a)

  -- a and b are equal where the normal form of a - b is empty
  pub ring : (ρ : List F) (a b : Expr) → normal (a ∸ b) ≡ [] → value ρ a ≡ value ρ b
  unfolding terms_value
  ring ρ a b h =
      sym (cancel (value ρ b) (value ρ a) (neg (value ρ b))
      (add_comm (neg (value ρ b)) (value ρ b) ∙ add_neg (value ρ b) ∙ sym (sym (normal_ok ρ (a ∸ b)) ∙ ap (terms_value ρ) h) ∙ add_comm (value ρ a) (neg (value ρ b))))

  -- an equation l ≡ r, and the factor that it is multiplied by
  pub data Fact (ρ : List F) : Type 0 where
    fact : (factor l r : Expr) → value ρ l ≡ value ρ r → Fact ρ

  -- a, less each factor times the difference of its two sides
  abbrev pub less_all : (ρ : List F) → List (Fact ρ) → Expr → Expr
  less_all ρ [] a = a
  less_all ρ (fact e l r h ∷ hs) a = less_all ρ hs (a ∸ e ∗ (l ∸ r))

  less_all_ok : (ρ : List F) (hs : List (Fact ρ)) (a : Expr) → value ρ (less_all ρ hs a) ≡ value ρ a
  less_all_ok ρ [] a = refl
  less_all_ok ρ (fact e l r h ∷ hs) a =
      less_all_ok ρ hs (a ∸ e ∗ (l ∸ r)) ∙ ap (λ x. value ρ a ⊕ neg (value ρ e ⊗ (x ⊕ neg (value ρ r)))) h
      ∙ ap (λ x. value ρ a ⊕ neg (value ρ e ⊗ x)) (add_neg (value ρ r)) ∙ ap (λ x. value ρ a ⊕ neg x) (mul_zero (value ρ e)) ∙ ap (λ x. value ρ a ⊕ x) neg_zero ∙ add_zero (value ρ a)

  -- the same after the equations have been used
  pub ring_by : (ρ : List F) (a b : Expr) (hs : List (Fact ρ)) → normal (less_all ρ hs a ∸ b) ≡ [] → value ρ a ≡ value ρ b
  ring_by ρ a b hs h = sym (less_all_ok ρ hs a) ∙ ring ρ (less_all ρ hs a) b h
