-- Fractions up to equality, as a quotient in which equal fractions are one: there they are an ordered field.
use Prim.Native.Nat.{ℕ, zero, suc, ◌≤◌}
use native.Mathlib.Omega.{arith}
use native.Mathlib.Decide.{dec_le, ℕ_discrete}
use native.Mathlib.Bridge.{le_prop}
use mathlib.Core.Path.{◌≡◌, refl, sym, ◌∙◌, ap, subst}
use mathlib.Core.HLevel.{Π_prop, hedberg}
use mathlib.Core.List.{[], ◌∷◌}
use mathlib.Core.Quot.{Quot, sound, Quot-set, lift, ind}
use lib.IntN.{ℤ, pos, negsuc, neg_ℤ, ◌*ℤ◌, zero-*ℤ}
use Rattle.fractions.proofs.Rings.{CommutativeRing, OrderedField}
use Rattle.fractions.proofs.Solver.{ν, k0, k1, ◌∔◌, ◌∗◌, −◌, ◌∸◌, ring, ring_by, fact}
use Rattle.fractions.proofs.Integers.{integers}
use Rattle.fractions.specs.Fractions.{Fraction, ◌/suc◌, divisor, product_less_one, ◌≈◌, ◌+F◌, ◌*F◌, neg_f, inv_f, zero_f, one_f}

pub divisor_product : (q r : ℕ) → divisor (product_less_one q r) ≡ divisor q *ℤ divisor r
unfolding divisor product_less_one
divisor_product q r = ap pos (omega arith)

pub divisor_one : divisor 0 ≡ pos 1
unfolding divisor
divisor_one = refl

abbrev pub Q : Type 0
Q = Quot ◌≈◌

abbrev pub mk : Fraction → Q
mk x = Quot.mk x

-- operations on fractions that respect equality, taken to the quotient
abbrev lift1 : (f : Fraction → Fraction) → ((a b : Fraction) → a ≈ b → f a ≈ f b) → Q → Q
lift1 f r x = lift Quot-set (λ a. mk (f a)) (λ a b h. sound (r a b h)) x

abbrev lift2 : (f : Fraction → Fraction → Fraction) → ((a b c : Fraction) → a ≈ b → f a c ≈ f b c) → ((a b c : Fraction) → a ≈ b → f c a ≈ f c b) → Q → Q → Q
lift2 f l r x y =
    lift Quot-set (λ a. lift1 (f a) (λ b b' h. r b b' a h) y)
    (λ a a' h.
    ind {β = λ q. lift1 (f a) (λ b b' h. r b b' a h) q ≡ lift1 (f a') (λ b b' h. r b b' a' h) q} (λ q. Quot-set _ _) (λ b. sound (l a a' b h)) y) x

pub add_left : (a b c : Fraction) → a ≈ b → a +F c ≈ b +F c
unfolding ◌+F◌
add_left (p /suc q) (p' /suc q') (r /suc s) h =
    simp divisor_product (ring_by integers (p ∷ divisor q ∷ p' ∷ divisor q' ∷ r ∷ divisor s ∷ []) ((ν 0 ∗ ν 5 ∔ ν 4 ∗ ν 1) ∗ (ν 3 ∗ ν 5))
    ((ν 2 ∗ ν 5 ∔ ν 4 ∗ ν 3) ∗ (ν 1 ∗ ν 5)) (fact (ν 5 ∗ ν 5) (ν 0 ∗ ν 3) (ν 2 ∗ ν 1) h ∷ []) refl)

pub add_right : (a b c : Fraction) → a ≈ b → c +F a ≈ c +F b
unfolding ◌+F◌
add_right (p /suc q) (p' /suc q') (r /suc s) h =
    simp divisor_product (ring_by integers (p ∷ divisor q ∷ p' ∷ divisor q' ∷ r ∷ divisor s ∷ []) ((ν 4 ∗ ν 1 ∔ ν 0 ∗ ν 5) ∗ (ν 5 ∗ ν 3))
    ((ν 4 ∗ ν 3 ∔ ν 2 ∗ ν 5) ∗ (ν 5 ∗ ν 1)) (fact (ν 5 ∗ ν 5) (ν 0 ∗ ν 3) (ν 2 ∗ ν 1) h ∷ []) refl)

pub mul_left : (a b c : Fraction) → a ≈ b → a *F c ≈ b *F c
unfolding ◌*F◌
mul_left (p /suc q) (p' /suc q') (r /suc s) h =
    simp divisor_product (ring_by integers (p ∷ divisor q ∷ p' ∷ divisor q' ∷ r ∷ divisor s ∷ []) ((ν 0 ∗ ν 4) ∗ (ν 3 ∗ ν 5)) ((ν 2 ∗ ν 4) ∗ (ν 1 ∗ ν 5))
    (fact (ν 4 ∗ ν 5) (ν 0 ∗ ν 3) (ν 2 ∗ ν 1) h ∷ []) refl)

pub mul_right : (a b c : Fraction) → a ≈ b → c *F a ≈ c *F b
unfolding ◌*F◌
mul_right (p /suc q) (p' /suc q') (r /suc s) h =
    simp divisor_product (ring_by integers (p ∷ divisor q ∷ p' ∷ divisor q' ∷ r ∷ divisor s ∷ []) ((ν 4 ∗ ν 0) ∗ (ν 5 ∗ ν 3)) ((ν 4 ∗ ν 2) ∗ (ν 5 ∗ ν 1))
    (fact (ν 4 ∗ ν 5) (ν 0 ∗ ν 3) (ν 2 ∗ ν 1) h ∷ []) refl)

pub neg_same : (a b : Fraction) → a ≈ b → neg_f a ≈ neg_f b
unfolding neg_f
neg_same (p /suc q) (p' /suc q') h =
    ring_by integers (p ∷ divisor q ∷ p' ∷ divisor q' ∷ []) ((− ν 0) ∗ ν 3) ((− ν 2) ∗ ν 1) (fact (− k1) (ν 0 ∗ ν 3) (ν 2 ∗ ν 1) h ∷ []) refl

-- the sign of a whole number: 0 for zero, 1 for above, 2 for below
unfoldable pub sign : ℤ → ℕ
sign (pos zero) = 0
sign (pos (suc n)) = 1
sign (negsuc n) = 2

sign_times : (p : ℤ) (q : ℕ) → sign (p *ℤ divisor q) ≡ sign p
unfolding sign divisor
sign_times (pos zero) q = ap sign (zero-*ℤ (pos (suc q)))
sign_times (pos (suc n)) q = ap sign (sym (divisor_product n q))
sign_times (negsuc n) q = ap (λ y. sign (neg_ℤ y)) (sym (divisor_product n q))

sign_same : (p p' : ℤ) (q q' : ℕ) → p *ℤ divisor q' ≡ p' *ℤ divisor q → sign p ≡ sign p'
sign_same p p' q q' h = sym (sign_times p q') ∙ ap sign h ∙ sign_times p' q

pub inv_same : (a b : Fraction) → a ≈ b → inv_f a ≈ inv_f b
unfolding inv_f sign divisor
inv_same (pos zero /suc q) (pos zero /suc s) h = refl
inv_same (pos zero /suc q) (pos (suc m) /suc s) h = absurd (omega (arith, sign_same (pos zero) (pos (suc m)) q s h))
inv_same (pos zero /suc q) (negsuc m /suc s) h = absurd (omega (arith, sign_same (pos zero) (negsuc m) q s h))
inv_same (pos (suc n) /suc q) (pos zero /suc s) h = absurd (omega (arith, sign_same (pos (suc n)) (pos zero) q s h))
inv_same (pos (suc n) /suc q) (pos (suc m) /suc s) h =
    ring_by integers (divisor n ∷ divisor q ∷ divisor m ∷ divisor s ∷ []) (ν 1 ∗ ν 2) (ν 3 ∗ ν 0) (fact (− k1) (ν 0 ∗ ν 3) (ν 2 ∗ ν 1) h ∷ []) refl
inv_same (pos (suc n) /suc q) (negsuc m /suc s) h = absurd (omega (arith, sign_same (pos (suc n)) (negsuc m) q s h))
inv_same (negsuc n /suc q) (pos zero /suc s) h = absurd (omega (arith, sign_same (negsuc n) (pos zero) q s h))
inv_same (negsuc n /suc q) (pos (suc m) /suc s) h = absurd (omega (arith, sign_same (negsuc n) (pos (suc m)) q s h))
inv_same (negsuc n /suc q) (negsuc m /suc s) h =
    ring_by integers (divisor n ∷ divisor q ∷ divisor m ∷ divisor s ∷ []) ((− ν 1) ∗ ν 2) ((− ν 3) ∗ ν 0) (fact (− k1) ((− ν 0) ∗ ν 3) ((− ν 2) ∗ ν 1) h ∷ []) refl

infixl 60 ◌⊕◌
infixl 70 ◌⊗◌
abbrev pub ◌⊕◌ : Q → Q → Q
◌⊕◌ = lift2 ◌+F◌ add_left add_right

abbrev pub ◌⊗◌ : Q → Q → Q
◌⊗◌ = lift2 ◌*F◌ mul_left mul_right

abbrev pub neg : Q → Q
neg = lift1 neg_f neg_same

abbrev pub inv : Q → Q
inv = lift1 inv_f inv_same

abbrev pub 𝟘 : Q
𝟘 = mk zero_f

abbrev pub 𝟙 : Q
𝟙 = mk one_f

-- an equation of the quotient holds where it holds of fractions
eq1 : (f g : Q → Q) → ((a : Fraction) → f (mk a) ≡ g (mk a)) → (x : Q) → f x ≡ g x
eq1 f g h = ind (λ x. Quot-set (f x) (g x)) h

eq2 : (f g : Q → Q → Q) → ((a b : Fraction) → f (mk a) (mk b) ≡ g (mk a) (mk b)) → (x y : Q) → f x y ≡ g x y
eq2 f g h x y = eq1 (λ x. f x y) (λ x. g x y) (λ a. eq1 (f (mk a)) (g (mk a)) (h a) y) x

eq3 : (f g : Q → Q → Q → Q) → ((a b c : Fraction) → f (mk a) (mk b) (mk c) ≡ g (mk a) (mk b) (mk c)) → (x y z : Q) → f x y z ≡ g x y z
eq3 f g h x y z = eq1 (λ x. f x y z) (λ x. g x y z) (λ a. eq2 (f (mk a)) (g (mk a)) (h a) y z) x

pub add_assoc : (a b c : Q) → (a ⊕ b) ⊕ c ≡ a ⊕ (b ⊕ c)
unfolding ◌+F◌
add_assoc = eq3 (λ a b c. (a ⊕ b) ⊕ c) (λ a b c. a ⊕ (b ⊕ c)) (λ a b c. sound (go a b c))
  where
    go : (a b c : Fraction) → (a +F b) +F c ≈ a +F (b +F c)
    go (p /suc q) (r /suc s) (t /suc u) =
        simp divisor_product (ring integers (p ∷ divisor q ∷ r ∷ divisor s ∷ t ∷ divisor u ∷ [])
        (((ν 0 ∗ ν 3 ∔ ν 2 ∗ ν 1) ∗ ν 5 ∔ ν 4 ∗ (ν 1 ∗ ν 3)) ∗ (ν 1 ∗ (ν 3 ∗ ν 5))) ((ν 0 ∗ (ν 3 ∗ ν 5) ∔ (ν 2 ∗ ν 5 ∔ ν 4 ∗ ν 3) ∗ ν 1) ∗ (ν 1 ∗ ν 3 ∗ ν 5)) refl)

pub add_comm : (a b : Q) → a ⊕ b ≡ b ⊕ a
unfolding ◌+F◌
add_comm = eq2 (λ a b. a ⊕ b) (λ a b. b ⊕ a) (λ a b. sound (go a b))
  where
    go : (a b : Fraction) → a +F b ≈ b +F a
    go (p /suc q) (r /suc s) =
        simp divisor_product (ring integers (p ∷ divisor q ∷ r ∷ divisor s ∷ []) ((ν 0 ∗ ν 3 ∔ ν 2 ∗ ν 1) ∗ (ν 3 ∗ ν 1)) ((ν 2 ∗ ν 1 ∔ ν 0 ∗ ν 3) ∗ (ν 1 ∗ ν 3)) refl)

pub add_zero : (a : Q) → a ⊕ 𝟘 ≡ a
unfolding ◌+F◌ zero_f
add_zero = eq1 (λ a. a ⊕ 𝟘) (λ a. a) (λ a. sound (go a))
  where
    go : (a : Fraction) → a +F (pos 0 /suc 0) ≈ a
    go (p /suc q) =
        simp (divisor_product, divisor_one) (ring integers (p ∷ divisor q ∷ []) ((ν 0 ∗ k1 ∔ k0 ∗ ν 1) ∗ ν 1) (ν 0 ∗ (ν 1 ∗ k1)) refl)

pub add_neg : (a : Q) → a ⊕ neg a ≡ 𝟘
unfolding ◌+F◌ neg_f zero_f
add_neg = eq1 (λ a. a ⊕ neg a) (λ a. 𝟘) (λ a. sound (go a))
  where
    go : (a : Fraction) → a +F neg_f a ≈ pos 0 /suc 0
    go (p /suc q) =
        simp (divisor_product, divisor_one) (ring integers (p ∷ divisor q ∷ []) ((ν 0 ∗ ν 1 ∔ (− ν 0) ∗ ν 1) ∗ k1) (k0 ∗ (ν 1 ∗ ν 1)) refl)

pub mul_assoc : (a b c : Q) → (a ⊗ b) ⊗ c ≡ a ⊗ (b ⊗ c)
unfolding ◌*F◌
mul_assoc = eq3 (λ a b c. (a ⊗ b) ⊗ c) (λ a b c. a ⊗ (b ⊗ c)) (λ a b c. sound (go a b c))
  where
    go : (a b c : Fraction) → (a *F b) *F c ≈ a *F (b *F c)
    go (p /suc q) (r /suc s) (t /suc u) =
        simp divisor_product (ring integers (p ∷ divisor q ∷ r ∷ divisor s ∷ t ∷ divisor u ∷ []) (ν 0 ∗ ν 2 ∗ ν 4 ∗ (ν 1 ∗ (ν 3 ∗ ν 5)))
        (ν 0 ∗ (ν 2 ∗ ν 4) ∗ (ν 1 ∗ ν 3 ∗ ν 5)) refl)

pub mul_comm : (a b : Q) → a ⊗ b ≡ b ⊗ a
unfolding ◌*F◌
mul_comm = eq2 (λ a b. a ⊗ b) (λ a b. b ⊗ a) (λ a b. sound (go a b))
  where
    go : (a b : Fraction) → a *F b ≈ b *F a
    go (p /suc q) (r /suc s) =
        simp divisor_product (ring integers (p ∷ divisor q ∷ r ∷ divisor s ∷ []) (ν 0 ∗ ν 2 ∗ (ν 3 ∗ ν 1)) (ν 2 ∗ ν 0 ∗ (ν 1 ∗ ν 3)) refl)

pub mul_one : (a : Q) → a ⊗ 𝟙 ≡ a
unfolding ◌*F◌ one_f
mul_one = eq1 (λ a. a ⊗ 𝟙) (λ a. a) (λ a. sound (go a))
  where
    go : (a : Fraction) → a *F (pos 1 /suc 0) ≈ a
    go (p /suc q) = simp (divisor_product, divisor_one) (ring integers (p ∷ divisor q ∷ []) (ν 0 ∗ k1 ∗ ν 1) (ν 0 ∗ (ν 1 ∗ k1)) refl)

pub distrib : (a b c : Q) → a ⊗ (b ⊕ c) ≡ (a ⊗ b) ⊕ (a ⊗ c)
unfolding ◌+F◌ ◌*F◌
distrib = eq3 (λ a b c. a ⊗ (b ⊕ c)) (λ a b c. (a ⊗ b) ⊕ (a ⊗ c)) (λ a b c. sound (go a b c))
  where
    go : (a b c : Fraction) → a *F (b +F c) ≈ a *F b +F a *F c
    go (p /suc q) (r /suc s) (t /suc u) =
        simp divisor_product (ring integers (p ∷ divisor q ∷ r ∷ divisor s ∷ t ∷ divisor u ∷ []) (ν 0 ∗ (ν 2 ∗ ν 5 ∔ ν 4 ∗ ν 3) ∗ (ν 1 ∗ ν 3 ∗ (ν 1 ∗ ν 5)))
        ((ν 0 ∗ ν 2 ∗ (ν 1 ∗ ν 5) ∔ ν 0 ∗ ν 4 ∗ (ν 1 ∗ ν 3)) ∗ (ν 1 ∗ (ν 3 ∗ ν 5))) refl)

abbrev pub quotient_ring : CommutativeRing
quotient_ring = record {
  F = Q;
  𝟘 = 𝟘;
  𝟙 = 𝟙;
  ◌⊕◌ = ◌⊕◌;
  ◌⊗◌ = ◌⊗◌;
  neg = neg;
  add_assoc = add_assoc;
  add_comm = add_comm;
  add_zero = add_zero;
  add_neg = add_neg;
  mul_assoc = mul_assoc;
  mul_comm = mul_comm;
  mul_one = mul_one;
  distrib = distrib;
}

inverse_above : (n q : ℕ) → (divisor n *ℤ divisor q) *ℤ divisor 0 ≡ pos 1 *ℤ divisor (product_less_one q n)
inverse_above n q = simp (divisor_product, divisor_one) (ring integers (divisor n ∷ divisor q ∷ []) (ν 0 ∗ ν 1 ∗ k1) (k1 ∗ (ν 1 ∗ ν 0)) refl)

inverse_below : (n q : ℕ) → (neg_ℤ (divisor n) *ℤ neg_ℤ (divisor q)) *ℤ divisor 0 ≡ pos 1 *ℤ divisor (product_less_one q n)
inverse_below n q = simp (divisor_product, divisor_one) (ring integers (divisor n ∷ divisor q ∷ []) ((− ν 0) ∗ (− ν 1) ∗ k1) (k1 ∗ (ν 1 ∗ ν 0)) refl)

pub mul_inv : (a : Q) → ¬ (a ≡ 𝟘) → a ⊗ inv a ≡ 𝟙
unfolding ◌*F◌ inv_f divisor zero_f one_f
mul_inv = ind (λ a. Π_prop (λ _. Quot-set (a ⊗ inv a) 𝟙)) go
  where
    go : (a : Fraction) → ¬ (mk a ≡ 𝟘) → mk (a *F inv_f a) ≡ 𝟙
    go (pos zero /suc q) h = absurd (h (sound (zero-*ℤ (divisor 0) ∙ sym (zero-*ℤ (divisor q)))))
    go (pos (suc n) /suc q) h = sound (inverse_above n q)
    go (negsuc n /suc q) h = sound (inverse_below n q)

-- the sign of a fraction is that of its numerator
abbrev numerator : Fraction → ℤ
numerator (p /suc q) = p

pub signs : (a b : Fraction) → a ≈ b → sign (numerator a) ≡ sign (numerator b)
signs (p /suc q) (p' /suc q') h = sign_same p p' q q' h

pub ℕ_set : IsSet ℕ
ℕ_set = hedberg ℕ_discrete

abbrev pub side : Q → ℕ
side = lift ℕ_set (λ a. sign (numerator a)) signs

pub sign_pos : (n : ℕ) → sign (pos n) ≤ 1
unfolding sign
sign_pos zero = omega arith
sign_pos (suc n) = omega arith

side_add : (a b : Q) → side a ≤ 1 → side b ≤ 1 → side (a ⊕ b) ≤ 1
unfolding ◌+F◌ sign divisor
side_add = ind (λ a. Π_prop (λ b. Π_prop (λ _. Π_prop (λ _. le_prop)))) (λ a. ind (λ b. Π_prop (λ _. Π_prop (λ _. le_prop))) (go a))
  where
    go : (a b : Fraction) → sign (numerator a) ≤ 1 → sign (numerator b) ≤ 1 → sign (numerator (a +F b)) ≤ 1
    go (pos m /suc q) (pos n /suc s) h k = sign_pos _
    go (pos m /suc q) (negsuc n /suc s) h k = absurd (omega arith)
    go (negsuc m /suc q) (pos n /suc s) h k = absurd (omega arith)
    go (negsuc m /suc q) (negsuc n /suc s) h k = absurd (omega arith)

side_mul : (a b : Q) → side a ≤ 1 → side b ≤ 1 → side (a ⊗ b) ≤ 1
unfolding ◌*F◌ sign divisor
side_mul = ind (λ a. Π_prop (λ b. Π_prop (λ _. Π_prop (λ _. le_prop)))) (λ a. ind (λ b. Π_prop (λ _. Π_prop (λ _. le_prop))) (go a))
  where
    go : (a b : Fraction) → sign (numerator a) ≤ 1 → sign (numerator b) ≤ 1 → sign (numerator (a *F b)) ≤ 1
    go (pos m /suc q) (pos n /suc s) h k = sign_pos _
    go (pos m /suc q) (negsuc n /suc s) h k = absurd (omega arith)
    go (negsuc m /suc q) (pos n /suc s) h k = absurd (omega arith)
    go (negsuc m /suc q) (negsuc n /suc s) h k = absurd (omega arith)

side_neg : (a : Q) → ¬ (side a ≤ 1) → side (neg a) ≤ 1
unfolding neg_f sign
side_neg = ind (λ a. Π_prop (λ _. le_prop)) go
  where
    go : (a : Fraction) → ¬ (sign (numerator a) ≤ 1) → sign (numerator (neg_f a)) ≤ 1
    go (pos zero /suc q) h = absurd (h (omega arith))
    go (pos (suc n) /suc q) h = absurd (h (omega arith))
    go (negsuc n /suc q) h = omega arith

side_inv : (a : Q) → side a ≤ 1 → side (inv a) ≤ 1
unfolding inv_f sign divisor
side_inv = ind (λ a. Π_prop (λ _. le_prop)) go
  where
    go : (a : Fraction) → sign (numerator a) ≤ 1 → sign (numerator (inv_f a)) ≤ 1
    go (pos zero /suc q) h = omega arith
    go (pos (suc n) /suc q) h = omega arith
    go (negsuc n /suc q) h = absurd (omega arith)

-- a is at most b where b - a is not below 0
infix 40 ◌≼◌
abbrev pub ◌≼◌ : Q → Q → Type 0
a ≼ b = side (b ⊕ neg a) ≤ 1

pub off_zero : (a : Q) → a ⊕ neg 𝟘 ≡ a
off_zero a = ring quotient_ring (a ∷ []) (ν 0 ∸ k0) (ν 0) refl

zero_side : side 𝟘 ≤ 1
unfolding sign zero_f
zero_side = omega arith

pub one_above : ¬ (side (𝟘 ⊕ neg 𝟙) ≤ 1)
unfolding sign ◌+F◌ neg_f divisor product_less_one zero_f one_f
one_above h = omega arith

pub le_total : (a b : Q) → ¬ (a ≼ b) → b ≼ a
le_total a b h = subst (λ y. side y ≤ 1) (ring quotient_ring (a ∷ b ∷ []) (− (ν 1 ∸ ν 0)) (ν 0 ∸ ν 1) refl) (side_neg (b ⊕ neg a) h)

pub le_refl : (a : Q) → a ≼ a
le_refl a = subst (λ y. side y ≤ 1) (sym (add_neg a)) zero_side

pub le_trans : (a b c : Q) → a ≼ b → b ≼ c → a ≼ c
le_trans a b c h k =
    subst (λ y. side y ≤ 1) (ring quotient_ring (a ∷ b ∷ c ∷ []) ((ν 1 ∸ ν 0) ∔ (ν 2 ∸ ν 1)) (ν 2 ∸ ν 0) refl) (side_add (b ⊕ neg a) (c ⊕ neg b) h k)

-- two signs that are not below 0, of a number and its negative, are those of 0
flat_side : (a : Fraction) → sign (numerator a) ≤ 1 → sign (numerator (neg_f a)) ≤ 1 → mk a ≡ 𝟘
unfolding neg_f sign zero_f
flat_side (pos zero /suc q) h k = sound (zero-*ℤ (divisor 0) ∙ sym (zero-*ℤ (divisor q)))
flat_side (pos (suc n) /suc q) h k = absurd (omega arith)
flat_side (negsuc n /suc q) h k = absurd (omega arith)

flat : (a : Q) → side a ≤ 1 → side (neg a) ≤ 1 → a ≡ 𝟘
flat = ind (λ a. Π_prop (λ _. Π_prop (λ _. Quot-set a 𝟘))) flat_side

pub le_antisym : (a b : Q) → a ≼ b → b ≼ a → a ≡ b
le_antisym a b h k =
    let e : b ⊕ neg a ≡ 𝟘 = flat (b ⊕ neg a) h (subst (λ y. side y ≤ 1) (ring quotient_ring (a ∷ b ∷ []) (ν 0 ∸ ν 1) (− (ν 1 ∸ ν 0)) refl) k) in
    ring_by quotient_ring (a ∷ b ∷ []) (ν 0) (ν 1) (fact (− k1) (ν 1 ∸ ν 0) k0 e ∷ []) refl

pub inv_zero : inv 𝟘 ≡ 𝟘
unfolding inv_f zero_f
inv_zero = refl

pub add_mono : (a b c : Q) → a ≼ b → (a ⊕ c) ≼ (b ⊕ c)
add_mono a b c h = subst (λ y. side y ≤ 1) (ring quotient_ring (a ∷ b ∷ c ∷ []) (ν 1 ∸ ν 0) ((ν 1 ∔ ν 2) ∸ (ν 0 ∔ ν 2)) refl) h

pub mul_nonneg : (a b : Q) → 𝟘 ≼ a → 𝟘 ≼ b → 𝟘 ≼ (a ⊗ b)
mul_nonneg a b h k =
    subst (λ y. side y ≤ 1) (sym (off_zero (a ⊗ b))) (side_mul a b (subst (λ y. side y ≤ 1) (off_zero a) h) (subst (λ y. side y ≤ 1) (off_zero b) k))

pub inv_nonneg : (a : Q) → 𝟘 ≼ a → 𝟘 ≼ inv a
inv_nonneg a h = subst (λ y. side y ≤ 1) (sym (off_zero (inv a))) (side_inv a (subst (λ y. side y ≤ 1) (off_zero a) h))

abbrev pub quotient_field : OrderedField
quotient_field = record {
  F = Q;
  𝟘 = 𝟘;
  𝟙 = 𝟙;
  ◌⊕◌ = ◌⊕◌;
  ◌⊗◌ = ◌⊗◌;
  neg = neg;
  inv = inv;
  ◌≼◌ = ◌≼◌;
  add_assoc = add_assoc;
  add_comm = add_comm;
  add_zero = add_zero;
  add_neg = add_neg;
  mul_assoc = mul_assoc;
  mul_comm = mul_comm;
  mul_one = mul_one;
  distrib = distrib;
  mul_inv = mul_inv;
  le? = λ a b. dec_le (side (b ⊕ neg a)) 1;
  le_total = le_total;
  le_refl = le_refl;
  le_trans = le_trans;
  add_mono = add_mono;
  mul_nonneg = mul_nonneg;
  inv_nonneg = inv_nonneg;
  one_above = one_above;
}
