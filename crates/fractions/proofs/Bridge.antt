-- From the quotient to fractions and back: equality, order, distance, sums.
use Prim.Native.Nat.{ℕ, zero, suc, ◌+◌, ◌≤◌}
use native.Mathlib.Omega.{arith}
use mathlib.Core.Path.{◌≡◌, refl, sym, ◌∙◌, ap, subst}
use mathlib.Core.Bool.{Bool, true, false}
use mathlib.Core.Logic.{◌⊎◌, inl, inr, ⊎_elim}
use mathlib.Core.List.{[], ◌∷◌}
use mathlib.Core.Quot.{sound}
use lib.IntN.{ℤ, pos, negsuc, neg_ℤ, ◌+ℤ◌, ◌*ℤ◌}
use lib.Signed.{le_z}
use Rattle.fractions.specs.Fractions.{Fraction, ◌/suc◌, divisor, ◌≈◌, at_most, ◌≤F◌, ◌<F◌, ◌+F◌, ◌-F◌, neg_f, magnitude, distance, zero_f, sum_f}
use Rattle.fractions.proofs.Solver.{ν, k0, k1, ◌∔◌, ◌∗◌, −◌, ◌∸◌, ring, ring_by, fact}
use Rattle.fractions.proofs.Integers.{integers}
use Rattle.fractions.proofs.OrderedFields.{Near, sum, nonneg_sub, add_nonneg, le_less, le_more}
use Rattle.fractions.proofs.Quotient.{Q, mk, sign, sign_pos, side, quotient_ring, quotient_field, ◌⊕◌, neg, ◌≼◌, 𝟘, add_neg, off_zero, le_refl, le_trans, le_total}

sign_zero : (z : ℤ) → sign z ≡ 0 → z ≡ pos 0
unfolding sign
sign_zero (pos zero) h = refl
sign_zero (pos (suc n)) h = absurd (omega arith)
sign_zero (negsuc n) h = absurd (omega arith)

-- equal in the quotient, equal by cross products
pub same : (a b : Fraction) → mk a ≡ mk b → a ≈ b
unfolding ◌+F◌ neg_f sign zero_f
same (p /suc q) (r /suc s) h =
    ring_by integers (p ∷ divisor q ∷ r ∷ divisor s ∷ []) (ν 0 ∗ ν 3) (ν 2 ∗ ν 1)
    (fact k1 (ν 0 ∗ ν 3 ∔ (− ν 2) ∗ ν 1) k0 (sign_zero _ (ap (λ y. side (y ⊕ neg (mk (r /suc s)))) h ∙ ap side (add_neg (mk (r /suc s))))) ∷ []) refl

pub identified : (a b : Fraction) → a ≈ b → mk a ≡ mk b
identified a b h = sound h

le_yes : (a b : ℤ) → le_z a b ≡ true → sign (b +ℤ neg_ℤ a) ≤ 1
unfolding sign
le_yes (pos zero) (pos b) h = sign_pos (b + 0)
le_yes (pos (suc a)) (pos b) h = grind arith
le_yes (pos a) (negsuc b) h = grind arith
le_yes (negsuc a) (pos b) h = grind arith
le_yes (negsuc a) (negsuc b) h = grind arith

le_no : (a b : ℤ) → le_z a b ≡ false → ¬ (sign (b +ℤ neg_ℤ a) ≤ 1)
unfolding sign
le_no (pos zero) (pos b) h = grind arith
le_no (pos (suc a)) (pos b) h = grind arith
le_no (pos zero) (negsuc b) h = grind arith
le_no (pos (suc a)) (negsuc b) h = grind arith
le_no (negsuc a) (pos b) h = grind arith
le_no (negsuc a) (negsuc b) h = grind arith

turned : (p r : ℤ) (q s : ℕ) → r *ℤ divisor q +ℤ neg_ℤ (p *ℤ divisor s) ≡ r *ℤ divisor q +ℤ neg_ℤ p *ℤ divisor s
turned p r q s = ring integers (p ∷ r ∷ divisor q ∷ divisor s ∷ []) (ν 1 ∗ ν 2 ∸ ν 0 ∗ ν 3) (ν 1 ∗ ν 2 ∔ (− ν 0) ∗ ν 3) refl

-- the order of fractions is that of the quotient
pub le_to : (a b : Fraction) → a ≤F b → mk a ≼ mk b
unfolding at_most ◌+F◌ neg_f
le_to (p /suc q) (r /suc s) h = subst (λ y. sign y ≤ 1) (turned p r q s) (le_yes (p *ℤ divisor s) (r *ℤ divisor q) h)

pub lt_to : (a b : Fraction) → a <F b → ¬ (mk b ≼ mk a)
unfolding at_most ◌+F◌ neg_f
lt_to (r /suc s) (p /suc q) h = subst (λ y. ¬ (sign y ≤ 1)) (turned p r q s) (le_no (p *ℤ divisor s) (r *ℤ divisor q) h)

pub le_from : (a b : Fraction) → mk a ≼ mk b → a ≤F b
le_from a b h = go (at_most a b) refl
  where
    go : (t : Bool) → at_most a b ≡ t → a ≤F b
    go true e = e
    go false e = absurd (lt_to b a e h)

pub lt_from : (a b : Fraction) → ¬ (mk b ≼ mk a) → a <F b
lt_from a b h = go (at_most b a) refl
  where
    go : (t : Bool) → at_most b a ≡ t → a <F b
    go false e = e
    go true e = absurd (h (le_to b a e))

-- equality and order of fractions, by those of the quotient
pub same_sym : (a b : Fraction) → a ≈ b → b ≈ a
same_sym a b e = same b a (sym (identified a b e))

pub le_same : (x a b : Fraction) → a ≈ b → a ≤F x → b ≤F x
le_same x a b e h = le_from b x (subst (λ y. y ≼ mk x) (identified a b e) (le_to a x h))

pub lt_same : (x a b : Fraction) → a ≈ b → x <F a → x <F b
lt_same x a b e h = lt_from x b (λ l. lt_to x a h (subst (λ y. y ≼ mk x) (sym (identified a b e)) l))

pub lt_le : (a b : Fraction) → a <F b → a ≤F b
lt_le a b h = le_from a b (le_total (mk b) (mk a) (lt_to a b h))

pub le_le : (a b c : Fraction) → a ≤F b → b ≤F c → a ≤F c
le_le a b c h k = le_from a c (le_trans (mk a) (mk b) (mk c) (le_to a b h) (le_to b c k))

pub lt_le_lt : (a b c : Fraction) → a <F b → b ≤F c → a <F c
lt_le_lt a b c h k = lt_from a c (λ l. lt_to a b h (le_trans (mk b) (mk c) (mk a) (le_to b c k) l))

-- a magnitude is the fraction or its negative, whichever is not below 0
magnitude_is : (x : Fraction) → ((magnitude x ≡ x) × (𝟘 ≼ mk x)) ⊎ ((magnitude x ≡ neg_f x) × (𝟘 ≼ neg (mk x)))
unfolding magnitude neg_f
magnitude_is (pos n /suc q) = inl (refl, subst (λ y. side y ≤ 1) (sym (off_zero (mk (pos n /suc q)))) (sign_pos n))
magnitude_is (negsuc n /suc q) = inr (refl, subst (λ y. side y ≤ 1) (sym (off_zero (mk (pos (suc n) /suc q)))) (sign_pos (suc n)))

not_above_magnitude : (x : Fraction) → (mk x ≼ mk (magnitude x)) × (neg (mk x) ≼ mk (magnitude x))
not_above_magnitude x =
    ⊎_elim
    (λ h. (subst (λ y. mk x ≼ mk y) (sym h.0) (le_refl (mk x)), subst (λ y. neg (mk x) ≼ mk y) (sym h.0) (sides (mk x) h.1)))
    (λ h. (
      subst (λ y. mk x ≼ mk y) (sym h.0) (subst (λ y. y ≼ neg (mk x)) (ring quotient_ring (mk x ∷ []) (− (− ν 0)) (ν 0) refl) (sides (neg (mk x)) h.1)),
      subst (λ y. neg (mk x) ≼ mk y) (sym h.0) (le_refl (neg (mk x))),
    ))
    (magnitude_is x)
  where
    sides : (y : Q) → 𝟘 ≼ y → neg y ≼ y
    sides y h =
        nonneg_sub quotient_field (neg y) y
        (subst (λ z. 𝟘 ≼ z) (ring quotient_ring (y ∷ []) (ν 0 ∔ ν 0) (ν 0 ∸ (− ν 0)) refl) (add_nonneg quotient_field y y h h))

-- the distance is at most e exactly where neither passes the other by more than e
pub near_from : (x y e : Fraction) → Near quotient_field (mk e) (mk x) (mk y) → distance x y ≤F e
near_from x y e h =
    le_from (distance x y) e (⊎_elim
    (λ k. subst (λ z. mk z ≼ mk e) (sym k.0) (le_less quotient_field (mk x) (mk y) (mk e) h.0))
    (λ k. subst (λ z. mk z ≼ mk e) (sym k.0) (subst (λ z. z ≼ mk e) (opposite x y) (le_less quotient_field (mk y) (mk x) (mk e) h.1)))
    (magnitude_is (x -F y)))
  where
    opposite : (x y : Fraction) → mk y ⊕ neg (mk x) ≡ neg (mk x ⊕ neg (mk y))
    opposite x y = ring quotient_ring (mk x ∷ mk y ∷ []) (ν 1 ∸ ν 0) (− (ν 0 ∸ ν 1)) refl

pub near_to : (x y e : Fraction) → distance x y ≤F e → Near quotient_field (mk e) (mk x) (mk y)
near_to x y e h = (
  le_more quotient_field (mk x) (mk y) (mk e) (le_trans (mk (x -F y)) (mk (distance x y)) (mk e) (not_above_magnitude (x -F y)).0 (le_to (distance x y) e h)),
  le_more quotient_field (mk y) (mk x) (mk e) (le_trans (mk y ⊕ neg (mk x)) (mk (distance x y)) (mk e) (subst (λ z. z ≼ mk (distance x y)) turn (not_above_magnitude (x -F y)).1) (le_to (distance x y) e h)),
)
  where
    turn : neg (mk x ⊕ neg (mk y)) ≡ mk y ⊕ neg (mk x)
    turn = ring quotient_ring (mk x ∷ mk y ∷ []) (− (ν 0 ∸ ν 1)) (ν 1 ∸ ν 0) refl

-- sums of fractions, in the quotient
pub sum_to : (n : ℕ) (f : ℕ → Fraction) → mk (sum_f n f) ≡ sum quotient_field n (λ i. mk (f i))
unfolding sum_f sum zero_f
sum_to zero f = refl
sum_to (suc n) f = ap (λ y. y ⊕ mk (f n)) (sum_to n f)
