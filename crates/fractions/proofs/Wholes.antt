-- Whole numbers among the fractions: sums, differences, order, quotients by a whole number, halves.
use Prim.Native.Nat.{ℕ, zero, suc, ◌+◌, ◌-◌, ◌*◌, ◌≤◌, ◌<◌}
use native.Mathlib.Omega.{arith}
use borrow.Author.Differences.{ints}
use mathlib.Core.Path.{◌≡◌, refl, sym, ◌∙◌, ap, ap₂}
use mathlib.Core.Bool.{Bool, true, false}
use mathlib.Core.List.{[], ◌∷◌}
use mathlib.Core.Quot.{sound}
use lib.IntN.{ℤ, pos, ◌+ℤ◌, ◌-ℤ◌, ◌*ℤ◌, nat_abs, zero-*ℤ}
use lib.Signed.{◌≤ℤ◌, le_z}
use Rattle.fractions.specs.Fractions.{◌/suc◌, divisor, at_most, ◌≤F◌, ◌<F◌, ◌+F◌, ◌*F◌, inv_f, whole, halves, zero_f, one_f}
use Rattle.fractions.proofs.Solver.{ν, k1, ◌∔◌, ◌∗◌, ◌∸◌, ring, ring_by, fact}
use Rattle.fractions.proofs.Integers.{integers}
use Rattle.fractions.proofs.OrderedFields.{Near, natural}
use Rattle.fractions.proofs.Quotient.{Q, mk, quotient_ring, quotient_field, ◌⊕◌, ◌⊗◌, neg, inv, 𝟘, 𝟙, divisor_product, divisor_one}
use Rattle.fractions.proofs.Bridge.{le_to}

-- a whole number in the quotient
abbrev pub of : ℤ → Q
of z = mk (whole z)

pub of_add : (a b : ℤ) → of (a +ℤ b) ≡ of a ⊕ of b
unfolding ◌+F◌
of_add a b =
    sound (simp (divisor_product, divisor_one) (ring integers (a ∷ b ∷ []) ((ν 0 ∔ ν 1) ∗ (k1 ∗ k1)) ((ν 0 ∗ k1 ∔ ν 1 ∗ k1) ∗ k1) refl))

pub of_mul : (a b : ℤ) → of (a *ℤ b) ≡ of a ⊗ of b
unfolding ◌*F◌
of_mul a b = sound (simp (divisor_product, divisor_one) (ring integers (a ∷ b ∷ []) (ν 0 ∗ ν 1 ∗ (k1 ∗ k1)) (ν 0 ∗ ν 1 ∗ k1) refl))

pub of_natural : (n : ℕ) → of (pos n) ≡ natural quotient_field n
unfolding natural zero_f one_f
of_natural zero = refl
of_natural (suc n) = ap (λ m. of (pos m)) (omega arith) ∙ of_add (pos n) (pos 1) ∙ ap (λ y. y ⊕ 𝟙) (of_natural n)

-- a difference of whole numbers from 0 up
pub of_difference : (a c : ℕ) → a ≤ c → of (pos c) ⊕ neg (of (pos a)) ≡ of (pos (c - a))
of_difference a c h =
    ring_by quotient_ring (of (pos a) ∷ of (pos c) ∷ of (pos (c - a)) ∷ []) (ν 1 ∸ ν 0) (ν 2)
    (fact k1 (ν 1) (ν 2 ∔ ν 0) (ap (λ y. of (pos y)) (omega arith) ∙ of_add (pos (c - a)) (pos a)) ∷ []) refl

-- the order of whole numbers
one_divisor : (z : ℤ) → z *ℤ divisor 0 ≡ z
one_divisor z = ap (λ y. z *ℤ y) divisor_one ∙ ring integers (z ∷ []) (ν 0 ∗ k1) (ν 0) refl

at_most_whole : (a b : ℤ) → at_most (whole a) (whole b) ≡ le_z a b
unfolding at_most
at_most_whole a b = ap₂ le_z (one_divisor a) (one_divisor b)

le_is : (a b : ℤ) → a ≤ℤ b → le_z a b ≡ true
le_is a b h = go (le_z a b) refl
  where
    go : (t : Bool) → le_z a b ≡ t → le_z a b ≡ true
    go true e = e
    go false e = absurd (omega (arith, ints))

pub whole_le : (a b : ℤ) → a ≤ℤ b → whole a ≤F whole b
whole_le a b h = at_most_whole a b ∙ le_is a b h

pub whole_lt : (a b : ℕ) → a < b → whole (pos a) <F whole (pos b)
whole_lt a b h = at_most_whole (pos b) (pos a) ∙ grind arith

pub le_whole : (a b : ℤ) → whole a ≤F whole b → a ≤ℤ b
le_whole a b h = let e : le_z a b ≡ true = sym (at_most_whole a b) ∙ h in omega (arith, ints)

pub lt_whole : (a b : ℕ) → whole (pos a) <F whole (pos b) → a < b
lt_whole a b h = let e : le_z (pos b) (pos a) ≡ false = sym (at_most_whole (pos b) (pos a)) ∙ h in omega (arith, ints)

-- (s * p + t * q) / b, in parts
pub over : (m : ℕ) (s t p q : ℤ) → (of s ⊗ inv (of (pos (suc m)))) ⊗ of p ⊕ (of t ⊗ inv (of (pos (suc m)))) ⊗ of q ≡ mk ((s *ℤ p +ℤ t *ℤ q) /suc m)
unfolding ◌+F◌ ◌*F◌ inv_f
over m s t p q =
    sound (simp (divisor_product, divisor_one) (ring integers (divisor m ∷ s ∷ t ∷ p ∷ q ∷ [])
    ((ν 1 ∗ k1 ∗ ν 3 ∗ (k1 ∗ ν 0 ∗ k1) ∔ ν 2 ∗ k1 ∗ ν 4 ∗ (k1 ∗ ν 0 ∗ k1)) ∗ ν 0) ((ν 1 ∗ ν 3 ∔ ν 2 ∗ ν 4) ∗ (k1 ∗ ν 0 ∗ k1 ∗ (k1 ∗ ν 0 ∗ k1))) refl))

-- halves add up
pub halves_add : (m n : ℕ) → mk (halves (m + n)) ≡ mk (halves m) ⊕ mk (halves n)
unfolding ◌+F◌
halves_add m n =
    sound (simp divisor_product (sym (ring integers (pos m ∷ pos n ∷ divisor 1 ∷ []) ((ν 0 ∗ ν 2 ∔ ν 1 ∗ ν 2) ∗ ν 2) ((ν 0 ∔ ν 1) ∗ (ν 2 ∗ ν 2)) refl)))

pub halves_none : mk (halves 0) ≡ 𝟘
unfolding zero_f
halves_none = sound (zero-*ℤ (divisor 0) ∙ sym (zero-*ℤ (divisor 1)))

two : divisor 1 ≡ pos 2
unfolding divisor
two = refl

pub two_halves : (n : ℕ) → mk (halves n) ⊕ mk (halves n) ≡ of (pos n)
unfolding ◌+F◌
two_halves n =
    sound (simp (divisor_product, divisor_one, two) (ring integers (pos n ∷ []) ((ν 0 ∗ (k1 ∔ k1) ∔ ν 0 ∗ (k1 ∔ k1)) ∗ k1) (ν 0 ∗ ((k1 ∔ k1) ∗ (k1 ∔ k1))) refl))

some : (m : ℕ) → divisor m ≡ pos (suc m)
unfolding divisor
some m = refl

not_above : (y z : ℤ) (b : ℕ) → nat_abs (z -ℤ y) * 2 ≤ b → (y *ℤ pos 2) ≤ℤ (z *ℤ pos 2 +ℤ pos b)
not_above y z b h = omega (arith, ints)

not_below : (y z : ℤ) (b : ℕ) → nat_abs (z -ℤ y) * 2 ≤ b → (z *ℤ pos 2) ≤ℤ (y *ℤ pos 2 +ℤ pos b)
not_below y z b h = omega (arith, ints)

-- a whole number z is at most half a step from n / b where 2 |n - b z| is at most b
module _ (z n : ℤ) (m : ℕ) (near : nat_abs (n -ℤ (pos (suc m) *ℤ z)) * 2 ≤ suc m) where
  rounded_above : whole z ≤F (n /suc m) +F halves 1
  unfolding at_most ◌+F◌
  rounded_above =
      ap₂ le_z (ap (λ y. z *ℤ y) (divisor_product m 1) ∙ ring integers (z ∷ divisor m ∷ divisor 1 ∷ []) (ν 0 ∗ (ν 1 ∗ ν 2)) (ν 1 ∗ ν 0 ∗ ν 2) refl ∙ ap₂ (λ a b. a *ℤ z *ℤ b) (some m) two)
      (one_divisor (n *ℤ divisor 1 +ℤ pos 1 *ℤ divisor m) ∙ ring integers (n ∷ divisor m ∷ divisor 1 ∷ []) (ν 0 ∗ ν 2 ∔ k1 ∗ ν 1) (ν 0 ∗ ν 2 ∔ ν 1) refl ∙ ap₂ (λ a b. n *ℤ a +ℤ b) two (some m))
      ∙ le_is _ _ (not_above (pos (suc m) *ℤ z) n (suc m) near)

  rounded_below : n /suc m ≤F whole z +F halves 1
  unfolding at_most ◌+F◌
  rounded_below =
      ap₂ le_z (ap (λ y. n *ℤ y) (divisor_product 0 1) ∙ ap₂ (λ a b. n *ℤ (a *ℤ b)) divisor_one two ∙ ring integers (n ∷ pos 2 ∷ []) (ν 0 ∗ (k1 ∗ ν 1)) (ν 0 ∗ ν 1) refl)
      (ap₂ (λ a b. (z *ℤ a +ℤ pos 1 *ℤ b) *ℤ divisor m) two divisor_one ∙ ring integers (z ∷ pos 2 ∷ divisor m ∷ []) ((ν 0 ∗ ν 1 ∔ k1 ∗ k1) ∗ ν 2) (ν 2 ∗ ν 0 ∗ ν 1 ∔ ν 2) refl
      ∙ ap (λ a. a *ℤ z *ℤ pos 2 +ℤ a) (some m))
      ∙ le_is _ _ (not_below (pos (suc m) *ℤ z) n (suc m) near)

  pub rounded_near : Near quotient_field (mk (halves 1)) (of z) (mk (n /suc m))
  rounded_near = (le_to (whole z) ((n /suc m) +F halves 1) rounded_above, le_to (n /suc m) (whole z +F halves 1) rounded_below)

pub rounded_exact : (z n : ℤ) (m : ℕ) → n ≡ pos (suc m) *ℤ z → of z ≡ mk (n /suc m)
rounded_exact z n m e =
    sound (ring integers (z ∷ divisor m ∷ []) (ν 0 ∗ ν 1) (ν 1 ∗ ν 0) refl ∙ ap (λ y. y *ℤ z) (some m) ∙ sym e ∙ sym (one_divisor n))
