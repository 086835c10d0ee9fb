-- Fractions: a whole number over a divisor above 0. They are equal, added, multiplied and compared by cross products.
use Rattle.std.specs.Prelude.{ℕ, zero, suc, ◌+◌, ◌*◌, ◌≡◌, Bool, true, false, ℤ, pos, negsuc, neg_ℤ, ◌+ℤ◌, ◌*ℤ◌, nat_abs}
use Rattle.std.specs.Int.Signed.{le_z}

infix 75 ◌/suc◌
infixl 60 ◌+F◌ ◌-F◌
infixl 70 ◌*F◌ ◌/F◌
infix 40 ◌≈◌ ◌≤F◌ ◌<F◌
-- p /suc q is p / (q + 1): what is kept is one less than the divisor, so that no divisor is 0
pub data Fraction : Type 0 where
  ◌/suc◌ : ℤ → ℕ → Fraction

-- the divisor q + 1, as a whole number
unfoldable pub divisor : ℕ → ℤ
divisor q = pos (suc q)

-- (q + 1) * (s + 1), less 1: what is kept of the divisor of a sum or product
unfoldable pub product_less_one : ℕ → ℕ → ℕ
product_less_one q s = q + s + q * s

-- p / (q + 1) and r / (s + 1) are the same fraction where p * (s + 1) and r * (q + 1) are the same number
abbrev pub ◌≈◌ : Fraction → Fraction → Type 0
p /suc q ≈ r /suc s = p *ℤ divisor s ≡ r *ℤ divisor q

-- whether the first is at most the second
unfoldable pub at_most : Fraction → Fraction → Bool
at_most (p /suc q) (r /suc s) = le_z (p *ℤ divisor s) (r *ℤ divisor q)

abbrev pub ◌≤F◌ : Fraction → Fraction → Type 0
x ≤F y = at_most x y ≡ true

-- x is below y where y is not at most x
abbrev pub ◌<F◌ : Fraction → Fraction → Type 0
x <F y = at_most y x ≡ false

-- a whole number as a fraction
abbrev pub whole : ℤ → Fraction
whole z = z /suc 0

unfoldable pub zero_f : Fraction
zero_f = whole (pos 0)

unfoldable pub one_f : Fraction
one_f = whole (pos 1)

unfoldable pub ◌+F◌ : Fraction → Fraction → Fraction
p /suc q +F r /suc s = (p *ℤ divisor s +ℤ r *ℤ divisor q) /suc product_less_one q s

unfoldable pub neg_f : Fraction → Fraction
neg_f (p /suc q) = neg_ℤ p /suc q

abbrev pub ◌-F◌ : Fraction → Fraction → Fraction
x -F y = x +F neg_f y

unfoldable pub ◌*F◌ : Fraction → Fraction → Fraction
p /suc q *F r /suc s = (p *ℤ r) /suc product_less_one q s

-- the inverse; that of 0 counts as 0
unfoldable pub inv_f : Fraction → Fraction
inv_f (pos zero /suc q) = whole (pos 0)
inv_f (pos (suc n) /suc q) = divisor q /suc n
inv_f (negsuc n /suc q) = neg_ℤ (divisor q) /suc n

-- the quotient; one with divisor 0 counts as 0
abbrev pub ◌/F◌ : Fraction → Fraction → Fraction
x /F y = x *F inv_f y

-- how far two fractions are apart: the magnitude of their difference
unfoldable pub magnitude : Fraction → Fraction
magnitude (p /suc q) = pos (nat_abs p) /suc q

abbrev pub distance : Fraction → Fraction → Fraction
distance x y = magnitude (x -F y)

-- n halves
abbrev pub halves : ℕ → Fraction
halves n = pos n /suc 1

-- f 0 + f 1 + .. + f (n - 1)
unfoldable pub sum_f : ℕ → (ℕ → Fraction) → Fraction
sum_f zero f = zero_f
sum_f (suc n) f = sum_f n f +F f n
