-- The grid's coordinates and their blend: the one rounding rule of the unit.
use Rattle.std.specs.Prelude.{◌≡◌, ℕ, ◌-◌, ◌*◌, ◌^◌, ◌≤◌, Bool, false, not, ℤ, pos, ◌+ℤ◌, ◌-ℤ◌, ◌*ℤ◌, ◌≤ℤ◌, ◌==◌, nat_le, unsigned_abs}
use Rattle.std.specs.Int.{int_div_euclid, int_rem_euclid, int_min, int_max}

-- the greatest coordinate; the least is its negative
abbrev pub limit : ℕ
limit = 2 ^ 30

-- a coordinate is a whole number from -2^30 to 2^30
abbrev pub IsCoordinate : ℤ → Type 0
IsCoordinate z = unsigned_abs z ≤ limit

abbrev pub is_coordinate : ℤ → Bool
is_coordinate z = nat_le (unsigned_abs z) limit

-- a of b: where between two points a blend is taken
pub record IsRatio (a b : ℕ) : Type 0 where
  pub part : a ≤ b
  pub some : 1 ≤ b
  pub most : b ≤ 2 ^ 20

-- b times the exact mean: (b - a) * p + a * q
abbrev pub weighted : ℤ → ℤ → ℕ → ℕ → ℤ
weighted p q a b = (pos (b - a) *ℤ p) +ℤ (pos a *ℤ q)

-- the whole number nearest to z / b, of two equally near the larger: the floor of z / b + 1/2
unfoldable pub nearest : ℤ → ℕ → ℤ
nearest z b = int_div_euclid (z *ℤ pos 2 +ℤ pos b) (pos (b * 2))

-- z / b is not whole
unfoldable pub fractional : ℤ → ℕ → Bool
fractional z b = not (unsigned_abs (int_rem_euclid z (pos b)) == 0)

-- the blend of the coordinates p and q at a of b, and whether it is inexact
unfoldable pub blended : ℤ → ℤ → ℕ → ℕ → ℤ
blended p q a b = nearest (weighted p q a b) b

unfoldable pub inexact : ℤ → ℤ → ℕ → ℕ → Bool
inexact p q a b = fractional (weighted p q a b) b

-- What every blend keeps; all that stands above the grid leans on these laws and not on the rule for ties.
pub record BlendLaw (p q : ℤ) (a b : ℕ) (mean : ℤ) (rough : Bool) : Type 0 where
  -- at most half a step from the exact mean
  pub near : unsigned_abs (weighted p q a b -ℤ (pos b *ℤ mean)) * 2 ≤ b
  -- exact exactly where b divides the weighted sum
  pub exact : rough ≡ false → weighted p q a b ≡ pos b *ℤ mean
  pub divisible : (n : ℤ) → weighted p q a b ≡ pos b *ℤ n → rough ≡ false
  -- between p and q
  pub low : int_min p q ≤ℤ mean
  pub high : mean ≤ℤ int_max p q
  -- it never falls as its two rise
  pub rises : (p' q' : ℤ) → p ≤ℤ p' → q ≤ℤ q' → mean ≤ℤ blended p' q' a b
  -- at none of b it is p, at all of b it is q
  pub first : a ≡ 0 → mean ≡ p
  pub last : a ≡ b → mean ≡ q
