-- Whole numbers in order: as a test and as a fact, the lesser and the greater of two, and their opposites.
use Rattle.std.specs.Prelude.{◌≡◌, true, ℤ, neg_ℤ, ◌≤ℤ◌, int_le}
use Rattle.std.proofs.Common.{arith}
use Rattle.std.specs.Int.{int_min, int_max}
use Rattle.std.proofs.lemmas.Int.{clamps, ints}

pub at_most : (x y : ℤ) → x ≤ℤ y → int_le x y ≡ true
at_most x y h = grind (arith, ints)

pub from_test : (x y : ℤ) → int_le x y ≡ true → x ≤ℤ y
from_test x y e = omega (arith, ints, e)

pub least_greatest : (x y : ℤ) → int_min x y ≤ℤ int_max x y
least_greatest x y = omega (arith, ints, clamps)

-- opposites come in the other order
pub opposites : (x y : ℤ) → x ≤ℤ y → neg_ℤ y ≤ℤ neg_ℤ x
opposites x y h = omega (arith, ints)
