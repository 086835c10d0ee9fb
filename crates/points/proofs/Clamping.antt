-- What stored numbers tell.
use Rattle.std.proofs.Common.{◌≡◌, ℤ, arith}
use borrow.Author.Differences.{ints}
use Rattle.std.specs.Int.{int_min, int_max}
use Rattle.std.proofs.lemmas.Int.{clamps}
use Rattle.grid.specs.Blend.{IsCoordinate}
use Rattle.points.specs.Stored.{clamped}

-- a coordinate is told as it is, and whatever is told is a coordinate
pub clamped_is : (z : ℤ) → IsCoordinate z → clamped z ≡ z
unfolding clamped
clamped_is z h = omega (arith, ints, clamps)

pub clamped_coordinate : (z : ℤ) → IsCoordinate (clamped z)
unfolding clamped
clamped_coordinate z = omega (arith, ints, clamps)

pub coordinate_least : (x y : ℤ) → IsCoordinate x → IsCoordinate y → IsCoordinate (int_min x y)
coordinate_least x y p q = omega (arith, ints, clamps)

pub coordinate_greatest : (x y : ℤ) → IsCoordinate x → IsCoordinate y → IsCoordinate (int_max x y)
coordinate_greatest x y p q = omega (arith, ints, clamps)
