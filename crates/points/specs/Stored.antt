-- What a stored number tells: every number that a record can hold counts as a coordinate.
use Rattle.std.specs.Prelude.{ℤ, pos, neg_ℤ}
use Rattle.std.specs.Int.{int_max, int_min}
use Rattle.grid.specs.Blend.{limit}

-- the number, or the nearest limit where it is out of range
unfoldable pub clamped : ℤ → ℤ
clamped z = int_max (neg_ℤ (pos limit)) (int_min z (pos limit))
