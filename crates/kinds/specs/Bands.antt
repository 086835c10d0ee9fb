-- The test of a band.
use Rattle.std.specs.Prelude.{Bool, List, ℤ, pos, int_le, slice_index_or}

-- its low is at most its high
abbrev pub rising : List ℤ → Bool
rising xs = int_le (slice_index_or xs 0 (pos 0)) (slice_index_or xs 1 (pos 0))
