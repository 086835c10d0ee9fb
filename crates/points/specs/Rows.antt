-- Rows of points, given as a list of lists.
use Rattle.std.specs.Prelude.{ℕ, ◌+◌, Bool, List, [], ◌∷◌, length, ℤ, Some, None, Option}
use Rattle.refusals.specs.declared.point.PointFault.{PointFault}
use Rattle.refusals.specs.declared.point.PointFault.TheVariants.{Count, Range, Test}
use Rattle.points.specs.Lists.{point_refusal}

-- a fault of a list that stands after so many coordinates: an index is counted through all of them
abbrev pub placed_after : ℕ → PointFault → PointFault
placed_after before Count = Count
placed_after before (Range i) = Range (before + i)
placed_after before Test = Test

-- the first fault, if any, else what comes after it
abbrev pub or_else : ℕ → Option PointFault → Option PointFault → Option PointFault
or_else before None rest = rest
or_else before (Some fault) rest = Some (placed_after before fault)

-- why lists are no row of points of a kind: the lists are tried in order, after so many coordinates before them
abbrev pub row_refusal : ℕ → (List ℤ → Bool) → ℕ → List (List ℤ) → Option PointFault
row_refusal width passes before [] = None
row_refusal width passes before (xs ∷ lists) = or_else before (point_refusal width passes xs) (row_refusal width passes (before + length xs) lists)
