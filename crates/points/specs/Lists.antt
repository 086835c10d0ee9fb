-- Points as lists of coordinates: what makes one, its blend and its flip.
use Rattle.std.specs.Prelude.{◌≡◌, ℕ, Bool, true, false, cond, not, ◌||◌, List, [], ◌∷◌, map, length, get_or, ℤ, pos, neg_ℤ, None, Option, ◌==◌, slice_index_or}
use Rattle.std.specs.List.{range_with_len}
use Rattle.grid.specs.Blend.{IsCoordinate, is_coordinate, blended, inexact}
use Rattle.refusals.specs.Order.{unless, at}
use Rattle.grid.specs.Search.{first_where}
use Rattle.refusals.specs.declared.point.PointFault.{PointFault}
use Rattle.refusals.specs.declared.point.PointFault.TheVariants.{Count, Range, Test}

-- a list is a point of a kind where it has the kind's width, its coordinates are in range (0 stands past the last one),
-- and it passes the kind's test
pub record IsPoint (width : ℕ) (passes : List ℤ → Bool) (xs : List ℤ) : Type 0 where
  pub long : length xs ≡ width
  pub ranged : (i : ℕ) → IsCoordinate (slice_index_or xs i (pos 0))
  pub passed : passes xs ≡ true

-- the first n coordinates of a list, one by one
abbrev pub coordinates : ℕ → List ℤ → List ℤ
coordinates n xs = map (λ i. get_or xs i (pos 0)) (range_with_len 0 n)

-- why a list has not the shape of a point: the wrong number of coordinates, then the first one out of range
abbrev pub misshapen : ℕ → List ℤ → Option PointFault → Option PointFault
misshapen width xs after =
    unless (length xs == width) Count
    (at (first_where (λ i. not (is_coordinate (slice_index_or xs i (pos 0)))) 0 (length xs)) Range
    after)

-- why a list is no point of a kind: its shape, then the kind's test
abbrev pub point_refusal : ℕ → (List ℤ → Bool) → List ℤ → Option PointFault
point_refusal width passes xs = misshapen width xs (unless (passes xs) Test None)

-- For every width and test the causes refuse no point, and all else.
abbrev pub RefusesWhatIsNoPoint : Type 0
RefusesWhatIsNoPoint =
    (width : ℕ) (passes : List ℤ → Bool) (xs : List ℤ) → (point_refusal width passes xs ≡ None → IsPoint width passes xs) × (IsPoint width passes xs → point_refusal width passes xs ≡ None)

-- the blend of two points at a of b, coordinate by coordinate
abbrev pub blend_point : ℕ → ℕ → List ℤ → List ℤ → List ℤ
blend_point a b [] ys = []
blend_point a b (x ∷ xs) [] = []
blend_point a b (x ∷ xs) (y ∷ ys) = blended x y a b ∷ blend_point a b xs ys

-- that blend is inexact in some coordinate
abbrev pub inexact_point : ℕ → ℕ → List ℤ → List ℤ → Bool
inexact_point a b [] ys = false
inexact_point a b (x ∷ xs) [] = false
inexact_point a b (x ∷ xs) (y ∷ ys) = inexact_point a b xs ys || inexact x y a b

-- how a flip fills one coordinate: from which, and whether with its negative
pub record Turn : Type 0 where
  pub from : ℕ
  pub negative : Bool

abbrev pub kept : ℕ → Turn
kept i = record { from = i; negative = false }

abbrev pub negated : ℕ → Turn
negated i = record { from = i; negative = true }

abbrev pub turned : Turn → List ℤ → ℤ
turned t xs = cond t.negative (neg_ℤ (slice_index_or xs t.from (pos 0))) (slice_index_or xs t.from (pos 0))

-- the flip that a list of turns describes, one for each coordinate
abbrev pub flipped : List Turn → List ℤ → List ℤ
flipped turns xs = map (λ t. turned t xs) turns

-- the test of a kind that has none
abbrev pub unconditional : List ℤ → Bool
unconditional xs = true
