-- Worked examples, in one table: what is read on the grid, and the exact numbers beside it.
use Rattle.std.specs.Prelude.{◌≡◌, ℕ, ◌+◌, List, [], ◌∷◌, ◌++◌, map, ℤ, pos, negsuc, Some, None}
use Rattle.std.specs.List.{range_with_len}
use Rattle.fractions.specs.Fractions.{Fraction, ◌/suc◌, ◌≈◌, whole}
use Rattle.splines.specs.Splines.{Spline, value_at}
use Rattle.splines.specs.Edits.{inserted, inserted_times, left_half, right_half, raised}
use Rattle.refusals.specs.Causes.{piece_report}
use Rattle.refusals.specs.declared.piece.PieceFault.TheVariants.{OffDomain}
use Rattle.pieces.specs.Curves.{curve}
use Rattle.pieces.specs.Reading.{reading}

-- degree, knots and control points
pub record Section : Type 0 where
  pub degree : ℕ
  pub knots : List ℕ
  pub points : List (List ℤ)

-- the control points of a spline, and its knots, in order
abbrev pub controls : Spline → List Fraction
controls s = map s.points (range_with_len 0 s.count)

abbrev pub knot_list : Spline → List Fraction
knot_list s = map s.knots (range_with_len 0 (s.count + s.degree + 1))

-- An example says what a section answers at a parameter, a point and a number of rounds or the number of a refusal, or which exact
-- numbers are worked out.
pub data Example : Type 0 where
  reads : Section → ℤ → List ℤ → ℕ → Example
  refuses : Section → ℤ → ℕ → Example
  exactly : List Fraction → List Fraction → Example

-- the same numbers, place by place
abbrev pub Same : List Fraction → List Fraction → Type 0
Same [] [] = Unit {0}
Same [] (y ∷ ys) = ⊥
Same (x ∷ xs) [] = ⊥
Same (x ∷ xs) (y ∷ ys) = (x ≈ y) × Same xs ys

abbrev pub Stands : Example → Type 0
Stands (reads s u p rounds) = reading s.degree s.knots s.points u ≡ Some (p, rounds)
Stands (refuses s u number) = (reading s.degree s.knots s.points u ≡ None) × ((piece_report OffDomain).number ≡ number)
Stands (exactly worked numbers) = Same worked numbers

abbrev pub AllStand : List Example → Type 0
AllStand [] = Unit {0}
AllStand (e ∷ es) = Stands e × AllStand es

-- coordinate c of a section
abbrev pub coordinate : ℕ → Section → Spline
coordinate c s = curve s.degree s.knots s.points c

-- x and y of a plane section at u, exactly
abbrev pub exact_at : Section → ℤ → List Fraction
exact_at s u = value_at (coordinate 0 s) (whole u) ∷ value_at (coordinate 1 s) (whole u) ∷ []

-- the control points that an edit leaves: first every x, then every y
abbrev pub polygon : (Spline → Spline) → Section → List Fraction
polygon edit s = controls (edit (coordinate 0 s)) ++ controls (edit (coordinate 1 s))

-- and the knots, which are the same for both
abbrev pub knots_left : (Spline → Spline) → Section → List Fraction
knots_left edit s = knot_list (edit (coordinate 0 s))

abbrev pub point : ℤ → ℤ → List ℤ
point x y = x ∷ y ∷ []

abbrev pub arch : Section
arch = record {
  degree = 2;
  knots = 0 ∷ 0 ∷ 0 ∷ 4 ∷ 8 ∷ 8 ∷ 8 ∷ [];
  points = point (pos 0) (pos 0) ∷ point (pos 4) (pos 8) ∷ point (pos 12) (pos 8) ∷ point (pos 16) (pos 0) ∷ [];
}

-- its halves, split at 4
abbrev pub left_of_arch : Section
left_of_arch = record { degree = 2; knots = 0 ∷ 0 ∷ 0 ∷ 4 ∷ 4 ∷ 4 ∷ []; points = point (pos 0) (pos 0) ∷ point (pos 4) (pos 8) ∷ point (pos 8) (pos 8) ∷ [] }

abbrev pub right_of_arch : Section
right_of_arch = record { degree = 2; knots = 4 ∷ 4 ∷ 4 ∷ 8 ∷ 8 ∷ 8 ∷ []; points = point (pos 8) (pos 8) ∷ point (pos 12) (pos 8) ∷ point (pos 16) (pos 0) ∷ [] }

-- two lines, and the longer one after 1 was inserted on the grid
abbrev pub line : Section
line = record { degree = 1; knots = 0 ∷ 0 ∷ 3 ∷ 3 ∷ []; points = point (pos 0) (pos 0) ∷ point (pos 2) (negsuc 1) ∷ [] }

abbrev pub short_line : Section
short_line = record { degree = 1; knots = 0 ∷ 0 ∷ 2 ∷ 2 ∷ []; points = point (pos 0) (pos 0) ∷ point (pos 1) (negsuc 0) ∷ [] }

abbrev pub bent_line : Section
bent_line = record { degree = 1; knots = 0 ∷ 0 ∷ 1 ∷ 3 ∷ 3 ∷ []; points = point (pos 0) (pos 0) ∷ point (pos 1) (negsuc 0) ∷ point (pos 2) (negsuc 1) ∷ [] }

abbrev pub naturals : List ℕ → List Fraction
naturals ns = map (λ n. whole (pos n)) ns

-- the halves of a split at 4, which stands once, as knot 3, and so is inserted once more
abbrev pub left_at_four : Spline → Spline
left_at_four s = left_half 4 (whole (pos 4)) (inserted_times 1 3 (whole (pos 4)) s)

abbrev pub right_at_four : Spline → Spline
right_at_four s = right_half 4 (whole (pos 4)) (inserted_times 1 3 (whole (pos 4)) s)

abbrev pub table : List Example
table =
    -- readings of the arch, with the number of inexact rounds, and its exact points
    reads arch (pos 1) (point (pos 2) (pos 4)) 1
    ∷ exactly (exact_at arch (pos 1)) (whole (pos 2) ∷ pos 7 /suc 1 ∷ [])
    ∷ reads arch (pos 2) (point (pos 4) (pos 6)) 0
    ∷ exactly (exact_at arch (pos 2)) (naturals (4 ∷ 6 ∷ []))
    ∷ reads arch (pos 4) (point (pos 8) (pos 8)) 0
    ∷ exactly (exact_at arch (pos 4)) (naturals (8 ∷ 8 ∷ []))
    ∷ reads arch (pos 7) (point (pos 14) (pos 4)) 1
    ∷ exactly (exact_at arch (pos 7)) (whole (pos 14) ∷ pos 7 /suc 1 ∷ [])
    -- its end is off the domain
    ∷ refuses arch (pos 8) 23
    -- ties go up, below zero too
    ∷ reads bent_line (pos 2) (point (pos 2) (negsuc 0)) 1
    ∷ exactly (exact_at bent_line (pos 2)) (pos 3 /suc 1 ∷ negsuc 2 /suc 1 ∷ [])
    -- 2 inserted into the arch, behind knot 2
    ∷ exactly (polygon (inserted 2 (whole (pos 2))) arch) (naturals (0 ∷ 2 ∷ 6 ∷ 12 ∷ 16 ∷ 0 ∷ 4 ∷ 8 ∷ 8 ∷ 0 ∷ []))
    ∷ exactly (knots_left (inserted 2 (whole (pos 2))) arch) (naturals (0 ∷ 0 ∷ 0 ∷ 2 ∷ 4 ∷ 8 ∷ 8 ∷ 8 ∷ []))
    -- the arch split at 4
    ∷ exactly (polygon left_at_four arch) (naturals (0 ∷ 4 ∷ 8 ∷ 0 ∷ 8 ∷ 8 ∷ []))
    ∷ exactly (knots_left left_at_four arch) (naturals (0 ∷ 0 ∷ 0 ∷ 4 ∷ 4 ∷ 4 ∷ []))
    ∷ exactly (polygon right_at_four arch) (naturals (8 ∷ 12 ∷ 16 ∷ 8 ∷ 8 ∷ 0 ∷ []))
    ∷ exactly (knots_left right_at_four arch) (naturals (4 ∷ 4 ∷ 4 ∷ 8 ∷ 8 ∷ 8 ∷ []))
    -- its halves, raised
    ∷ exactly (polygon raised left_of_arch) (whole (pos 0) ∷ pos 8 /suc 2 ∷ pos 16 /suc 2 ∷ whole (pos 8) ∷ whole (pos 0) ∷ pos 16 /suc 2 ∷ whole (pos 8) ∷ whole (pos 8) ∷ [])
    ∷ exactly (knots_left raised left_of_arch) (naturals (0 ∷ 0 ∷ 0 ∷ 0 ∷ 4 ∷ 4 ∷ 4 ∷ 4 ∷ []))
    ∷ exactly (knots_left raised right_of_arch) (naturals (4 ∷ 4 ∷ 4 ∷ 4 ∷ 8 ∷ 8 ∷ 8 ∷ 8 ∷ []))
    -- 1 inserted into the lines, behind knot 1
    ∷ exactly (polygon (inserted 1 (whole (pos 1))) line) (whole (pos 0) ∷ pos 2 /suc 2 ∷ whole (pos 2) ∷ whole (pos 0) ∷ negsuc 1 /suc 2 ∷ whole (negsuc 1) ∷ [])
    ∷ exactly (polygon (inserted 1 (whole (pos 1))) short_line) (whole (pos 0) ∷ pos 1 /suc 1 ∷ whole (pos 1) ∷ whole (pos 0) ∷ negsuc 0 /suc 1 ∷ whole (negsuc 0) ∷ [])
    ∷ []

abbrev pub WorkedExamplesStand : Type 0
WorkedExamplesStand = AllStand table
