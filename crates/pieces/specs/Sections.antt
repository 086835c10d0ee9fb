-- Why a drawing makes no section.
use Rattle.std.specs.Prelude.{ℕ, Bool, List, ℤ, Some, None, Option}
use Rattle.std.specs.Option.{option_map}
use Rattle.refusals.specs.declared.piece.PieceFault.{PieceFault}
use Rattle.refusals.specs.declared.point.PointFault.{PointFault}
use Rattle.refusals.specs.declared.section.SectionFault.{SectionFault}
use Rattle.refusals.specs.declared.section.SectionFault.TheVariants.{Piece, Point}
use Rattle.knots.specs.Lawful.{piece_refusal}
use Rattle.points.specs.Rows.{row_refusal}

-- a fault of the piece, if any, else one of the points
abbrev pub piece_then_points : Option PieceFault → Option PointFault → Option SectionFault
piece_then_points (Some e) points = Some (Piece e)
piece_then_points None points = option_map Point points

-- for a kind of that width and test: first the causes of degree, number of points and knots, then those of the points
abbrev pub section_refusal : ℕ → (List ℤ → Bool) → ℤ → ℕ → List ℤ → List (List ℤ) → Option SectionFault
section_refusal width passes degree count knots points = piece_then_points (piece_refusal degree count knots) (row_refusal width passes 0 points)
