-- The closed list of causes: number, layer and place of every fault.
use Rattle.std.specs.Prelude.{ℕ}
use Rattle.refusals.specs.declared.report.Layer.{Layer}
use Rattle.refusals.specs.declared.report.Layer.TheVariants as layer
use Rattle.refusals.specs.declared.report.Report.{Report}
use Rattle.refusals.specs.declared.point.PointFault.{PointFault}
use Rattle.refusals.specs.declared.point.PointFault.TheVariants as point
use Rattle.refusals.specs.declared.piece.PieceFault.{PieceFault}
use Rattle.refusals.specs.declared.piece.PieceFault.TheVariants as piece
use Rattle.refusals.specs.declared.section.SectionFault.{SectionFault}
use Rattle.refusals.specs.declared.section.SectionFault.TheVariants as section

abbrev cause : ℕ → Layer → ℕ → Report
cause number layer place = record { number = number; layer = layer; place = place }

abbrev pub point_report : PointFault → Report
point_report point.Count = cause 10 layer.Point 0
point_report (point.Range i) = cause 10 layer.Point i
point_report point.Test = cause 10 layer.Point 0

abbrev pub piece_report : PieceFault → Report
piece_report piece.Degree = cause 4 layer.Piece 0
piece_report piece.Count = cause 5 layer.Piece 0
piece_report piece.KnotCount = cause 6 layer.Piece 0
piece_report (piece.KnotRange i) = cause 7 layer.Piece i
piece_report (piece.KnotFalls i) = cause 8 layer.Piece i
piece_report piece.KnotRepeats = cause 9 layer.Piece 0
piece_report piece.OffDomain = cause 23 layer.Piece 0

-- a fault that is carried up keeps what it tells
abbrev pub section_report : SectionFault → Report
section_report (section.Piece e) = piece_report e
section_report (section.Point e) = point_report e
