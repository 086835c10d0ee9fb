-- The names of the layers, and a whole refusal, as they are told.
use Rattle.std.specs.Prelude.{ℕ, List, ◌++◌, codes, decimal}
use Rattle.refusals.specs.declared.report.Layer.{Layer}
use Rattle.refusals.specs.declared.report.Layer.TheVariants.{Text, Bench, Piece, Point, Outline}
use Rattle.refusals.specs.declared.report.Report.{Report}

abbrev pub layer_name : Layer → List ℕ
layer_name Text = codes "text"
layer_name Bench = codes "bench"
layer_name Piece = codes "piece"
layer_name Point = codes "point"
layer_name Outline = codes "outline"

abbrev pub report_text : Report → List ℕ
report_text report = decimal report.number ++ codes " " ++ layer_name report.layer ++ codes " " ++ decimal report.place
