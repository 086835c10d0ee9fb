use Rattle.splines.proofs.Spans.{spline_lies_between_governing_points}
use Rattle.splines.proofs.spline_lies_between_governing_points.Goals as goal

pub returns : goal.returns
returns c = spline_lies_between_governing_points
