use Rattle.splines.proofs.Spans.{spline_is_linear_in_its_points}
use Rattle.splines.proofs.spline_is_linear_in_its_points.Goals as goal

pub returns : goal.returns
returns c = spline_is_linear_in_its_points
