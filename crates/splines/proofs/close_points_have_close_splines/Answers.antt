use Rattle.splines.proofs.Spans.{close_points_have_close_splines}
use Rattle.splines.proofs.close_points_have_close_splines.Goals as goal

pub returns : goal.returns
returns c = close_points_have_close_splines
