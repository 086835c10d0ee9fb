use Rattle.splines.proofs.Spans.{only_its_own_knots_and_points_count}
use Rattle.splines.proofs.only_its_own_knots_and_points_count.Goals as goal

pub returns : goal.returns
returns c = only_its_own_knots_and_points_count
