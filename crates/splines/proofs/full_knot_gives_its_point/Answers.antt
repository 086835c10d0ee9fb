use Rattle.splines.proofs.Spans.{full_knot_gives_its_point}
use Rattle.splines.proofs.full_knot_gives_its_point.Goals as goal

pub returns : goal.returns
returns c = full_knot_gives_its_point
