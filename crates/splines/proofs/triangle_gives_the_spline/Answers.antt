use Rattle.splines.proofs.Spans.{triangle_gives_the_spline}
use Rattle.splines.proofs.triangle_gives_the_spline.Goals as goal

pub returns : goal.returns
returns c = triangle_gives_the_spline
