use Rattle.splines.proofs.Raising.{raising_keeps_the_curve}
use Rattle.splines.proofs.raising_keeps_the_curve.Goals as goal

pub returns : goal.returns
returns c = raising_keeps_the_curve
