use Rattle.splines.proofs.Splitting.{splitting_keeps_the_curve}
use Rattle.splines.proofs.splitting_keeps_the_curve.Goals as goal

pub returns : goal.returns
returns c = splitting_keeps_the_curve
