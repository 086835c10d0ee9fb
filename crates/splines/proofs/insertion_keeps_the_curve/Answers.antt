use Rattle.splines.proofs.Insertion.{insertion_keeps_the_curve}
use Rattle.splines.proofs.insertion_keeps_the_curve.Goals as goal

pub returns : goal.returns
returns c = insertion_keeps_the_curve
