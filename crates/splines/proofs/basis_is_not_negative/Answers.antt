use Rattle.splines.proofs.Spans.{basis_is_not_negative}
use Rattle.splines.proofs.basis_is_not_negative.Goals as goal

pub returns : goal.returns
returns c = basis_is_not_negative
