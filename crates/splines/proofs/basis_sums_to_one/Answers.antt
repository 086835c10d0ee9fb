use Rattle.splines.proofs.Spans.{basis_sums_to_one}
use Rattle.splines.proofs.basis_sums_to_one.Goals as goal

pub returns : goal.returns
returns c = basis_sums_to_one
