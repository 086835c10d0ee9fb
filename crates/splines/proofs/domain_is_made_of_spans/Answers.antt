use Rattle.splines.proofs.Spans.{domain_is_made_of_spans}
use Rattle.splines.proofs.domain_is_made_of_spans.Goals as goal

pub returns : goal.returns
returns c = domain_is_made_of_spans
