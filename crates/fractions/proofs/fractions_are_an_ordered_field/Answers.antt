use Rattle.fractions.proofs.Laws.{ordered_field}
use Rattle.fractions.proofs.fractions_are_an_ordered_field.Goals as goal

pub returns : goal.returns
returns c = ordered_field
