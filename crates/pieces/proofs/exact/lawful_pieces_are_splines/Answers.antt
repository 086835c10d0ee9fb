use Rattle.pieces.proofs.AsSplines.{lawful_pieces_are_splines}
use Rattle.pieces.proofs.exact.lawful_pieces_are_splines.Goals as goal

pub returns : goal.returns
returns c = lawful_pieces_are_splines
