use Rattle.std.proofs.Common.{rules, tests, arith, ◌^◌}
use Rattle.std.proofs.lemmas.Iterator.{YieldsList-from_slice}
use Rattle.std.proofs.lemmas.Iterator.Adapters.{at_most_from_yields_List, fits_from_length}
use Rattle.knots.proofs.judge.occurrences.Goals as goal

-- each knot counts for one at most, and a slice has at most 2^63 of them
pub sum-requires-clause-fits : goal.sum-requires-clause-fits
sum-requires-clause-fits c = fits_from_length _ _ (2 ^ 63) _ (at_most_from_yields_List (YieldsList-from_slice c.args.knots.now cc) (let b = c.iter.ensures.bound in omega arith)) c.map.ensures.closure (omega arith) (λ x r q k. search (rules, tests))
