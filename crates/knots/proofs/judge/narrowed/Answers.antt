use Rattle.std.proofs.Common.{ℤ, ℕ, arith, rules, below_more}
use Rattle.std.proofs.lemmas.List.{take_all, take_at, length-map}
use Rattle.std.proofs.lemmas.Result.{err_from_is_err_and}
use Rattle.knots.proofs.Judging.{outside_found, outside_none, store_more, kept_by_magnitudes}
use Rattle.knots.proofs.judge.narrowed.Goals as goal

pub returns-in_err-stored : goal.returns-in_err-stored
returns-in_err-stored c =
    let knots = c.args.knots.now in
    let found = outside_found knots c.loop-i.i c.loop-i.invariant.1 c.loop-i-test.true (search rules) in
    let p = err_from_is_err_and c.from_residual.result c.from_residual.ensures.1 in
    rw (p.1, p.2) (c.loop-i.i, found, search rules)

pub loop-i-preserved : goal.loop-i-preserved
loop-i-preserved c = grind (arith, store_more, below_more)

pub returns : goal.returns
returns c = grind (arith, outside_none, take_all {A = ℤ}, take_at {A = ℕ}, length-map {A = ℤ} {B = ℕ}, kept_by_magnitudes)
