use Rattle.std.proofs.Common.{◌≡◌, ℕ, ◌-◌, ◌<◌, ◌≤◌, false, ltb, get_or}
use Rattle.knots.proofs.judge.judge_order.Given as goal

abbrev pub invariant-loop-i : goal.invariant-loop-i
invariant-loop-i l = (k : ℕ) → 1 ≤ k → k < l.i → ltb (get_or l.knots k 0) (get_or l.knots (k - 1) 0) ≡ false
