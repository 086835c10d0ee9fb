use Rattle.std.proofs.Common.{◌≡◌, ℕ, ◌-◌, ◌<◌, true, ◌++◌, map, get_or, take, replicate, pos, nat_abs}
use Rattle.knots.specs.Lawful.{is_knot}
use Rattle.knots.proofs.judge.narrowed.Given as goal

abbrev pub invariant-loop-i : goal.invariant-loop-i
invariant-loop-i l =
    (l.stored ≡ map nat_abs (take l.i l.knots) ++ replicate (70 - l.i) 0)
    × ((k : ℕ) → k < l.i → is_knot (get_or l.knots k (pos 0)) ≡ true)
