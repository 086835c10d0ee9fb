use Rattle.std.proofs.Common.{◌≡◌, map, length, take, drop}
use Rattle.points.proofs.row.CheckedRow.fill.Given as goal

abbrev pub invariant-loop-i : goal.invariant-loop-i
invariant-loop-i g l =
    (map g.P.Point.told (take l.i l.row) ≡ map (λ x. x.now) (take l.i l.self.lists.now))
    × (drop (length l.self.lists.now) l.row ≡ drop (length l.self.lists.now) l.initial.row)
