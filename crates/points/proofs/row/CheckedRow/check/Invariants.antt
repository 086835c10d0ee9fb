use Rattle.std.proofs.Common.{◌≡◌, ◌*◌, map, drop}
use Rattle.points.specs.Rows.{row_refusal}
use Rattle.points.proofs.row.CheckedRow.check.Given as goal

-- the lists so far are refused by nothing, so that it is the others that count
abbrev pub invariant-loop-i : goal.invariant-loop-i
invariant-loop-i g l =
    let width = g.P.Point.WIDTH in
    let passes = g.P.Point.passes in
    row_refusal width passes 0 (map (λ x. x.now) l.lists) ≡ row_refusal width passes (l.i * width) (map (λ x. x.now) (drop l.i l.lists))
