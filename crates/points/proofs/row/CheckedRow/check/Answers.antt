use Rattle.std.proofs.Common.{◌≤◌, sym, subst, mul-le-mul_left, arith}
use Rattle.points.proofs.Shapes.{fault_place}
use Rattle.points.proofs.row.CheckedRow.check.Goals as goal

pub placed-requires : goal.placed-requires
placed-requires g c =
    let narrow : c.WIDTH.result ≤ 4 = subst (λ n. n ≤ 4) (sym c.WIDTH.ensures) g.met.P.Point.narrow.1 in
    let place = fault_place g.P.Point.WIDTH g.P.Point.passes _ c.in-Err.fault c.in-Err.ensures in
    (omega (arith, mul-le-mul_left c.loop-i.i narrow), omega (arith, g.met.P.Point.narrow, place))
