use Rattle.points.specs.Lists.{blend_point}
use Rattle.points.proofs.Coordinates.{blend_is_point}
use Rattle.points.proofs.Shapes.{taken_point}
use Rattle.points.proofs.blend.blend_points.Goals as goal

pub of-requires : goal.of-requires
of-requires g c =
    let width = g.P.Point.WIDTH in
    let passes = g.P.Point.passes in
    let a = c.args.at.part in
    let b = c.args.at.whole in
    let xs = g.P.Point.told c.args.p.now in
    let ys = g.P.Point.told c.args.q.now in
    let p = g.met.P.Point.points c.args.p.now in
    let q = g.met.P.Point.points c.args.q.now in
    let r = c.args.at.proper in
    let point = blend_is_point a b r width passes xs ys p q (g.met.P.Point.blends a b xs ys r p q) in
    let all = taken_point width c.WIDTH.result passes (blend_point a b xs ys) c.means-means.result.value c.WIDTH.ensures c.means-means.ensures.value point in
    record { point = all.0; listed = all.1 }
