use Rattle.points.proofs.Coordinates.{Made}
use Rattle.points.proofs.blend.means.Given as goal

abbrev pub invariant-loop-i : goal.invariant-loop-i
invariant-loop-i g l =
    let told = g.P.Point.told in
    Made l.at.part l.at.whole l.at.proper g.P.Point.WIDTH (told l.p) (told l.q) l.i l.means l.inexact
