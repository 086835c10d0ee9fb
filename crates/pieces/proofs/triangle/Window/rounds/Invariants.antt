use Rattle.std.proofs.Common.{◌-◌, ◌<◌, map}
use Rattle.pieces.proofs.Triangles.{Done}
use Rattle.pieces.proofs.triangle.Window.rounds.Given as goal

abbrev pub invariant-loop-r : goal.invariant-loop-r
invariant-loop-r g l =
    (l.count < l.r) × Done l.self.degree l.self.knots.now (map g.P.Point.told l.initial.room) l.self.u (l.r - 1) (map g.P.Point.told l.room) l.count
