use Rattle.std.proofs.Common.{◌≤◌, ◌+◌, [], map}
use Rattle.pieces.specs.Triangle.{between, inexact_between}
use Rattle.pieces.proofs.Sweeps.{Swept}
use Rattle.pieces.proofs.triangle.Window.round.Given as goal

abbrev pub invariant-loop-j : goal.invariant-loop-j
invariant-loop-j g l =
    let told = g.P.Point.told in
    let d = l.self.degree in
    let make = between d l.self.knots.now l.self.u l.r in
    let test = inexact_between d l.self.knots.now l.self.u l.r in
    (l.r ≤ l.j) × Swept [] make test d (map told l.initial.room) (l.j + 1) (map told l.room) l.inexact
