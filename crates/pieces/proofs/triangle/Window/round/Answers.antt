use Rattle.std.proofs.Common.{◌+◌, ◌-◌, ◌<◌, [], map, length, arith}
use lib.ListN.{length-map}
use Rattle.pieces.specs.Triangle.{between, inexact_between}
use Rattle.pieces.proofs.Sweeps.{swept_more}
use Rattle.pieces.proofs.triangle.Window.round.Goals as goal

pub loop-j-preserved : goal.loop-j-preserved
loop-j-preserved g c =
    let s = c.args.self.now in
    let make = between s.degree s.knots.now s.u c.args.r in
    let test = inexact_between s.degree s.knots.now s.u c.args.r in
    let old = map g.P.Point.told c.args.room.now in
    let xs = map g.P.Point.told c.loop-j.room in
    let ys = map g.P.Point.told c.blend_into-inexact.new.room in
    let j = c.loop-j.j in
    let n : j < length xs = simp length-map (omega arith) in (
      omega arith,
      swept_more [] make test s.degree old xs ys j (j - 1 + 1) c.loop-j.inexact c.blend_into-inexact.result (omega arith) (omega arith) (omega arith) n
          c.loop-j.invariant.1 c.blend_into-inexact.ensures.entry c.blend_into-inexact.ensures.inexact,
    )

pub returns-2 : goal.returns-2
returns-2 g c =
    let s = c.args.self.now in
    let make = between s.degree s.knots.now s.u c.args.r in
    let test = inexact_between s.degree s.knots.now s.u c.args.r in
    let old = map g.P.Point.told c.args.room.now in
    let xs = map g.P.Point.told c.loop-j.room in
    let ys = map g.P.Point.told c.blend_into-inexact.new.room in
    let j = c.loop-j.j in
    let n : j < length xs = simp length-map (omega arith) in
    let all = swept_more [] make test s.degree old xs ys j c.args.r c.loop-j.inexact c.blend_into-inexact.result (omega arith) (omega arith) (omega arith) n
    c.loop-j.invariant.1 c.blend_into-inexact.ensures.entry c.blend_into-inexact.ensures.inexact in
    record { entries = all.done; inexact = all.seen }
