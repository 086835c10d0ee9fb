use Rattle.std.proofs.Common.{◌≡◌, ◌+◌, ◌-◌, [], map, ◌∙◌, arith}
use Rattle.pieces.specs.Triangle.{entry, de_boor}
use Rattle.pieces.proofs.Rows.{told_at}
use Rattle.pieces.proofs.Triangles.{Done, round_done, at_most_one}
use Rattle.pieces.proofs.triangle.Window.rounds.Goals.{else-loop-r-test, then-loop-r-test+else-r-r-end}
use Rattle.pieces.proofs.triangle.Window.rounds.Goals as goal

pub loop-r-preserved : goal.loop-r-preserved
loop-r-preserved g c =
    let s = c.args.self.now in
    let one = at_most_one c.round.result in
    let next = round_done s.degree s.knots.now (map g.P.Point.told c.args.room.now) s.u c.loop-r.r (c.loop-r.r + 1 - 1) (map g.P.Point.told c.loop-r.room) (map g.P.Point.told c.round.new.room) c.loop-r.count
    c.round.result c.from-count.result (omega arith) (omega arith) (omega arith) c.from-count.ensures c.loop-r.invariant.1 c.round.ensures.entries c.round.ensures.inexact in
    (omega arith, next)

pub returns : goal.returns
unfolding de_boor
returns g c =
    let told = g.P.Point.told in
    let s = c.args.self.now in
    let d = s.degree in
    let ps = map told c.args.room.now in
    let all : Done d s.knots.now ps s.u d (map told c.loop-r-test.room) c.loop-r-test.count =
    elim c.loop-r-test.branch [
      | else-loop-r-test w ↦ absurd (omega arith)
      | then-loop-r-test+else-r-r-end w ↦
          rw (w.room-is, w.count-is)
          (round_done d s.knots.now ps s.u c.loop-r.r d (map told c.loop-r.room) (map told w.round.new.room) c.loop-r.count w.round.result w.from-count.result
          (omega arith) (omega arith) (omega arith) w.from-count.ensures c.loop-r.invariant.1 w.round.ensures.entries w.round.ensures.inexact)
    ] in
    let point : told c.index-room-self.result ≡ entry d s.knots.now ps s.u d d =
    told_at told c.loop-r-test.room d c.index-room-self.result [] (omega arith) c.index-room-self.is ∙ all.entries d (omega arith) (omega arith) in
    let count = all.rounds in
    cc
