use Rattle.std.proofs.Common.{◌≡◌, ◌+◌, ◌-◌, ◌∙◌, sym, w64, SFits, rules, arith}
use Rattle.std.proofs.lemmas.Int.{to_z-of_z}
use Rattle.points.proofs.Coordinates.{one_more, all_made}
use Rattle.points.proofs.blend.means.Goals as goal

pub loop-i-preserved : goal.loop-i-preserved
loop-i-preserved g c =
    let p = g.met.P.Point.points c.args.p.now in
    let q = g.met.P.Point.points c.args.q.now in
    let i = c.loop-i.i - 1 in
    let next : i + 1 ≡ c.loop-i.i = omega arith in
    let fits : SFits w64 c.mean-mean.result.value = search rules in
    simp to_z-of_z (one_more c.args.at.part c.args.at.whole c.args.at.proper g.P.Point.WIDTH _ _ p.long (p.long ∙ sym q.long) c.loop-i.i i c.loop-i.means c.mean-mean.result.value c.loop-i.inexact c.mean-mean.result.inexact next c.loop-i.invariant c.mean-mean.ensures.value c.mean-mean.ensures.inexact)

pub returns-clause-value : goal.returns-clause-value
returns-clause-value g c =
    let p = g.met.P.Point.points c.args.p.now in
    let q = g.met.P.Point.points c.args.q.now in
    (all_made c.args.at.part c.args.at.whole c.args.at.proper g.P.Point.WIDTH _ _ p.long (p.long ∙ sym q.long) c.loop-i.i c.loop-i.means c.loop-i.inexact c.loop-i-test.false c.loop-i.invariant).0
