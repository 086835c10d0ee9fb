use Rattle.std.proofs.Common.{◌≡◌, ◌-◌, [], map, get_or, arith}
use Rattle.std.proofs.lemmas.List.{map-set}
use Rattle.pieces.proofs.Rows.{told_at}
use Rattle.pieces.proofs.triangle.Window.blend_into.Goals as goal

pub returns-clause-entry : goal.returns-clause-entry
returns-clause-entry g c =
    let told = g.P.Point.told in
    let room = c.args.room.now in
    let j = c.args.j in
    let part = c.ratio.ensures.part in
    let whole = c.ratio.ensures.whole in
    let p : told c.index-room-j.result ≡ get_or (map told room) (j - 1) [] = told_at told room (j - 1) c.index-room-j.result [] (omega arith) c.index-room-j.is in
    let q : told c.index-room-j-2.result ≡ get_or (map told room) j [] = told_at told room j c.index-room-j-2.result [] (omega arith) c.index-room-j-2.is in
    let value = rw (part, whole, p, q) at c.blend_points-mean.ensures.value in
    rw (map-set told room j c.blend_points-mean.result.value, value)
