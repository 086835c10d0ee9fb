use Rattle.std.proofs.Common.{◌≡◌, ◌*◌, ◌^◌, ◌≤◌, pos, ◌*ℤ◌, nat_abs, sym, ap, ◌∙◌, subst, arith, w32, w64, SFits, rules}
use borrow.Author.Differences.{ints}
use Rattle.std.proofs.lemmas.Int.{to_z-of_z}
use Rattle.grid.proofs.Blends.{product_bound}
use Rattle.grid.proofs.blend.scaled.Goals as goal

pub returns-clause-bound : goal.returns-clause-bound
returns-clause-bound c =
    let k = c.args.k in
    let p = c.args.p.value in
    let x = c.from.result in
    let y = c.from-2.result in
    let fp : SFits w32 p = omega (arith, ints, c.args.p.ranged) in
    let fx : SFits w64 x = search rules in
    let fy : SFits w64 y = search rules in
    let product : x *ℤ y ≡ pos k *ℤ p = ap (λ z. z *ℤ y) c.from.ensures ∙ ap (λ z. pos k *ℤ z) (simp to_z-of_z at c.from-2.ensures) in
    let bound : nat_abs (x *ℤ y) ≤ k * 2 ^ 30 = subst (λ z. nat_abs z ≤ k * 2 ^ 30) (sym product) (product_bound k (2 ^ 30) p c.args.p.ranged) in
    let fits : SFits w64 (x *ℤ y) = omega (arith, ints, bound) in
    simp to_z-of_z bound
