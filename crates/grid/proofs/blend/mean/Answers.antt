use Rattle.std.proofs.Common.{◌≡◌, ◌-◌, pos, ◌+ℤ◌, ◌*ℤ◌, sym, ap, ◌∙◌, subst, arith, w64, SFits, rules}
use borrow.Author.Differences.{ints}
use Rattle.std.proofs.lemmas.Int.{to_z-of_z}
use Rattle.grid.specs.Blend.{IsCoordinate, nearest, fractional, weighted, blended, inexact, BlendLaw}
use Rattle.grid.proofs.Blends.{coordinate, lawful}
use Rattle.grid.proofs.blend.mean.Goals as goal

pub returns : goal.returns
unfolding blended inexact
returns c =
    let p = c.args.p.value in
    let q = c.args.q.value in
    let a = c.args.at.part in
    let b = c.args.at.whole in
    let x = c.scaled.result in
    let y = c.scaled-2.result in
    let fx : SFits w64 x = search rules in
    let fy : SFits w64 y = search rules in
    let fs : SFits w64 (x +ℤ y) = omega (arith, ints) in
    let sum : x +ℤ y ≡ weighted p q a b = ap (λ t. t +ℤ y) c.scaled.ensures.value ∙ ap (λ t. (pos (b - a) *ℤ p) +ℤ t) c.scaled-2.ensures.value in
    let value : c.quotient.result.value ≡ blended p q a b = (simp to_z-of_z at c.quotient.ensures.value) ∙ ap (λ z. nearest z b) sum in
    let rough : c.quotient.result.inexact ≡ inexact p q a b = (simp to_z-of_z at c.quotient.ensures.inexact) ∙ ap (λ z. fractional z b) sum in
    record {
      value = value;
      inexact = rough;
      law = subst (λ x. BlendLaw p q a b c.quotient.result.value x) (sym rough) (subst (λ x. BlendLaw p q a b x (inexact p q a b)) (sym value) (lawful p q a b c.args.at.proper));
      coordinate = subst IsCoordinate (sym value) (coordinate p q a b c.args.at.proper c.args.p.ranged c.args.q.ranged);
    }
