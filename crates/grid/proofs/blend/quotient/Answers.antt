use Rattle.std.proofs.Common.{◌≡◌, not, eqb, pos, ◌+ℤ◌, ◌*ℤ◌, sym, ap, ◌∙◌, w64, SFits, of_z, rules}
use lib.Signed.{le_z}
use mir.Val.{bool_byte}
use Rattle.std.proofs.lemmas.Int.{to_z-of_z}
use Rattle.std.specs.Int.{int_div_euclid, int_rem_euclid}
use Rattle.grid.specs.Blend.{fractional}
use Rattle.grid.proofs.Nearest.{by_floor_and_rest, rest_bits}
use Rattle.grid.proofs.blend.quotient.Goals as goal

pub returns : goal.returns
unfolding fractional
returns c =
    let z = c.args.z in
    let b = c.args.b in
    let q = c.div_euclid-floor.result in
    let r = c.rem_euclid-rest.result in
    let up = c.from.result in
    let fz = c.ranges.z in
    let fb : SFits w64 c.from-b.result = search rules in
    let fq : SFits w64 q = search rules in
    let fr : SFits w64 r = search rules in
    let fu : SFits w64 up = search rules in
    let f2 : SFits w64 (r *ℤ pos 2) = search rules in
    let fs : SFits w64 (q +ℤ up) = search rules in
    let eq : q ≡ int_div_euclid z (pos b) = (simp to_z-of_z at c.div_euclid-floor.ensures) ∙ ap (int_div_euclid z) c.from-b.ensures in
    let er : r ≡ int_rem_euclid z (pos b) = (simp to_z-of_z at c.rem_euclid-rest.ensures.value) ∙ ap (int_rem_euclid z) c.from-b.ensures in
    let eu : up ≡ pos (bool_byte (le_z (pos b) (int_rem_euclid z (pos b) *ℤ pos 2))) =
    (simp to_z-of_z at c.from.ensures) ∙ ap (λ y. pos (bool_byte (le_z y (r *ℤ pos 2)))) c.from-b.ensures ∙ ap (λ y. pos (bool_byte (le_z (pos b) (y *ℤ pos 2)))) er in
    record {
      value = simp to_z-of_z (ap (λ y. y +ℤ up) eq ∙ ap (λ y. int_div_euclid z (pos b) +ℤ y) eu ∙ sym (by_floor_and_rest z b c.requires.some));
      inexact = ap (λ n. not (eqb (of_z w64 n) 0)) er ∙ ap (λ n. not (eqb n 0)) (rest_bits z (pos b));
    }
