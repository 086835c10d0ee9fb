use Rattle.std.proofs.Common.{map, pos, sym, subst}
use Rattle.pieces.specs.Curves.{KeepsToCurve}
use Rattle.pieces.proofs.Rounding.{told_keeps}
use Rattle.pieces.proofs.Windows.{around, governed}
use Rattle.pieces.proofs.reading.Piece.read_span.Goals as goal

pub invariant_of-window-clause-around : goal.invariant_of-window-clause-around
invariant_of-window-clause-around g c =
    let s = c.args.self.now in
    around s.knots.degree s.knots.count s.knots.knots.now c.args.u c.args.k s.knots.lawful c.requires

pub returns : goal.returns
returns g c =
    let told = g.P.Point.told in
    let s = c.args.self.now in
    let d = s.knots.degree in
    let ks = s.knots.knots.now in
    let xs = s.points.now in
    let value = rw (governed told d ks xs c.args.u c.args.k c.requires.deep) at c.triangle.ensures in
    record {
      value = value;
      keeps = subst (λ v. KeepsToCurve d ks (map told xs) (pos c.args.u) v.0 v.1) (sym value)
          (told_keeps told g.P.Point.WIDTH (λ p. (g.met.P.Point.points p).long) d s.knots.count ks xs c.args.u c.args.k s.counted s.knots.lawful c.requires);
    }
