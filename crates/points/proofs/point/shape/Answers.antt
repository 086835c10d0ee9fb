use Rattle.std.proofs.Common.{not, pos, None, sym, ap, ◌∙◌}
use Rattle.grid.specs.Blend.{is_coordinate}
use Rattle.grid.proofs.Searches.{position_is_first}
use Rattle.refusals.specs.Order.{at}
use Rattle.refusals.specs.declared.point.PointFault.TheVariants.{Range}
use Rattle.points.proofs.Shapes.{first_out, all_ranged, rebuilt}
use Rattle.points.proofs.point.shape.Goals as goal

pub returns-in-Some : goal.returns-in-Some
returns-in-Some c = first_out c.args.xs.now c.args.width None c.if-xs-width.false ∙ ap (λ o. at o Range None) (sym c.first_outside.ensures ∙ c.in-Some.is)

pub returns-in-None : goal.returns-in-None
returns-in-None c =
    let xs = c.args.xs.now in
    let nowhere = sym c.first_outside.ensures ∙ c.in-None.is in (
      first_out xs c.args.width None c.if-xs-width.false ∙ ap (λ o. at o Range None) nowhere,
      c.if-xs-width.false,
      all_ranged xs (sym (position_is_first (λ x. not (is_coordinate x)) xs (pos 0)) ∙ nowhere),
      rebuilt c.args.width xs c.if-xs-width.false,
    )
