use Rattle.fractions.specs.Fractions.{divisor, product_less_one, at_most, ◌+F◌, ◌*F◌, neg_f, inv_f, zero_f, one_f, sum_f}
use Rattle.splines.specs.Splines.{basis, value_at, blend_at}
use Rattle.splines.specs.Edits.{inserted_knots, inserted_points, inserted_times, left_knots, right_knots, raised_knots, raised_points}
use Rattle.grid.specs.Blend.{nearest, fractional, blended, inexact}
use Rattle.pieces.specs.Triangle.{de_boor}
use Rattle.pieces.proofs.exact.worked_examples_stand.Goals as goal

-- each example computes
pub returns : goal.returns
unfolding divisor product_less_one at_most ◌+F◌ ◌*F◌ neg_f inv_f zero_f one_f sum_f basis value_at blend_at inserted_knots inserted_points inserted_times
    left_knots right_knots raised_knots raised_points nearest fractional
    blended inexact de_boor
returns c = search tt
