use Rattle.points.proofs.Boxing.{box_fits_its_points}
use Rattle.points.proofs.rule.box_fits_its_points.Goals as goal

pub returns : goal.returns
returns c = box_fits_its_points
