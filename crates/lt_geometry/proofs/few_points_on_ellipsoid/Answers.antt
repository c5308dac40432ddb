use Rattle.lt_geometry.proofs.Ellipsoids.{few_points}
use Rattle.lt_geometry.proofs.few_points_on_ellipsoid.Goals as goal

pub returns : goal.returns
returns c d a w n t e l k ps two de wall empty up on = few_points d a w n t two de wall e k l empty.positive empty.outside ps up on.dimension on.on
