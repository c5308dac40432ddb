use Rattle.lt_geometry.proofs.Values.{point_inside}
use Rattle.lt_geometry.proofs.points_inside_are_vertices.Goals as goal

pub returns : goal.returns
returns c = point_inside
