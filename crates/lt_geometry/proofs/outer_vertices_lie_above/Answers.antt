use Rattle.lt_geometry.proofs.Regulators.{lies_above}
use Rattle.lt_geometry.proofs.outer_vertices_lie_above.Goals as goal

pub returns : goal.returns
returns c = lies_above
