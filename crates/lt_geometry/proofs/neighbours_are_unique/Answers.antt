use Rattle.lt_geometry.proofs.Sides.{unique_neighbour}
use Rattle.lt_geometry.proofs.neighbours_are_unique.Goals as goal

pub returns : goal.returns
returns c = unique_neighbour
