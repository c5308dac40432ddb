use Rattle.lt_geometry.proofs.Sides.{mutual_neighbour}
use Rattle.lt_geometry.proofs.neighbours_are_mutual.Goals as goal

pub returns : goal.returns
returns c = mutual_neighbour
