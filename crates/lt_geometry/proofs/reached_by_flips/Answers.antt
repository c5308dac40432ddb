use Rattle.lt_geometry.proofs.Reached as law
use Rattle.lt_geometry.proofs.reached_by_flips.Goals as goal

pub returns : goal.returns
returns c = (law.reached_by_flips, law.reached_delaunay)
