use Rattle.lt_geometry.proofs.PlaneFlips as law
use Rattle.lt_geometry.proofs.plane_flips.Goals as goal

pub returns : goal.returns
returns c = law.plane_flips
