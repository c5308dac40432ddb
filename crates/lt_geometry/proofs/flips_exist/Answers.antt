use Rattle.lt_geometry.proofs.Listed as law
use Rattle.lt_geometry.proofs.flips_exist.Goals as goal

pub returns : goal.returns
returns c = law.flips_exist
