use Rattle.lt_geometry.proofs.LocalToGlobal as law
use Rattle.lt_geometry.proofs.local_to_global.Goals as goal

pub returns : goal.returns
returns c = law.local_to_global
