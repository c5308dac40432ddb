use Rattle.lt_geometry.proofs.LocalToGlobal as law
use Rattle.lt_geometry.proofs.wall_forms_are_definite.Goals as goal

pub returns : goal.returns
returns c = law.wall_forms_are_definite
