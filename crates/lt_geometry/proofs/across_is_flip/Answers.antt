use Rattle.lt_geometry.proofs.Listed as law
use Rattle.lt_geometry.proofs.across_is_flip.Goals as goal

pub returns : goal.returns
returns c = law.across_is_flip
