use Rattle.lt_laws.proofs.Covering as covering
use Rattle.lt_laws.proofs.greatest_radius_covers.Goals as goal

pub returns : goal.returns
returns c = covering.greatest_covers
