use Rattle.lt_geometry.proofs.FlipOf as law
use Rattle.lt_geometry.proofs.flips_are_delaunay.Goals as goal

pub returns : goal.returns
returns c = law.flips_are_delaunay
