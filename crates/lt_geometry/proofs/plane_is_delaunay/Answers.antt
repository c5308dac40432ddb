use Rattle.lt_geometry.proofs.Plane as law
use Rattle.lt_geometry.proofs.plane_is_delaunay.Goals as goal

pub returns : goal.returns
returns c = law.plane_is_delaunay
