use Rattle.lt_geometry.proofs.PlaneMatrices as law
use Rattle.lt_geometry.proofs.plane_matrices.Goals as goal

pub returns : goal.returns
returns c = law.plane_matrices
