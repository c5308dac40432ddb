use Rattle.lt_model.proofs.Vectors.{dot-plus, dot-scale}
use Rattle.lt_geometry.proofs.normals_are_linear.Goals as goal

pub returns : goal.returns
returns c = (dot-plus, dot-scale)
