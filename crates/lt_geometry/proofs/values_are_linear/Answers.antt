use Rattle.lt_model.proofs.Vectors.{value-plus, value-scale}
use Rattle.lt_geometry.proofs.values_are_linear.Goals as goal

pub returns : goal.returns
returns c = (value-plus, value-scale)
