use Rattle.lt_model.proofs.Squares.{parallelogram}
use Rattle.lt_geometry.proofs.parallelogram_law.Goals as goal

pub returns : goal.returns
returns c = parallelogram
