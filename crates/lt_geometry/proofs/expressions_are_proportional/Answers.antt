use Rattle.lt_geometry.proofs.FirstLaws.{proportional}
use Rattle.lt_geometry.proofs.expressions_are_proportional.Goals as goal

pub returns : goal.returns
returns c = proportional
