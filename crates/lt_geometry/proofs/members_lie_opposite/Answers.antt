use Rattle.lt_geometry.proofs.Sides.{lie_opposite}
use Rattle.lt_geometry.proofs.members_lie_opposite.Goals as goal

pub returns : goal.returns
returns c = lie_opposite
