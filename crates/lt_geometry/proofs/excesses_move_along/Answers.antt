use Rattle.lt_geometry.proofs.FirstLaws.{excess_moved_along}
use Rattle.lt_geometry.proofs.excesses_move_along.Goals as goal

pub returns : goal.returns
returns c = excess_moved_along
