use Rattle.lt_geometry.proofs.Listed.{has_across, same_across}
use Rattle.lt_geometry.proofs.one_across.Goals as goal

pub returns : goal.returns
returns c = (has_across, same_across)
