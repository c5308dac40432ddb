use Rattle.lt_cover.proofs.Covering.{covering}
use Rattle.lt_cover.proofs.laws.covers_are_covering_radii.Goals as goal

pub returns : goal.returns
returns c = covering
