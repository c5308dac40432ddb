use Rattle.lt_geometry.proofs.Regulators.{mutual_regulator}
use Rattle.lt_geometry.proofs.regulators_are_mutual.Goals as goal

pub returns : goal.returns
returns c = mutual_regulator
