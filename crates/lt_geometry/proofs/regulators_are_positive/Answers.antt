use Rattle.lt_geometry.proofs.Regulators.{regulators_positive}
use Rattle.lt_geometry.proofs.regulators_are_positive.Goals as goal

pub returns : goal.returns
returns c = regulators_positive
