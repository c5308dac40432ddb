use Rattle.lt_geometry.proofs.Regulators.{has_regulator}
use Rattle.lt_geometry.proofs.triangulations_have_regulators.Goals as goal

pub returns : goal.returns
returns c = has_regulator
