use Rattle.lt_cone.proofs.NoFault.{none_wrong}
use Rattle.lt_cone.proofs.laws.faults_are_wrong.Goals as goal

pub returns : goal.returns
returns c = none_wrong
