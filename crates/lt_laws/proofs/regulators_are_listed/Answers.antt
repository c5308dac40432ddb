use Rattle.lt_laws.proofs.RegulatorLists as lists
use Rattle.lt_laws.proofs.regulators_are_listed.Goals as goal

pub returns : goal.returns
returns c = lists.has_regulators
