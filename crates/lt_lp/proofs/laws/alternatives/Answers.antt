use Rattle.lt_lp.proofs.OneAlternative.{one_alternative}
use Rattle.lt_lp.proofs.laws.alternatives.Goals as goal

pub returns : goal.returns
returns c = one_alternative
