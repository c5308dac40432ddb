use Rattle.lt_locate.proofs.Ends as law
use Rattle.lt_locate.proofs.laws.one_end.Goals as goal

pub returns : goal.returns
returns c = law.one_end
