use Rattle.lt_locate.proofs.Ends as law
use Rattle.lt_locate.proofs.laws.walks_end_inside.Goals as goal

pub returns : goal.returns
returns c = law.walks_end_inside
