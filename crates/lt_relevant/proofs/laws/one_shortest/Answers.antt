use Rattle.lt_relevant.proofs.Unique as unique
use Rattle.lt_relevant.proofs.laws.one_shortest.Goals as goal

pub returns : goal.returns
returns c = unique.one_shortest
