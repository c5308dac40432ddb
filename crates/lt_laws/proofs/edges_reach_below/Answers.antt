use Rattle.lt_laws.proofs.EdgeCount as counts
use Rattle.lt_laws.proofs.edges_reach_below.Goals as goal

pub returns : goal.returns
returns c = counts.edges_reach_below
