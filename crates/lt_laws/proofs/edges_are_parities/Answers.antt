use Rattle.lt_laws.proofs.EdgeCount as counts
use Rattle.lt_laws.proofs.edges_are_parities.Goals as goal

pub returns : goal.returns
returns c = counts.edges_are_parities
