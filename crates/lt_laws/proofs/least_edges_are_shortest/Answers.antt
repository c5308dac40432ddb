use Rattle.lt_laws.proofs.EdgeCount as counts
use Rattle.lt_laws.proofs.least_edges_are_shortest.Goals as goal

pub returns : goal.returns
returns c = counts.least_edges_are_shortest
