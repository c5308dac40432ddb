use Rattle.lt_laws.proofs.EdgesListed as edges
use Rattle.lt_laws.proofs.edges_are_listed.Goals as goal

pub returns : goal.returns
returns c = edges.edges_listed
