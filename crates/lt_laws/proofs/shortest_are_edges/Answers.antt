use Rattle.lt_laws.proofs.Shortest as shortest
use Rattle.lt_laws.proofs.shortest_are_edges.Goals as goal

pub returns : goal.returns
returns c = shortest.shortest_are_edges
