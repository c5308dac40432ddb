use Rattle.lt_laws.proofs.Shortest as shortest
use Rattle.lt_laws.proofs.parities_have_one_edge.Goals as goal

pub returns : goal.returns
returns c = shortest.parities_have_one_edge
