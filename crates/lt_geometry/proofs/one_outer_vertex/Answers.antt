use Rattle.lt_geometry.proofs.ExchangeLaws.{one_outer}
use Rattle.lt_geometry.proofs.one_outer_vertex.Goals as goal

pub returns : goal.returns
returns c = one_outer
