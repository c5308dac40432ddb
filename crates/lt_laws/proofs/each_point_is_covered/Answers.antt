use Rattle.lt_laws.proofs.Covering as covering
use Rattle.lt_laws.proofs.each_point_is_covered.Goals as goal

pub returns : goal.returns
returns c = covering.each_point_is_covered
