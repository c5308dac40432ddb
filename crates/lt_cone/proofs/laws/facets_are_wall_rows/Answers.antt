use Rattle.lt_lp.proofs.ConeFacets.{rows_exact}
use Rattle.lt_cone.proofs.laws.facets_are_wall_rows.Goals as goal

pub returns : goal.returns
returns c = λ d t k r n h l. rows_exact d t k h r n l
