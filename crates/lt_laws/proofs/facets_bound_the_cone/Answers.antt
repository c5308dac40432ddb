use Rattle.lt_laws.proofs.FacetLaws as facets
use Rattle.lt_laws.proofs.facets_bound_the_cone.Goals as goal

pub returns : goal.returns
returns c = facets.facets_bound
