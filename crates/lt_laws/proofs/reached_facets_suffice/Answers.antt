use Rattle.lt_laws.proofs.FacetLaws as facets
use Rattle.lt_laws.proofs.reached_facets_suffice.Goals as goal

pub returns : goal.returns
returns c = facets.reached_facets_suffice
