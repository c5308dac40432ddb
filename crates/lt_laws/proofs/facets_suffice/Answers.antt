use Rattle.lt_laws.proofs.FacetLaws as facets
use Rattle.lt_laws.proofs.facets_suffice.Goals as goal

pub returns : goal.returns
returns c = facets.facets_suffice
