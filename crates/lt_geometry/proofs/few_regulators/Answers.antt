use Rattle.lt_geometry.proofs.Fewness as counts
use Rattle.lt_geometry.proofs.few_regulators.Goals as goal

pub returns-clause-facets : goal.returns-clause-facets
returns-clause-facets c = counts.regulators_at_facets

pub returns-clause-few : goal.returns-clause-few
returns-clause-few c = counts.few_regulators
