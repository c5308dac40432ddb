use Rattle.lt_geometry.proofs.Regulators.{some_regulator, one_regulator, all_regulators}
use Rattle.lt_geometry.proofs.facets_have_one_regulator.Goals as goal

pub returns : goal.returns
returns c = λ d a t k. (λ s i. some_regulator d a t s i k, λ s i n n'. one_regulator d a t s i n n' k, all_regulators d t)
