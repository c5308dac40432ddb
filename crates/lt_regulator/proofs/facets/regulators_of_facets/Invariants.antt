use Rattle.lt_regulator.specs.Regulated.{HasRegulatorsBelow}
use Rattle.lt_regulator.proofs.facets.regulators_of_facets.Given as goal

abbrev pub invariant-loop-class : goal.invariant-loop-class
invariant-loop-class l = HasRegulatorsBelow l.t l.class l.all.items
