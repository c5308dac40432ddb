use Rattle.lt_regulator.proofs.Listed.{IsListed}
use Rattle.lt_regulator.proofs.facets.push_regulators_of.Given as goal

abbrev pub invariant-loop-facet : goal.invariant-loop-facet
invariant-loop-facet l = IsListed l.t l.class l.facet l.all.items
