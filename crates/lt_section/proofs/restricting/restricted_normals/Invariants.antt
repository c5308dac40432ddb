use Rattle.lt_section.specs.Filled.{AreFilledOf}
use Rattle.lt_section.proofs.restricting.restricted_normals.Given as goal

abbrev pub invariant-loop-k : goal.invariant-loop-k
invariant-loop-k l = AreFilledOf l.forms l.regulators l.all.items l.k
