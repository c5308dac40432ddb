use Rattle.std.proofs.Common.{drop}
use Rattle.std.specs.Prelude.{◌↔◌}
use Rattle.lt_lp.specs.Checks.{AreTerms}
use Rattle.lt_lp.proofs.checks.are_terms.Given as goal

abbrev pub invariant-loop-i : goal.invariant-loop-i
invariant-loop-i l = AreTerms 0 l.count l.k l.terms ↔ AreTerms l.from l.count l.k (drop l.i l.terms)
