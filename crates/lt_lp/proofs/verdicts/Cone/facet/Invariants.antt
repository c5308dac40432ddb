use Rattle.std.proofs.Common.{◌≡◌, ◌+◌}
use Rattle.lt_lp.proofs.FacetRows.{walls}
use Rattle.lt_lp.proofs.verdicts.Cone.facet.Given as goal

abbrev pub invariant-loop-k : goal.invariant-loop-k
invariant-loop-k l = l.left + walls l.k l.self.rows ≡ l.i
