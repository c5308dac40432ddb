use Rattle.std.proofs.Common.{◌≡◌, ◌≤◌}
use Rattle.lt_lp.proofs.FacetRows.{walls}
use Rattle.lt_lp.proofs.verdicts.Cone.facets.Given as goal

abbrev pub invariant-loop-i : goal.invariant-loop-i
invariant-loop-i l = record { counted : l.count ≡ walls l.i l.self.rows; few : l.count ≤ l.i }
