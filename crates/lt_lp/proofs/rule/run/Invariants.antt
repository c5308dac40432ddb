use Rattle.std.proofs.Common.{◌≡◌}
use Rattle.lt_lp.specs.Rule.{IsReady, measure_of}
use Rattle.lt_lp.proofs.rule.run.Given as goal

abbrev pub invariant-loop-column : goal.invariant-loop-column
invariant-loop-column l = record {
  ready : IsReady l.t;
  system : l.t.system ≡ l.fn.tableau.system;
  rows : l.t.rows ≡ l.fn.tableau.rows;
}

abbrev pub decreases-loop-column : goal.decreases-loop-column
decreases-loop-column l = measure_of l.t
