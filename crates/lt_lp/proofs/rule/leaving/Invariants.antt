use Rattle.lt_lp.proofs.Loops.{IsBest}
use Rattle.lt_lp.proofs.rule.leaving.Given as goal

abbrev pub invariant-loop-row : goal.invariant-loop-row
invariant-loop-row l = IsBest l.t l.column l.best l.row
