use Rattle.lt_tableau.specs.Table.{right_of}
use Rattle.lt_lp.proofs.Loops.{SumSoFar}
use Rattle.lt_lp.proofs.sums.objective.Given as goal

abbrev pub invariant-loop-row : goal.invariant-loop-row
invariant-loop-row l = SumSoFar l.t (right_of l.t) l.row l.sum
