use Rattle.lt_relevant.specs.Shortest.{IsLeastOf}
use Rattle.lt_relevant.proofs.minima.least_value.Given as goal

abbrev pub invariant-loop-k : goal.invariant-loop-k
invariant-loop-k l = IsLeastOf l.q l.points l.k l.least
