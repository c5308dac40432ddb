use Rattle.std.proofs.Common.{◌≡◌}
use Rattle.ltypes.proofs.drill.matched.Given as goal

abbrev pub invariant-loop-k : goal.invariant-loop-k
invariant-loop-k l = l.matched ≡ l.k
