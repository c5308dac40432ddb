use Rattle.std.proofs.Common.{◌≡◌, take}
use Rattle.ltypes.specs.Summaries.{entry_weights}
use Rattle.ltypes.proofs.summary.weights_of.Given as goal

abbrev pub invariant-loop-k : goal.invariant-loop-k
invariant-loop-k l = l.all.items ≡ take l.k (entry_weights l.atlas)
