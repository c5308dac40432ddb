use Rattle.lt_merge.specs.Merged.{IsMergedTo}
use Rattle.lt_merge.proofs.merging.merge.Given as goal

abbrev pub invariant-loop-k : goal.invariant-loop-k
invariant-loop-k l = IsMergedTo l.fn.first l.second (l.k, 0) l.atlas
