use Rattle.lt_triang.specs.Indexed.{buckets_of, IsIndexBelow}
use Rattle.lt_triang.proofs.indexes.index_of.Given as goal

abbrev pub invariant-loop-n : goal.invariant-loop-n
invariant-loop-n l = IsIndexBelow l.d l.classes l.n 0 (buckets_of l.buckets.items)
