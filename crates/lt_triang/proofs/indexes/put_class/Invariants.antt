use Rattle.lt_triang.specs.Indexed.{buckets_of, IsIndexBelow}
use Rattle.lt_triang.proofs.indexes.put_class.Given as goal

abbrev pub invariant-loop-j : goal.invariant-loop-j
invariant-loop-j l = IsIndexBelow l.d l.classes l.n l.j (buckets_of l.buckets.items)
