use Rattle.std.proofs.Common.{◌≡◌, ℕ, length, get_or, []}
use Rattle.lt_triang.specs.Indexed.{buckets_of}
use Rattle.lt_triang.proofs.indexes.empty_buckets.Given as goal

abbrev pub invariant-loop-b : goal.invariant-loop-b
invariant-loop-b l = record {
  count : length (buckets_of l.buckets.items) ≡ l._b;
  none : (b : ℕ) → get_or (buckets_of l.buckets.items) b [] ≡ [];
}
