use Rattle.std.proofs.Common.{◌≡◌, drop, ◌++◌, ◌+◌, length}
use Rattle.lt_model.specs.Vectors.{minus}
use Rattle.lt_triang.proofs.vertices.push_differences.Given as goal

abbrev pub invariant-loop-k : goal.invariant-loop-k
invariant-loop-k l = record {
  so_far : l.all.items ++ minus (drop l.k l.a) (drop l.k l.b) ≡ l.initial.all.items ++ minus l.a l.b;
  count : length l.all.items ≡ length l.initial.all.items + l.k;
}
