use Rattle.std.proofs.Common.{◌≡◌, take}
use Rattle.lt_model.specs.Vectors.{minus}
use Rattle.lt_triang.proofs.neighbours.same_differences.Given as goal

abbrev pub invariant-loop-k : goal.invariant-loop-k
invariant-loop-k l = take l.k (minus l.a l.b) ≡ take l.k (minus l.c l.e)
