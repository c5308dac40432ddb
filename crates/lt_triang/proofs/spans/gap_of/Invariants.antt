use Rattle.std.proofs.Common.{◌≡◌, drop, map, max, nat_abs}
use Rattle.lt_model.specs.Limits.{greatest, gap}
use Rattle.lt_model.specs.Vectors.{minus}
use Rattle.lt_triang.proofs.spans.gap_of.Given as goal

abbrev pub invariant-loop-k : goal.invariant-loop-k
invariant-loop-k l = max l.widest (greatest (drop l.k (map nat_abs (minus l.x l.y)))) ≡ gap l.x l.y
