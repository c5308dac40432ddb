use Rattle.std.proofs.Common.{◌≡◌, ◌++◌, map, drop, get_or, [], length}
use Rattle.lt_model.specs.Vectors.{minus}
use Rattle.lt_match.specs.Matches.{in_order}
use Rattle.lt_match.proofs.matching.targets.Given as goal

abbrev pub invariant-loop-k : goal.invariant-loop-k
invariant-loop-k l = record {
  so_far : l.all.items ++ map (λ k. minus (get_or l.s k []) (get_or l.s (get_or l.order 0 0) [])) (drop l.k-index l.order) ≡ in_order l.s l.order;
  count : length l.all.items ≡ l.k-index;
}
