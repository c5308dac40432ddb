use Rattle.std.proofs.Common.{◌≡◌, ◌+ℤ◌, ◌*◌, ◌≤◌, drop, map, nat_abs}
use Rattle.lt_model.specs.Vectors.{dot}
use Rattle.lt_model.specs.Facets.{number_at}
use Rattle.lt_model.specs.Limits.{span_limit}
use Rattle.lt_solve.specs.Systems.{answer_limit}
use Rattle.lt_match.proofs.bases.sum_at.Given as goal

abbrev pub invariant-loop-i : goal.invariant-loop-i
invariant-loop-i l = record {
  so_far : l.sum +ℤ dot (drop l.i l.terms) (drop l.i (map (number_at l.k) (drop 1 l.targets))) ≡ dot l.terms (map (number_at l.k) (drop 1 l.targets));
  small : nat_abs l.sum ≤ l.i * (answer_limit * span_limit l.d);
}
