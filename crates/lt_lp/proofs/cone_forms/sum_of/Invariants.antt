use Rattle.std.proofs.Common.{◌≡◌, ◌≤◌, ◌*◌, ◌^◌, ◌+ℤ◌, ℕ, length, drop, nat_abs}
use Rattle.lt_model.specs.Padded.{lookup}
use Rattle.lt_model.specs.Cones.{sum_of_walls}
use Rattle.lt_lp.proofs.cone_forms.sum_of.Given as goal

abbrev pub invariant-loop-k : goal.invariant-loop-k
invariant-loop-k l = record {
  size : length l.sums.items ≡ l.count;
  sums : (q : ℕ) → lookup l.sums.items q +ℤ lookup (sum_of_walls l.count (drop l.k l.rows)) q ≡ lookup (sum_of_walls l.count l.rows) q;
  small : (q : ℕ) → nat_abs (lookup l.sums.items q) ≤ l.k * 2 ^ 62;
}
