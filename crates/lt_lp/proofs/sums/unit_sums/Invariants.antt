use Rattle.std.proofs.Common.{◌<◌, ◌≤◌, ◌*◌, ◌^◌, ℕ, nat_abs}
use Rattle.lt_model.specs.Padded.{lookup}
use Rattle.lt_lp.specs.Rule.{unit_entry}
use Rattle.lt_lp.proofs.Loops.{SumSoFar}
use Rattle.lt_lp.proofs.sums.unit_sums.Given as goal

abbrev pub invariant-loop-row : goal.invariant-loop-row
invariant-loop-row l = record {
  values : (q : ℕ) → q < l.t.rows → SumSoFar l.t (λ (r : ℕ). unit_entry l.t r q) l.row (lookup l.sums q);
  small : (q : ℕ) → nat_abs (lookup l.sums q) ≤ l.row * 2 ^ 56;
}
