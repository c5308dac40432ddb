use Rattle.std.proofs.Common.{◌≡◌, ◌≤◌, ◌*◌, ◌^◌, ℕ, pos, cond, nat_eq, nat_abs}
use Rattle.lt_tableau.specs.Numbers.{sum_below}
use Rattle.lt_tableau.specs.Table.{right_of, basic_of}
use Rattle.lt_lp.proofs.combinations.value.Given as goal

abbrev pub invariant-loop-row : goal.invariant-loop-row
invariant-loop-row l = record {
  value : l.sum ≡ sum_below l.row (λ (row : ℕ). cond (nat_eq (basic_of l.t row) l.column) (right_of l.t row) (pos 0));
  small : nat_abs l.sum ≤ l.row * 2 ^ 56;
}
