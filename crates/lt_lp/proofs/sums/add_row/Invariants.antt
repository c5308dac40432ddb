use Rattle.std.proofs.Common.{◌≡◌, ◌<◌, ◌≤◌, ◌+ℤ◌, ℕ, length}
use Rattle.lt_model.specs.Padded.{lookup}
use Rattle.lt_lp.specs.Rule.{unit_entry}
use Rattle.lt_lp.proofs.sums.add_row.Given as goal

abbrev pub invariant-loop-unit : goal.invariant-loop-unit
invariant-loop-unit l = record {
  size : length l.sums ≡ length l.initial.sums;
  done : (q : ℕ) → q < l.unit → lookup l.sums q ≡ lookup l.initial.sums q +ℤ unit_entry l.t l.row q;
  rest : (q : ℕ) → l.unit ≤ q → lookup l.sums q ≡ lookup l.initial.sums q;
}
