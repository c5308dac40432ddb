use Rattle.std.proofs.Common.{◌≡◌, ◌≤◌, ◌<◌, ◌+ℤ◌, ℕ, length}
use Rattle.lt_model.specs.Padded.{lookup}
use Rattle.lt_lp.proofs.cone_forms.add.Given as goal

abbrev pub invariant-loop-i : goal.invariant-loop-i
invariant-loop-i l = record {
  size : length l.sums ≡ length l.initial.sums;
  done : (q : ℕ) → q < l.i → lookup l.sums q ≡ lookup l.initial.sums q +ℤ lookup l.numbers q;
  rest : (q : ℕ) → l.i ≤ q → lookup l.sums q ≡ lookup l.initial.sums q;
}
