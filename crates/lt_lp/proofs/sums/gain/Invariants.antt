use Rattle.std.proofs.Common.{◌≡◌, ◌*ℤ◌, ℕ}
use Rattle.std.specs.Int.{int_wrap, w64}
use Rattle.lt_model.specs.Padded.{lookup}
use Rattle.lt_tableau.specs.Numbers.{column_at, sum_below}
use Rattle.lt_lp.proofs.sums.gain.Given as goal

abbrev pub invariant-loop-q : goal.invariant-loop-q
invariant-loop-q l = l.sum ≡ int_wrap w64 (sum_below l.q (λ (i : ℕ). lookup l.sums i *ℤ lookup (column_at l.t.system l.column) i))
