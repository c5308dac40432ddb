use Rattle.std.proofs.Common.{ℕ, ◌<◌, ◌≡◌, ◌*ℤ◌}
use Rattle.lt_tableau.specs.Table.{entry_of}
use Rattle.lt_lp.specs.Rule.{number_of}
use Rattle.lt_lp.proofs.rule.is_before.Given as goal

abbrev pub invariant-loop-place : goal.invariant-loop-place
invariant-loop-place l = (m : ℕ) → m < l.place → number_of l.t l.a m *ℤ entry_of l.t l.b l.column ≡ number_of l.t l.b m *ℤ entry_of l.t l.a l.column
