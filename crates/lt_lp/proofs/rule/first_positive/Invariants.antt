use Rattle.std.proofs.Common.{ℕ, ◌<◌, ◌≤ℤ◌, pos}
use Rattle.lt_tableau.specs.Table.{entry_of}
use Rattle.lt_lp.proofs.rule.first_positive.Given as goal

abbrev pub invariant-loop-row : goal.invariant-loop-row
invariant-loop-row l = (r : ℕ) → r < l.row → entry_of l.t r l.column ≤ℤ pos 0
