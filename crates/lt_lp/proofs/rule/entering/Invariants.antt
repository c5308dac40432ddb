use Rattle.std.proofs.Common.{ℕ, ◌<◌, ◌≤ℤ◌, pos}
use Rattle.lt_lp.specs.Rule.{gain_of}
use Rattle.lt_lp.proofs.rule.entering.Given as goal

abbrev pub invariant-loop-column : goal.invariant-loop-column
invariant-loop-column l = (c : ℕ) → c < l.column → gain_of l.t c ≤ℤ pos 0
