use Rattle.std.proofs.Common.{◌≡◌, ◌+◌, ℕ, neg_ℤ}
use Rattle.lt_tableau.specs.Table.{units_of}
use Rattle.lt_lp.specs.Rule.{gain_of, listed}
use Rattle.lt_lp.proofs.walls.turned.Given as goal

abbrev pub invariant-loop-r : goal.invariant-loop-r
invariant-loop-r l = l.numbers.items ≡ listed l.r (λ (q : ℕ). neg_ℤ (gain_of l.t (units_of l.t + q)))
