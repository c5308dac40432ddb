use Rattle.std.proofs.Common.{ℕ, ◌<◌, [], get_or, pos, ◌<ℤ◌}
use Rattle.lt_model.specs.Forms.{value}
use Rattle.lt_locate.proofs.sides.first_not_positive.Given as goal

abbrev pub invariant-loop-k : goal.invariant-loop-k
invariant-loop-k l = (j : ℕ) → j < l.k → pos 0 <ℤ value l.q (get_or l.points j [])
