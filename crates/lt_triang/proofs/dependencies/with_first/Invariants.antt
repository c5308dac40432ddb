use Rattle.std.proofs.Common.{◌≡◌, take, ◌∷◌}
use Rattle.lt_triang.proofs.dependencies.with_first.Given as goal

abbrev pub invariant-loop-number : goal.invariant-loop-number
invariant-loop-number l = l.all.items ≡ l.first ∷ take l.number-index l.rest
