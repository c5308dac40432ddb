use Rattle.std.proofs.Common.{◌≡◌, ◌∷◌, take}
use Rattle.lt_triang.proofs.expressions.Expression.numbers.Given as goal

abbrev pub invariant-loop-number : goal.invariant-loop-number
invariant-loop-number l = l.all.items ≡ l.self.scale ∷ take l.number-index l.number-items
