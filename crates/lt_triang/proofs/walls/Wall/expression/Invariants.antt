use Rattle.std.proofs.Common.{◌≡◌, ◌∷◌, pos, get_or, take}
use Rattle.lt_triang.proofs.walls.Wall.expression.Given as goal

abbrev pub invariant-loop-k : goal.invariant-loop-k
invariant-loop-k l = get_or l.numbers 0 (pos 0) ∷ l.coefficients.items ≡ take l.k l.numbers
