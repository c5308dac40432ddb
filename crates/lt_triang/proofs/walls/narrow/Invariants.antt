use Rattle.std.proofs.Common.{◌≡◌, ◌∷◌, take}
use Rattle.lt_triang.proofs.walls.narrow.Given as goal

abbrev pub invariant-loop-coefficient : goal.invariant-loop-coefficient
invariant-loop-coefficient l = l.numbers.items ≡ l.scale ∷ take l.coefficient-index l.coefficients
