use Rattle.std.proofs.Common.{◌≡◌, take}
use Rattle.lt_triang.proofs.walls.Wall.widened.Given as goal

abbrev pub invariant-loop-number : goal.invariant-loop-number
invariant-loop-number l = l.all.items ≡ take l.number-index l.number-items
