use Rattle.std.proofs.Common.{◌≡◌, take}
use Rattle.lt_triang.proofs.vertices.copies.Given as goal

abbrev pub invariant-loop-point : goal.invariant-loop-point
invariant-loop-point l = l.all.items ≡ take l.point-index l.points
