use Rattle.std.proofs.Common.{take}
use Rattle.lt_triang.specs.Bounds.{AreWithin}
use Rattle.lt_triang.proofs.spans.are_small.Given as goal

abbrev pub invariant-loop-point : goal.invariant-loop-point
invariant-loop-point l = AreWithin l.bound (take l.point-index l.points)
