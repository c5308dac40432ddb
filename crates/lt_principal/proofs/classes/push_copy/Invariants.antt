use Rattle.std.proofs.Common.{◌≡◌, take}
use Rattle.lt_principal.proofs.classes.push_copy.Given as goal

abbrev pub invariant-loop-point : goal.invariant-loop-point
invariant-loop-point l = l.copy.items ≡ take l.point-index l.path
