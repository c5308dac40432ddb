use Rattle.std.proofs.Common.{◌≡◌, take}
use Rattle.lt_triang.proofs.triangulations.classes_copy.Given as goal

abbrev pub invariant-loop-class : goal.invariant-loop-class
invariant-loop-class l = l.classes.items ≡ take l.class-index l.given
