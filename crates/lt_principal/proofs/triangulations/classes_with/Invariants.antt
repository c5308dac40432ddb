use Rattle.std.proofs.Common.{◌≡◌, take}
use Rattle.lt_principal.specs.Paths.{points_of}
use Rattle.lt_principal.proofs.triangulations.classes_with.Given as goal

abbrev pub invariant-loop-n : goal.invariant-loop-n
invariant-loop-n l = l.classes.items ≡ take l.n (points_of l.all)
