use Rattle.std.proofs.Common.{◌≡◌, ◌++◌, drop}
use Rattle.lt_model.specs.Vectors.{scale, unit}
use Rattle.lt_match.proofs.bases.multiple.Given as goal

abbrev pub invariant-loop-i : goal.invariant-loop-i
invariant-loop-i l = l.all.items ++ drop l.i (scale l.m (unit l.d l.j)) ≡ scale l.m (unit l.d l.j)
