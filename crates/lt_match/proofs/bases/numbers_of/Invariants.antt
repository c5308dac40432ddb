use Rattle.std.proofs.Common.{◌≡◌, ◌++◌, drop}
use Rattle.lt_model.specs.Flat.{flat}
use Rattle.lt_match.proofs.bases.numbers_of.Given as goal

abbrev pub invariant-loop-i : goal.invariant-loop-i
invariant-loop-i l = l.all.items ++ flat (drop l.i l.points) ≡ flat (drop 1 l.points)
