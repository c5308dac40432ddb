use Rattle.std.proofs.Common.{◌≡◌, take}
use Rattle.lt_model.specs.Flat.{flat}
use Rattle.lt_model.specs.Matrices.{identity}
use Rattle.lt_drill.proofs.scrambles.factor.Given as goal

abbrev pub invariant-loop-entry : goal.invariant-loop-entry
invariant-loop-entry l = l.numbers.items ≡ take l.entry-index (flat (identity l.fn.d))
