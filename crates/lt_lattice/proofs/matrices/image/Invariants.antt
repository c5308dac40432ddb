use Rattle.std.proofs.Common.{◌≡◌, take}
use Rattle.lt_model.specs.Matrices.{apply}
use Rattle.lt_model.specs.Flat.{rows}
use Rattle.lt_lattice.proofs.matrices.image.Given as goal

abbrev pub invariant-loop-i : goal.invariant-loop-i
invariant-loop-i l = l.all.items ≡ take l.i (apply (rows l.d l.u) l.x)
