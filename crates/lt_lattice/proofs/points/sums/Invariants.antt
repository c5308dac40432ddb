use Rattle.std.proofs.Common.{◌≡◌, take}
use Rattle.lt_model.specs.Vectors.{plus}
use Rattle.lt_lattice.specs.Points.{filled}
use Rattle.lt_lattice.proofs.points.sums.Given as goal

abbrev pub invariant-loop-i : goal.invariant-loop-i
invariant-loop-i l = l.all ≡ filled 6 (take l.i (plus l.a l.b))
