use Rattle.std.proofs.Common.{◌≡◌, take}
use Rattle.lt_lattice.specs.Points.{filled}
use Rattle.lt_lattice.proofs.points.Point.of.Given as goal

abbrev pub invariant-loop-i : goal.invariant-loop-i
invariant-loop-i l = l.places ≡ filled 6 (take l.i l.coords)
