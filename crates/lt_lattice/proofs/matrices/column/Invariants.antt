use Rattle.std.proofs.Common.{◌≡◌, take, map}
use Rattle.lt_model.specs.Facets.{number_at}
use Rattle.lt_model.specs.Flat.{rows}
use Rattle.lt_lattice.proofs.matrices.column.Given as goal

abbrev pub invariant-loop-i : goal.invariant-loop-i
invariant-loop-i l = l.all.items ≡ take l.i (map (number_at l.j) (rows l.d l.numbers))
