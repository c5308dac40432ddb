use Rattle.std.proofs.Common.{take}
use Rattle.std.specs.List.{All}
use Rattle.lt_lattice.specs.Ranges.{IsWithin}
use Rattle.lt_triang.proofs.spans.is_small.Given as goal

abbrev pub invariant-loop-coord : goal.invariant-loop-coord
invariant-loop-coord l = All (IsWithin l.bound) (take l.coord-index l.coords)
