use Rattle.std.proofs.Common.{◌≡◌, ◌++◌, take}
use Rattle.lt_match.proofs.bases.push_coords.Given as goal

abbrev pub invariant-loop-coord : goal.invariant-loop-coord
invariant-loop-coord l = l.all.items ≡ l.initial.all.items ++ take l.coord-index l.coords
