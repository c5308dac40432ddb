use Rattle.std.proofs.Common.{◌≡◌, take, length}
use Rattle.ltypes.proofs.printed.coordinates.Given as goal

abbrev pub invariant-loop-coord : goal.invariant-loop-coord
invariant-loop-coord l = record { items : l.numbers.items ≡ take l.coord-index l.coords; len : length l.numbers.items ≡ l.coord-index }
