use Rattle.std.proofs.Common.{◌≡◌, ◌++◌, ◌+◌, take, length}
use Rattle.lt_text.proofs.classes.push_point.Given as goal

abbrev pub invariant-loop-coord : goal.invariant-loop-coord
invariant-loop-coord l = record {
  so_far : l.numbers.items ≡ l.initial.numbers.items ++ take l.coord-index l.coords;
  len : length l.numbers.items ≡ length l.initial.numbers.items + l.coord-index;
}
