use Rattle.std.proofs.Common.{◌≡◌, ◌≤◌, ◌*◌, take, length}
use Rattle.lt_text.specs.Texts.{class_numbers}
use Rattle.lt_text.proofs.classes.coordinates.Given as goal

abbrev pub invariant-loop-point : goal.invariant-loop-point
invariant-loop-point l = record {
  so_far : l.numbers.items ≡ class_numbers (take l.point-index l.points);
  len : length l.numbers.items ≤ 6 * l.point-index;
}
