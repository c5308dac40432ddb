use Rattle.std.proofs.Common.{◌≡◌, take}
use Rattle.lt_core.specs.Marks.{marks_of}
use Rattle.lt_core.proofs.copying.marks_copy.Given as goal

abbrev pub invariant-loop-row : goal.invariant-loop-row
invariant-loop-row l = marks_of l.all.items ≡ marks_of (take l.row-index l.marks)
