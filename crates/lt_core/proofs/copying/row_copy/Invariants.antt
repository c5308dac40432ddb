use Rattle.std.proofs.Common.{◌≡◌, map, take}
use Rattle.lt_core.specs.Marks.{mark_of}
use Rattle.lt_core.proofs.copying.row_copy.Given as goal

abbrev pub invariant-loop-mark : goal.invariant-loop-mark
invariant-loop-mark l = map mark_of l.all.items ≡ map mark_of (take l.mark-index l.row)
