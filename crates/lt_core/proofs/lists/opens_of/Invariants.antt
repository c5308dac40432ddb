use Rattle.std.proofs.Common.{◌≡◌, map}
use Rattle.lt_model.specs.Atlases.{opens}
use Rattle.lt_core.specs.Marks.{mark_of}
use Rattle.lt_core.proofs.lists.opens_of.Given as goal

abbrev pub invariant-loop-i : goal.invariant-loop-i
invariant-loop-i l = map mark_of l.row.items ≡ opens l.i
