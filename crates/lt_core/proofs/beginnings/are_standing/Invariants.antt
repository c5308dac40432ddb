use Rattle.std.proofs.Common.{◌<◌, ℕ, get_or, map}
use Rattle.lt_model.specs.Atlases.{no_mark}
use Rattle.lt_core.specs.Beginnings.{Stands}
use Rattle.lt_core.specs.Marks.{mark_of}
use Rattle.lt_core.proofs.beginnings.are_standing.Given as goal

abbrev pub invariant-loop-i : goal.invariant-loop-i
invariant-loop-i l = (f : ℕ) → f < l.i → Stands (get_or (map mark_of l.marks) f no_mark) (get_or (map mark_of l.now) f no_mark)
