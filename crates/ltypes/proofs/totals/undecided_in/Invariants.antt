use Rattle.std.proofs.Common.{◌≡◌, ◌≤◌, map, take}
use Rattle.lt_model.specs.Atlases.{count_in, one_if_open}
use Rattle.lt_core.specs.Marks.{mark_of}
use Rattle.ltypes.proofs.totals.undecided_in.Given as goal

abbrev pub invariant-loop-mark : goal.invariant-loop-mark
invariant-loop-mark l = record { value : l.undecided ≡ count_in one_if_open (map mark_of (take l.mark-index l.marks)); within : l.undecided ≤ l.mark-index }
