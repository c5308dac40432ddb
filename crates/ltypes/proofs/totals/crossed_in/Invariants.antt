use Rattle.std.proofs.Common.{◌≡◌, ◌≤◌, map, take}
use Rattle.lt_model.specs.Atlases.{count_in, one_if_crossed}
use Rattle.lt_core.specs.Marks.{mark_of}
use Rattle.ltypes.proofs.totals.crossed_in.Given as goal

abbrev pub invariant-loop-mark : goal.invariant-loop-mark
invariant-loop-mark l = record { value : l.crossed ≡ count_in one_if_crossed (map mark_of (take l.mark-index l.marks)); within : l.crossed ≤ l.mark-index }
