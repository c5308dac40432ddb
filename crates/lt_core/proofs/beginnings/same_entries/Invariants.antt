use Rattle.std.proofs.Common.{◌≡◌, map, take}
use Rattle.lt_core.specs.Marks.{entry_of}
use Rattle.lt_core.proofs.beginnings.same_entries.Given as goal

abbrev pub invariant-loop-i : goal.invariant-loop-i
invariant-loop-i l = map entry_of (take l.i l.entries) ≡ map entry_of (take l.i l.others)
