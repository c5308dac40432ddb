use Rattle.std.proofs.Common.{◌≡◌, map, take}
use Rattle.lt_core.specs.Marks.{entry_of}
use Rattle.lt_core.proofs.copying.entries_copy.Given as goal

abbrev pub invariant-loop-entry : goal.invariant-loop-entry
invariant-loop-entry l = map entry_of l.all.items ≡ map entry_of (take l.entry-index l.entries)
