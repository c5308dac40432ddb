use Rattle.std.proofs.Common.{◌≡◌, ◌++◌, map, take}
use Rattle.lt_model.specs.RightAtlases.{open_in}
use Rattle.lt_core.specs.Marks.{mark_of}
use Rattle.lt_core.proofs.lists.append_open.Given as goal

abbrev pub invariant-loop-facet : goal.invariant-loop-facet
invariant-loop-facet l = l.queue.items ≡ l.initial.queue.items ++ open_in l.entry 0 (map mark_of (take l.facet l.row))
