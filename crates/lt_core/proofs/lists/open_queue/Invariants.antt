use Rattle.std.proofs.Common.{◌≡◌, take}
use Rattle.lt_model.specs.RightAtlases.{open_places}
use Rattle.lt_core.specs.Marks.{marks_of}
use Rattle.lt_core.proofs.lists.open_queue.Given as goal

abbrev pub invariant-loop-entry : goal.invariant-loop-entry
invariant-loop-entry l = l.queue.items ≡ open_places 0 (marks_of (take l.entry l.marks))
