use Rattle.std.proofs.Common.{◌≡◌, map, take}
use Rattle.lt_core.specs.Marks.{event_of}
use Rattle.lt_core.proofs.copying.log_copy.Given as goal

abbrev pub invariant-loop-event : goal.invariant-loop-event
invariant-loop-event l = map event_of l.all.items ≡ map event_of (take l.event-index l.log)
