use Rattle.std.proofs.Common.{◌≡◌, map, take}
use Rattle.lt_core.specs.Beginnings.{fresh_events}
use Rattle.lt_core.specs.Marks.{event_of}
use Rattle.lt_core.proofs.beginnings.fresh_count.Given as goal

abbrev pub invariant-loop-event : goal.invariant-loop-event
invariant-loop-event l = l.count ≡ fresh_events (map event_of (take l.event-index l.log))
