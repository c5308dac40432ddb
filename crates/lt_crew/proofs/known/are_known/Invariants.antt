use Rattle.std.proofs.Common.{◌-◌, map}
use Rattle.std.specs.Arc.{arc_value}
use Rattle.lt_crew.specs.Tasks.{AreKnown}
use Rattle.lt_crew.proofs.known.are_known.Given as goal

abbrev pub invariant-loop-from : goal.invariant-loop-from
invariant-loop-from l = AreKnown l.atlas l.print (map arc_value l.known) l.from

abbrev pub decreases-loop-from : goal.decreases-loop-from
decreases-loop-from l = l.tested - l.from
