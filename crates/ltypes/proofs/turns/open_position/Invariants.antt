use Rattle.std.proofs.Common.{◌≡◌, ◌≤◌}
use Rattle.ltypes.specs.Drills.{open_before}
use Rattle.ltypes.proofs.turns.open_position.Given as goal

abbrev pub invariant-loop-position : goal.invariant-loop-position
invariant-loop-position l = record { value : l.passed ≡ open_before l.atlas l.position; within : l.passed ≤ l.number }
