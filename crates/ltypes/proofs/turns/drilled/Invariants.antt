use Rattle.std.proofs.Common.{◌≤◌}
use Rattle.lt_model.specs.Atlases.{Atlas}
use Rattle.lt_core.specs.Starts.{IsStarting}
use Rattle.ltypes.proofs.Turned.{IsDrilledTo}
use Rattle.ltypes.proofs.turns.drilled.Given as goal

abbrev pub invariant-loop-turn : goal.invariant-loop-turn
invariant-loop-turn l = record { start : (s : Atlas) × IsStarting l.d s × IsDrilledTo s l.fn.draws l.draws l._turn l.atlas; within : l._turn ≤ l.turns }
