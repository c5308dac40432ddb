use Rattle.lt_text.proofs.Composed.{nothing_gained, gathered_passed}
use Rattle.lt_text.proofs.gathering.make_room.Goals as goal

pub returns-then-is_roomy-clause-bytes : goal.returns-then-is_roomy-clause-bytes
returns-then-is_roomy-clause-bytes g c = record { whole = nothing_gained _ _; front = tt }

pub returns-clause-bytes : goal.returns-clause-bytes
returns-clause-bytes g c = gathered_passed _ _ _ _ _ c.pass_on.ensures.none c.pass_on.ensures.bytes
