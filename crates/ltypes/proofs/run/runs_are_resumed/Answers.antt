use Rattle.ltypes.proofs.Resuming.{resumed_runs}
use Rattle.ltypes.proofs.run.runs_are_resumed.Goals as goal

pub returns : goal.returns
returns c = resumed_runs
