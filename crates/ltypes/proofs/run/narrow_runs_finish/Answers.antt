use Rattle.ltypes.proofs.Resuming.{narrow_runs}
use Rattle.ltypes.proofs.run.narrow_runs_finish.Goals as goal

pub returns : goal.returns
returns c = narrow_runs
