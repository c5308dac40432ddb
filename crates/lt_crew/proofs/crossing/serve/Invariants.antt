use Rattle.std.proofs.Common.{◌≡◌}
use Rattle.lt_crew.proofs.crossing.serve.Given as goal

abbrev pub invariant-tries : goal.invariant-tries
invariant-tries g l = l.share.parts ≡ l.fn.share.parts
