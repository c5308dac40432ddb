use Rattle.lt_locate.proofs.OnWay.{IsOnWay}
use Rattle.lt_locate.proofs.walks.locate.Given as goal

abbrev pub invariant-loop-crossed : goal.invariant-loop-crossed
invariant-loop-crossed l = IsOnWay l.q l.steps l.crossed l.t
