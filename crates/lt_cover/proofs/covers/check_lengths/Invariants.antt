use Rattle.lt_cover.specs.Long.{AreShortAt}
use Rattle.lt_cover.proofs.covers.check_lengths.Given as goal

abbrev pub invariant-loop-k : goal.invariant-loop-k
invariant-loop-k l = AreShortAt l.d l.q l.points l.k
