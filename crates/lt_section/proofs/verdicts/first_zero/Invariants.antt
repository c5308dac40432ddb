use Rattle.lt_section.specs.Decided.{AreNotZeroAt}
use Rattle.lt_section.proofs.verdicts.first_zero.Given as goal

abbrev pub invariant-loop-k : goal.invariant-loop-k
invariant-loop-k l = AreNotZeroAt l.q l.points l.k
