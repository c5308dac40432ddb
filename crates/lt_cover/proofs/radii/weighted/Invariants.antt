use Rattle.lt_cover.proofs.Sums.{IsSummed}
use Rattle.lt_cover.proofs.radii.weighted.Given as goal

abbrev pub invariant-loop-i : goal.invariant-loop-i
invariant-loop-i l = IsSummed l.nums l.values l.i l.sum
