use Rattle.lt_section.proofs.CombinedNumbers.{IsSummed}
use Rattle.lt_section.proofs.walls.combined_number.Given as goal

abbrev pub invariant-loop-i : goal.invariant-loop-i
invariant-loop-i l = IsSummed l.at l.forms l.place l.i l.sum
