use Rattle.lt_section.proofs.CombinedNumbers.{AreCombined}
use Rattle.lt_section.proofs.walls.form_at.Given as goal

abbrev pub invariant-loop-place : goal.invariant-loop-place
invariant-loop-place l = AreCombined l.at l.forms l.place l.numbers.items
