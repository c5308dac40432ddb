use Rattle.lt_flip.specs.Merged.{classes_at, AreMergedBelow}
use Rattle.lt_flip.proofs.merging.push_below.Given as goal

abbrev pub invariant-loop-place : goal.invariant-loop-place
invariant-loop-place l = AreMergedBelow (classes_at l.t l.kept) l.made l.place l.next l.all.items
