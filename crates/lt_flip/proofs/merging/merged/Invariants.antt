use Rattle.std.proofs.Common.{length}
use Rattle.lt_flip.specs.Merged.{classes_at, AreMergedBelow}
use Rattle.lt_flip.proofs.merging.merged.Given as goal

abbrev pub invariant-loop-next : goal.invariant-loop-next
invariant-loop-next l = AreMergedBelow (classes_at l.t l.kept) l.made l.from l.next l.all.items

abbrev pub invariant-loop-place : goal.invariant-loop-place
invariant-loop-place l = AreMergedBelow (classes_at l.t l.kept) l.made l.place (length l.made) l.all.items
