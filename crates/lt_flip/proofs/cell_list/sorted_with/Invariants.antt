use Rattle.std.proofs.Common.{◌≡◌, ◌∷◌, take}
use Rattle.lt_flip.proofs.cell_list.sorted_with.Given as goal

abbrev pub invariant-loop-point : goal.invariant-loop-point
invariant-loop-point l = l.all.items ≡ l.w ∷ take l.point-index l.s
