use Rattle.std.proofs.Common.{◌≡◌, take}
use Rattle.lt_model.specs.Negatives.{negative}
use Rattle.lt_text.proofs.halves.negative_vertices.Given as goal

abbrev pub invariant-loop-i : goal.invariant-loop-i
invariant-loop-i l = l.points.items ≡ take l.i (negative l.class)
