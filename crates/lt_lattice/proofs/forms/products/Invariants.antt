use Rattle.std.proofs.Common.{◌≡◌, drop, ◌++◌, get_or, pos, ◌+◌}
use Rattle.lt_model.specs.Vectors.{scale}
use Rattle.lt_model.specs.Forms.{squares}
use Rattle.lt_lattice.proofs.forms.products.Given as goal

abbrev pub invariant-loop-i : goal.invariant-loop-i
invariant-loop-i l = l.all.items ++ squares (drop l.i l.x) ≡ squares l.x

abbrev pub invariant-loop-j : goal.invariant-loop-j
invariant-loop-j l = l.all.items ++ (scale (get_or l.x l.i (pos 0)) (drop l.j l.x) ++ squares (drop (l.i + 1) l.x)) ≡ squares l.x
