use Rattle.std.proofs.Common.{◌≡◌, drop, ◌++◌, get_or, pos, ◌+◌}
use Rattle.lt_model.specs.Vectors.{plus, scale}
use Rattle.lt_geometry.proofs.Induced.{products}
use Rattle.lt_merge.proofs.images.product_numbers.Given as goal

abbrev pub invariant-loop-i : goal.invariant-loop-i
invariant-loop-i l = l.all.items ++ products (drop l.i l.r) (drop l.i l.s) ≡ products l.r l.s

abbrev pub invariant-loop-j : goal.invariant-loop-j
invariant-loop-j l =
    l.all.items ++ (plus (scale (get_or l.r l.i (pos 0)) (drop l.j l.s)) (scale (get_or l.s l.i (pos 0)) (drop l.j l.r)) ++ products (drop (l.i + 1) l.r) (drop (l.i + 1) l.s)) ≡ products l.r l.s
