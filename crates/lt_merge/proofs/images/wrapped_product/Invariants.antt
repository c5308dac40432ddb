use Rattle.std.proofs.Common.{◌≡◌, drop, ◌+ℤ◌}
use Rattle.std.specs.Int.{int_wrap, w128}
use Rattle.lt_model.specs.Vectors.{dot}
use Rattle.lt_merge.proofs.images.wrapped_product.Given as goal

abbrev pub invariant-loop-i : goal.invariant-loop-i
invariant-loop-i l = int_wrap w128 (l.sum +ℤ dot (drop l.i l.a) (drop l.i l.b)) ≡ int_wrap w128 (dot l.a l.b)
