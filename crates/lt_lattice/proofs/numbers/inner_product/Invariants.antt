use Rattle.std.proofs.Common.{◌≡◌, drop, ◌+ℤ◌, nat_abs, ◌+◌, ◌≤◌}
use Rattle.lt_model.specs.Vectors.{dot}
use Rattle.lt_lattice.specs.Ranges.{size_of_dot}
use Rattle.lt_lattice.proofs.numbers.inner_product.Given as goal

abbrev pub invariant-loop-i : goal.invariant-loop-i
invariant-loop-i l = record {
  so_far : l.sum +ℤ dot (drop l.i l.a) (drop l.i l.b) ≡ dot l.a l.b;
  small : nat_abs l.sum + size_of_dot (drop l.i l.a) (drop l.i l.b) ≤ size_of_dot l.a l.b;
}
