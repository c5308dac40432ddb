use Rattle.std.proofs.Common.{◌≡◌, drop, ◌+ℤ◌, nat_abs, ◌*◌, ◌^◌, ◌≤◌}
use Rattle.lt_model.specs.Vectors.{dot}
use Rattle.lt_lattice.proofs.matrices.image_coordinate.Given as goal

abbrev pub invariant-loop-j : goal.invariant-loop-j
invariant-loop-j l = record {
  so_far : l.sum +ℤ dot (drop l.j l.numbers) (drop l.j l.x) ≡ dot l.numbers l.x;
  small : nat_abs l.sum ≤ l.j * 2 ^ 93;
}
