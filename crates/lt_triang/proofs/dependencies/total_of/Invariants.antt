use Rattle.std.proofs.Common.{◌≡◌, drop, ◌+ℤ◌, nat_abs, ◌*◌, ◌^◌, ◌≤◌}
use Rattle.lt_model.specs.Vectors.{total}
use Rattle.lt_triang.proofs.dependencies.total_of.Given as goal

abbrev pub invariant-loop-i : goal.invariant-loop-i
invariant-loop-i l = record {
  so_far : l.sum +ℤ total (drop l.i l.terms) ≡ total l.terms;
  small : nat_abs l.sum ≤ l.i * 2 ^ 56;
}
