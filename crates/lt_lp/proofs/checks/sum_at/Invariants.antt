use Rattle.std.proofs.Common.{◌≡◌, ◌+ℤ◌, ◌≤◌, ◌*◌, ◌^◌, drop, nat_abs}
use Rattle.lt_lp.specs.Checks.{term_sum}
use Rattle.lt_lp.proofs.checks.sum_at.Given as goal

abbrev pub invariant-loop-i : goal.invariant-loop-i
invariant-loop-i l = record {
  value : l.sum +ℤ term_sum l.normals l.j (drop l.i l.terms) ≡ term_sum l.normals l.j l.terms;
  small : nat_abs l.sum ≤ l.i * 2 ^ 118;
}
