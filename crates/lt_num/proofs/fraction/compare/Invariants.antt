use Rattle.std.proofs.Common.{◌≡◌, pos, ◌+◌, ◌-ℤ◌, ◌*ℤ◌, ◌<ℤ◌, ◌≤ℤ◌, ◌⊎◌, unsigned_abs}
use Rattle.lt_num.proofs.fraction.compare.Given as goal

abbrev pub invariant-loop-b : goal.invariant-loop-b
invariant-loop-b l = record {
  same : l.a *ℤ l.e -ℤ l.c *ℤ l.b ≡ l.fn.a *ℤ l.fn.e -ℤ l.fn.c *ℤ l.fn.b;
  low_first : pos 0 ≤ℤ l.b;
  low_second : pos 0 ≤ℤ l.e;
  finite : ((pos 0 <ℤ l.b) × (pos 0 <ℤ l.e)) ⊎ ((pos 0 <ℤ l.a) × (pos 0 <ℤ l.c));
}

abbrev pub decreases-loop-b : goal.decreases-loop-b
decreases-loop-b l = unsigned_abs l.b + unsigned_abs l.e
