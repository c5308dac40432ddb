use Rattle.std.proofs.Common.{◌≡◌, ◌≤◌, ◌^◌, ◌<◌, ℕ, ℤ, map, take, get_or, length, nat_abs}
use Rattle.lt_triang.specs.Codes.{point_code}
use Rattle.lt_triang.proofs.codes.point_codes.Given as goal

abbrev pub invariant-loop-point : goal.invariant-loop-point
invariant-loop-point l = record {
  value : l.all.items ≡ map point_code (take l.point-index l.s);
  small : (k : ℕ) (e : ℤ) → k < length l.all.items → nat_abs (get_or l.all.items k e) ≤ 2 ^ 45;
}
