use Rattle.std.proofs.Common.{◌≡◌, ◌≤◌, drop, nat_abs}
use Rattle.lt_triang.specs.Codes.{coordinate_digits, point_code}
use Rattle.lt_triang.proofs.Coded.{coordinate_reach}
use Rattle.lt_triang.proofs.codes.point_code.Given as goal

abbrev pub invariant-loop-k : goal.invariant-loop-k
invariant-loop-k l = record {
  so_far : coordinate_digits l.code (drop l.k l.x) ≡ point_code l.x;
  small : nat_abs l.code ≤ coordinate_reach l.k;
}
