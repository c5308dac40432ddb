use Rattle.std.proofs.Common.{◌≡◌, ◌≤◌, ◌-ℤ◌, pos, map, get_or, drop, nat_abs}
use Rattle.lt_model.specs.Facets.{without}
use Rattle.lt_triang.specs.Codes.{point_digits, digits_of}
use Rattle.lt_triang.proofs.Coded.{point_reach}
use Rattle.lt_triang.proofs.codes.facet_code.Given as goal

abbrev pub invariant-loop-k : goal.invariant-loop-k
invariant-loop-k l = record {
  so_far : point_digits l.code (drop l.k (map (λ x. x -ℤ get_or (without l.i l.codes) 0 (pos 0)) (without l.i l.codes))) ≡ digits_of (without l.i l.codes);
  small : nat_abs l.code ≤ point_reach l.k;
}
