use Rattle.std.proofs.Common.{take, ◌≤◌, ◌^◌}
use Rattle.lt_num.specs.Divisors.{IsGcdOf}
use Rattle.lt_num.proofs.common_of_short.Given as goal

abbrev pub invariant-loop-i : goal.invariant-loop-i
invariant-loop-i l = IsGcdOf (take l.i l.list) l.g × (l.g ≤ 2 ^ 63)
