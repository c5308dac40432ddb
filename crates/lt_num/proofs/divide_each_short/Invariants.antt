use Rattle.std.proofs.Common.{take, drop, ◌≡◌, map, ◌++◌, ◌*ℤ◌}
use Rattle.lt_num.proofs.divide_each_short.Given as goal

abbrev pub invariant-loop-i : goal.invariant-loop-i
invariant-loop-i l = l.fn.list ≡ map (λ x. l.divisor *ℤ x) (take l.i l.list) ++ drop l.i l.list
