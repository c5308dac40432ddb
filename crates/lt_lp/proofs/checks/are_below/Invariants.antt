use Rattle.std.proofs.Common.{take, ◌^◌}
use Rattle.std.specs.List.{All}
use Rattle.lt_lattice.specs.Ranges.{IsBelow}
use Rattle.lt_lp.proofs.checks.are_below.Given as goal

abbrev pub invariant-loop-number : goal.invariant-loop-number
invariant-loop-number l = All (IsBelow (2 ^ 62)) (take l.number-index l.numbers)
