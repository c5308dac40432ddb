use Rattle.std.proofs.Common.{◌≡◌, ◌++◌, take}
use Rattle.lt_core.proofs.prints.Print.of.Given as goal

abbrev pub invariant-loop-number : goal.invariant-loop-number
invariant-loop-number l = l.narrow.items ++ l.wide.items ≡ take l.number-index l.numbers
