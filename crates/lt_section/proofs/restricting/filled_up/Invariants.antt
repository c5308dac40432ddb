use Rattle.std.proofs.Common.{◌≡◌, ◌-◌, ◌++◌, take, length}
use Rattle.lt_model.specs.Vectors.{zeros}
use Rattle.lt_section.proofs.restricting.filled_up.Given as goal

abbrev pub invariant-loop-number : goal.invariant-loop-number
invariant-loop-number l = l.all.items ≡ take l.number-index l.numbers

abbrev pub invariant-loop : goal.invariant-loop
invariant-loop l = l.all.items ≡ l.numbers ++ zeros (l.counter - length l.numbers)
