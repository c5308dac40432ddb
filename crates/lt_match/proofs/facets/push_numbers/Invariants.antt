use Rattle.std.proofs.Common.{◌≡◌, ◌++◌, take}
use Rattle.lt_match.proofs.facets.push_numbers.Given as goal

abbrev pub invariant-loop-number : goal.invariant-loop-number
invariant-loop-number l = l.all.items ≡ l.initial.all.items ++ take l.number-index l.numbers
