use Rattle.std.proofs.Common.{◌≡◌, take}
use Rattle.lt_core.proofs.copying.prints_copy.Given as goal

abbrev pub invariant-loop-print : goal.invariant-loop-print
invariant-loop-print l = l.all.items ≡ take l.print-index l.prints
