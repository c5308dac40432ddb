use Rattle.std.proofs.Common.{◌≡◌, drop}
use Rattle.lt_triang.specs.Flat.{leading}
use Rattle.lt_flip.proofs.terms.leading_of.Given as goal

abbrev pub invariant-loop-i : goal.invariant-loop-i
invariant-loop-i l = leading (drop l.i l.list) ≡ leading l.list
