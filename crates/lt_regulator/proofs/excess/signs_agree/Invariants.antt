use Rattle.lt_regulator.proofs.Numbered.{IsRowAt, IsPlaceAt}
use Rattle.lt_regulator.proofs.excess.signs_agree.Given as goal

abbrev pub invariant-loop-i : goal.invariant-loop-i
invariant-loop-i l = IsRowAt l.d l.i l.k

abbrev pub invariant-loop-j : goal.invariant-loop-j
invariant-loop-j l = IsPlaceAt l.d l.i l.j l.k
