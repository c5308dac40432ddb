use Rattle.lt_regulator.proofs.Excesses.{AreRowsTo, AreWrittenTo}
use Rattle.lt_regulator.proofs.excess.excess_of.Given as goal

abbrev pub invariant-loop-i : goal.invariant-loop-i
invariant-loop-i l = AreRowsTo l.d l.i l.s l.w l.numbers l.all.items

abbrev pub invariant-loop-j : goal.invariant-loop-j
invariant-loop-j l = AreWrittenTo l.d l.i l.j l.s l.w l.numbers l.all.items
