use Rattle.lt_triang.specs.Walled.{AreRows}
use Rattle.lt_triang.proofs.carrying.rows_from.Given as goal

abbrev pub invariant-loop-n : goal.invariant-loop-n
invariant-loop-n l = AreRows l.d l.classes l.n l.rows.items
