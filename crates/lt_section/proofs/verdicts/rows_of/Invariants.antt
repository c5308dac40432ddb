use Rattle.lt_section.proofs.RowLists.{AreRowsOf}
use Rattle.lt_section.proofs.verdicts.rows_of.Given as goal

abbrev pub invariant-loop-k : goal.invariant-loop-k
invariant-loop-k l = AreRowsOf l.forms l.normals l.points l.k l.rows.items
