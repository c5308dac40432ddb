use Rattle.std.proofs.Common.{get_or, []}
use Rattle.lt_triang.specs.Indexed.{AreNotFacing}
use Rattle.lt_triang.proofs.indexes.first_in.Given as goal

abbrev pub invariant-loop-q : goal.invariant-loop-q
invariant-loop-q l = AreNotFacing l.d l.classes (get_or l.classes l.n []) l.i l.facets l.q
