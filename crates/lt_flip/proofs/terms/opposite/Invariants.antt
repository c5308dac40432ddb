use Rattle.std.proofs.Common.{◌≡◌, drop, ◌++◌, negsuc, length}
use Rattle.lt_model.specs.Vectors.{scale}
use Rattle.lt_flip.proofs.terms.opposite.Given as goal

abbrev pub invariant-loop-i : goal.invariant-loop-i
invariant-loop-i l = record {
  so_far : l.all.items ++ scale (negsuc 0) (drop l.i l.list) ≡ scale (negsuc 0) l.list;
  count : length l.all.items ≡ l.i;
}
