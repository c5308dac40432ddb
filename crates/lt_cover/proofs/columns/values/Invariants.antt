use Rattle.std.proofs.Common.{◌≡◌, ◌++◌, map, drop}
use Rattle.lt_model.specs.Forms.{value}
use Rattle.lt_cover.proofs.columns.values.Given as goal

abbrev pub invariant-loop-i : goal.invariant-loop-i
invariant-loop-i l = l.all.items ++ map (value l.q) (drop l.i l.class) ≡ map (value l.q) (drop 1 l.class)
