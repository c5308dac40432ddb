use Rattle.std.proofs.Common.{◌≡◌, take}
use Rattle.lt_triang.proofs.rows.Row.try_copy.Given as goal

abbrev pub invariant-loop-wall : goal.invariant-loop-wall
invariant-loop-wall l = l.facets.items ≡ take l.wall-index l.wall-items
