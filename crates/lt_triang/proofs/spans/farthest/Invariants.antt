use Rattle.std.proofs.Common.{◌≡◌, drop, map, max}
use Rattle.lt_model.specs.Limits.{greatest, gap}
use Rattle.lt_triang.proofs.spans.farthest.Given as goal

abbrev pub invariant-loop-i : goal.invariant-loop-i
invariant-loop-i l = max l.widest (greatest (drop l.i (map (gap l.x) l.points))) ≡ greatest (map (gap l.x) l.points)
