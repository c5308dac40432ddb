use Rattle.std.proofs.Common.{◌≡◌, drop, map, max}
use Rattle.lt_model.specs.Limits.{greatest, gap, class_span}
use Rattle.lt_triang.proofs.spans.span_of.Given as goal

abbrev pub invariant-loop-i : goal.invariant-loop-i
invariant-loop-i l = max l.widest (greatest (drop l.i (map (λ v. greatest (map (gap v) l.points)) l.points))) ≡ class_span l.points
