use Rattle.std.proofs.Common.{◌≡◌, drop, map, max}
use Rattle.lt_model.specs.Limits.{greatest, class_span, span}
use Rattle.lt_triang.proofs.triangulations.widest_of.Given as goal

abbrev pub invariant-loop-n : goal.invariant-loop-n
invariant-loop-n l = max l.widest (greatest (drop l.n (map class_span l.classes))) ≡ span l.classes
