use Rattle.std.proofs.Common.{◌≡◌, drop, map, max}
use Rattle.lt_model.specs.Flat.{rows}
use Rattle.lt_model.specs.Limits.{greatest}
use Rattle.lt_match.specs.Wide.{told_span}
use Rattle.lt_match.proofs.transforms.widest_image.Given as goal

abbrev pub invariant-loop-n : goal.invariant-loop-n
invariant-loop-n l = max l.widest (greatest (drop l.n (map (told_span (rows l.d l.u)) l.t))) ≡ greatest (map (told_span (rows l.d l.u)) l.t)
