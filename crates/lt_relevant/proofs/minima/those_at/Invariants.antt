use Rattle.std.proofs.Common.{◌≡◌, filter, take}
use Rattle.std.specs.Ordering.{int_eq}
use Rattle.lt_model.specs.Forms.{value}
use Rattle.lt_relevant.proofs.minima.those_at.Given as goal

abbrev pub invariant-loop-x : goal.invariant-loop-x
invariant-loop-x l = l.vectors.items ≡ filter (λ x. int_eq (value l.q x) l.least) (take l.x-index l.points)
