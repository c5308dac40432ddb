use Rattle.std.proofs.Common.{ℕ, ◌<◌, ◌≤◌, [], get_or}
use Rattle.lt_model.specs.Limits.{span_limit, class_span}
use Rattle.lt_flip.proofs.flips.first_wide.Given as goal

abbrev pub invariant-loop-i : goal.invariant-loop-i
invariant-loop-i l = (k : ℕ) → k < l.i → class_span (get_or l.classes k []) ≤ span_limit l.d
