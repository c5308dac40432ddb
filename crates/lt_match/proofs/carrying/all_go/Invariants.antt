use Rattle.std.proofs.Common.{ℕ, ◌<◌, ◌≤◌, get_or, []}
use Rattle.lt_model.specs.Flat.{rows}
use Rattle.lt_match.specs.Images.{GoesInto}
use Rattle.lt_match.proofs.carrying.all_go.Given as goal

abbrev pub invariant-loop-n : goal.invariant-loop-n
invariant-loop-n l = (m : ℕ) → l.start ≤ m → m < l.n → GoesInto l.d (rows l.d l.u) (get_or l.from m []) l.to
