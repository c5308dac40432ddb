use Rattle.std.proofs.Common.{◌≡◌, ◌<◌, ◌*ℤ◌, ℕ, [], get_or}
use Rattle.lt_model.specs.Padded.{lookup}
use Rattle.lt_lp.specs.Checks.{term_sum}
use Rattle.lt_lp.proofs.checks.sums_match.Given as goal

abbrev pub invariant-loop-j : goal.invariant-loop-j
invariant-loop-j l = (q : ℕ) → q < l.j → term_sum l.normals q l.terms ≡ l.scale *ℤ lookup (get_or l.normals l.k []) q
