use Rattle.std.proofs.Common.{◌≡◌, ◌≢◌, ◌<◌, ◌<ℤ◌, pos, ℕ, [], get_or}
use Rattle.lt_model.specs.Vectors.{dot}
use Rattle.lt_lp.proofs.checks.separates.Given as goal

abbrev pub invariant-loop-i : goal.invariant-loop-i
invariant-loop-i l = (j : ℕ) → j < l.i → (j ≡ l.k → dot (get_or l.normals j []) l.form ≡ pos 0) × (j ≢ l.k → pos 0 <ℤ dot (get_or l.normals j []) l.form)
