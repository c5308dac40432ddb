use Rattle.std.proofs.Common.{◌≡◌, ◌<◌, ℕ, length, get_or, take}
use Rattle.lt_model.specs.Cones.{Row, normals, IsRightVerdict}
use Rattle.lt_tableau.specs.Errors.{AreOfDimension}
use Rattle.lt_lp.proofs.rows.rows_of.Given as goal

abbrev pub invariant-loop-k : goal.invariant-loop-k
invariant-loop-k l = record {
  size : length l.rows.items ≡ l.k;
  names : normals l.rows.items ≡ take l.k l.normals;
  right : (d : ℕ) → AreOfDimension d l.normals → (j : ℕ) (r : Row) → j < length l.rows.items → IsRightVerdict d l.normals j (get_or l.rows.items j r).verdict;
}
