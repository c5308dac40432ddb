-- The rows of a cone, and the cone of a list of normals.
use Rattle.std.specs.Prelude.{ℕ, ℤ, pos, ◌≡◌, ◌≢◌, ◌<◌, ◌^◌, List, [], length, get_or}
use Rattle.lt_model.specs.Vectors.{scale}
use Rattle.lt_model.specs.Forms.{numbers_of_form}
use Rattle.lt_model.specs.Cones.{Row, Cone, Verdict, wall, combination, normals, sum_of_walls, AreBelow, IsRightVerdict}
use Rattle.lt_model.specs.Limits.{weight, weight_limit}
use Rattle.lt_lp.specs.Reduced.{IsReduced}

-- a wall has the numbers of a form, below 2^62
abbrev pub IsWallOf : ℕ → Verdict → Type 0
IsWallOf d (wall w) = (length w ≡ numbers_of_form d) × AreBelow (2 ^ 62) w
IsWallOf d (combination factor terms) = Unit

-- no two of the normals lie on one ray
abbrev pub HaveDifferentRays : List (List ℤ) → Type 0
HaveDifferentRays ns =
    (i j : ℕ) → i < length ns → j < length ns → i ≢ j → (g h : ℕ) → 0 < g → 0 < h → scale (pos g) (get_or ns i []) ≢ scale (pos h) (get_or ns j [])

-- a row for each normal with a right verdict on it, and the primitive form of the sum of the walls
pub record IsConeOf (d : ℕ) (ns : List (List ℤ)) (c : Cone) : Type 0 where
  pub names : normals c.rows ≡ ns
  pub verdicts : (k : ℕ) (r : Row) → k < length c.rows → IsRightVerdict d ns k (get_or c.rows k r).verdict
  pub light : weight d ns < weight_limit
  pub form : IsReduced (sum_of_walls (numbers_of_form d) c.rows) c.form
