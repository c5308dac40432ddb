-- Whole multiples of the unit vectors as sums over the vertices of a simplex.
use Rattle.std.specs.Prelude.{ℕ, ℤ, pos, ◌<◌, ◌≤ℤ◌, ◌*ℤ◌, ◌*◌, ◌^◌, ◌≡◌, List, [], length, map, get_or, drop}
use Rattle.std.specs.List.{All}
use Rattle.lt_model.specs.Vectors.{scale, dot, unit, combine}
use Rattle.lt_model.specs.Facets.{number_at}
use Rattle.lt_model.specs.Flat.{rows}
use Rattle.lt_lattice.specs.Ranges.{IsBelow}
use Rattle.lt_solve.specs.Systems.{column_limit, answer_limit}

-- scale j times the unit vector j is the sum of the points after the first times row j of the terms
pub record IsBasis (d : ℕ) (points : List (List ℤ)) (scales terms : List ℤ) : Type 0 where
  pub count : length scales ≡ d
  pub terms_count : length terms ≡ d * d
  pub below : All (IsBelow answer_limit) terms
  pub small : All (IsBelow (2 ^ 80)) scales
  pub great : (j : ℕ) → j < d → pos (column_limit d) ≤ℤ get_or scales j (pos 0)
  pub each : (j : ℕ) → j < d → combine (get_or (rows d terms) j []) (drop 1 points) ≡ scale (get_or scales j (pos 0)) (unit d j)

-- the basis of some points
abbrev pub IsSomeBasis : ℕ → List ℤ → List ℤ → Type 0
IsSomeBasis d scales terms = (points : List (List ℤ)) × IsBasis d points scales terms

-- x is the number at row k and column j of the matrix that takes the points of the basis to the targets
abbrev pub IsEntry : ℕ → List ℤ → List ℤ → List (List ℤ) → ℕ → ℕ → ℤ → Type 0
IsEntry d scales terms targets k j x = get_or scales j (pos 0) *ℤ x ≡ dot (get_or (rows d terms) j []) (map (number_at k) (drop 1 targets))
