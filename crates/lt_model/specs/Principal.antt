-- The principal form and the principal triangulation: Voronoi 1908 ("première forme parfaite", "type principal");
-- Schürmann, chapter 4.
use Rattle.std.specs.Prelude.{ℕ, zero, suc, ℤ, pos, negsuc, ◌<◌, List, [], ◌∷◌, ◌++◌, ◌≡◌, ◌↔◌, length}
use Rattle.std.specs.List.{Contains}
use Rattle.std.specs.List.Sorted.{IsStrictlySortedBy}
use Rattle.lt_model.specs.Order.{simplex_cmp}
use Rattle.lt_model.specs.Vectors.{plus, scale, zeros, ones, unit}

-- p holds the numbers below k, each once
pub record IsOrder (k : ℕ) (p : List ℕ) : Type 0 where
  pub count : length p ≡ k
  pub each : (j : ℕ) → j < k → Contains p j

-- the points x, x + e_p(1), x + e_p(1) + e_p(2), ..
abbrev pub path_from : ℕ → List ℤ → List ℕ → List (List ℤ)
path_from d x [] = x ∷ []
path_from d x (k ∷ p) = x ∷ path_from d (plus x (unit d k)) p

-- the path of an order from 0 to (1, .., 1)
abbrev pub principal_class : ℕ → List ℕ → List (List ℤ)
principal_class d p = path_from d (zeros d) p

-- one class for each order of the coordinates: its path
pub record IsPrincipal (d : ℕ) (t : List (List (List ℤ))) : Type 0 where
  pub ascending : IsStrictlySortedBy simplex_cmp t
  pub members : (s : List (List ℤ)) → Contains t s ↔ ((p : List ℕ) × IsOrder d p × (s ≡ principal_class d p))

-- the last k rows of the principal form, each from the diagonal on: d, then -2 for each later coordinate
abbrev pub principal_rows : ℕ → ℕ → List ℤ
principal_rows d zero = []
principal_rows d (suc k) = pos d ∷ (scale (negsuc 1) (ones k) ++ principal_rows d k)

-- a_ii = d, and a_ij = -2 for i < j
abbrev pub principal_numbers : ℕ → List ℤ
principal_numbers d = principal_rows d d
