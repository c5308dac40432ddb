-- The bistellar flip by exchanged simplices; no form is mentioned.
-- Voronoi 1908; Schürmann and Vallentin 2006; Schürmann, chapter 4 ("bistellar operations").
use Rattle.std.specs.Prelude.{ℕ, suc, ℤ, pos, negsuc, ◌*ℤ◌, ◌<ℤ◌, ◌<◌, ◌⊎◌, List, ◌∷◌, ◌↔◌}
use Rattle.std.specs.List.{Contains}
use Rattle.std.specs.List.Sorted.{IsStrictlySortedBy}
use Rattle.lt_model.specs.Order.{simplex_cmp}
use Rattle.lt_model.specs.Vectors.{scale}
use Rattle.lt_model.specs.Simplices.{IsClassOf}
use Rattle.lt_model.specs.Facets.{without, number_at}
use Rattle.lt_model.specs.Walls.{IsPair}

-- the d + 2 points of a pair with the regulator n, less one, have the class s; the dependency of the points,
-- which is positive at the outer vertices, has the sign of `sign` at the point left out
pub record IsExchanged (d : ℕ) (t : List (List (List ℤ))) (n : List ℤ) (sign : ℤ) (s : List (List ℤ)) : Type 0 where
  pub base : List (List ℤ)
  pub vertex : List ℤ
  pub c : ℤ
  pub b : List ℤ
  pub pair : IsPair d t n base vertex c b
  pub place : ℕ
  pub within : place < suc (suc d)
  pub side : pos 0 <ℤ (sign *ℤ number_at place (c ∷ scale (negsuc 0) b))
  pub class_of : IsClassOf d (without place (vertex ∷ base)) s

-- the triangulation without the classes on the positive side, together with those on the negative side
pub record IsFlipOf (d : ℕ) (t : List (List (List ℤ))) (n : List ℤ) (t' : List (List (List ℤ))) : Type 0 where
  pub ascending : IsStrictlySortedBy simplex_cmp t'
  pub members : (s : List (List ℤ)) → Contains t' s ↔ ((Contains t s × (IsExchanged d t n (pos 1) s → ⊥)) ⊎ IsExchanged d t n (negsuc 0) s)
