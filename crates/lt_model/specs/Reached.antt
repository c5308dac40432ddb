-- What crossings of facets lead to from the principal triangulation: Voronoi 1908; Schürmann, chapter 4.
use Rattle.std.specs.Prelude.{ℕ, ℤ, List}
use Rattle.lt_model.specs.Principal.{IsPrincipal}
use Rattle.lt_model.specs.Walls.{IsFacet, IsAcross}

-- reached by crossings, where Beyond t n t' says that t' is the triangulation across the facet n of t
pub data IsReachedBy (Beyond : List (List (List ℤ)) → List ℤ → List (List (List ℤ)) → Type 0) (d : ℕ) : List (List (List ℤ)) → Type 0 where
  start : {t : List (List (List ℤ))} → IsPrincipal d t → IsReachedBy Beyond d t
  next : {t t' : List (List (List ℤ))} (n : List ℤ) → IsReachedBy Beyond d t → IsFacet d t n → Beyond t n t' → IsReachedBy Beyond d t'

-- the principal triangulation, and whatever lies across a facet of a reached one
abbrev pub IsReached : ℕ → List (List (List ℤ)) → Type 0
IsReached d = IsReachedBy (IsAcross d) d
