-- What a triangulation keeps, and what its classes are made from.
use Rattle.std.specs.Prelude.{ℕ, ℤ, List, [], length, get_or, ◌-◌, ◌<◌, ◌≤◌}
use Rattle.std.specs.List.{Contains}
use Rattle.std.specs.List.Sorted.{IsStrictlySortedBy}
use Rattle.lt_model.specs.Order.{simplex_cmp}
use Rattle.lt_model.specs.Simplices.{IsClass}
use Rattle.lt_model.specs.Facets.{IsClosed}
use Rattle.lt_model.specs.Triangulations.{IsDelaunay}
use Rattle.lt_model.specs.Limits.{span, span_limit}

-- ascending classes of one dimension, closed under facets
pub record IsTriangulation (d : ℕ) (t : List (List (List ℤ))) : Type 0 where
  pub low : 2 ≤ d
  pub high : d ≤ 6
  pub occupied : 0 < length t
  pub ascending : IsStrictlySortedBy simplex_cmp t
  pub classes : (s : List (List ℤ)) → Contains t s → IsClass d s
  pub closed : IsClosed d t
  pub narrow : span t ≤ span_limit d

-- classes of one dimension, each within the limit of spans
pub record AreClasses (d : ℕ) (t : List (List (List ℤ))) : Type 0 where
  pub low : 2 ≤ d
  pub high : d ≤ 6
  pub classes : (s : List (List ℤ)) → Contains t s → IsClass d s
  pub narrow : span t ≤ span_limit d

-- the number of coordinates of the points of the classes
abbrev pub dimension_of : List (List (List ℤ)) → ℕ
dimension_of t = length (get_or t 0 []) - 1

-- the classes are the Delaunay triangulation of some form
abbrev pub IsOfSomeForm : List (List (List ℤ)) → Type 0
IsOfSomeForm t = (q : List ℤ) × IsDelaunay (dimension_of t) q t
