-- The Delaunay triangulation of a form: Voronoi 1908 ("L-type"); Schürmann, chapter 4.
use Rattle.std.specs.Prelude.{ℕ, ℤ, ◌<◌, List, ◌↔◌, length}
use Rattle.std.specs.List.{Contains}
use Rattle.std.specs.List.Sorted.{IsStrictlySortedBy}
use Rattle.lt_model.specs.Order.{simplex_cmp}
use Rattle.lt_model.specs.Forms.{IsPositiveDefinite}
use Rattle.lt_model.specs.Simplices.{IsClass, IsStrictlyEmpty}
use Rattle.lt_model.specs.Facets.{IsClosed}

-- the classes, in ascending order, are exactly those that are strictly empty for a positive definite form;
-- there is at least one, and each facet of each lies in a second simplex on the other side
pub record IsDelaunay (d : ℕ) (q : List ℤ) (t : List (List (List ℤ))) : Type 0 where
  pub positive : IsPositiveDefinite d q
  pub occupied : 0 < length t
  pub ascending : IsStrictlySortedBy simplex_cmp t
  pub members : (s : List (List ℤ)) → Contains t s ↔ (IsClass d s × IsStrictlyEmpty d q s)
  pub closed : IsClosed d t
