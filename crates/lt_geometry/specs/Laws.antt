-- Laws of Delaunay triangulations.
use Rattle.std.specs.Prelude.{ℕ, ℤ, List, length, ◌<◌, ◌≡◌}
use Rattle.std.specs.List.Sorted.{IsStrictlySortedBy}
use Rattle.lt_model.specs.Order.{simplex_cmp}
use Rattle.lt_model.specs.Forms.{IsPositiveDefinite}
use Rattle.lt_model.specs.Triangulations.{IsDelaunay}
use Rattle.lt_geometry.specs.Paving.{IsPaving}

-- a set of classes that has a member, is closed under facets and is empty for a positive definite form is its Delaunay
-- triangulation
abbrev pub EveryPavingIsDelaunay : Type 0
EveryPavingIsDelaunay =
    (d : ℕ) (q : List ℤ) (t : List (List (List ℤ))) → IsPositiveDefinite d q → IsPaving d q t → 0 < length t
    → IsStrictlySortedBy simplex_cmp t → IsDelaunay d q t

-- a form has at most one Delaunay triangulation
abbrev pub FormsHaveOneTriangulation : Type 0
FormsHaveOneTriangulation = (d : ℕ) (q : List ℤ) (t t' : List (List (List ℤ))) → IsDelaunay d q t → IsDelaunay d q t'
    → t ≡ t'
