-- One step of a walk.
use Rattle.std.specs.Prelude.{ℕ, ℤ, ◌<◌, ◌≤◌, ◌≡◌, List}
use Rattle.lt_model.specs.Limits.{span, span_limit}
use Rattle.lt_model.specs.Walls.{IsAcross}
use Rattle.lt_laws.specs.Facets.{IsInside}
use Rattle.lt_triang.specs.Kept.{dimension_of, IsOfSomeForm}
use Rattle.lt_locate.specs.Firsts.{IsFirst}
use Rattle.lt_locate.specs.Walks.{IsNegativeFacet}
use Rattle.lt_locate.specs.Endings.{IsOpen}

abbrev pub IsInsideAt : ℕ → List (List (List ℤ)) → List ℤ → Type 0
IsInsideAt d t q = IsOpen d t q × IsInside d t q

-- the walk goes on from t to s
pub record IsNext (t : List (List (List ℤ))) (q : List ℤ) (i steps : ℕ) (s : List (List (List ℤ))) : Type 0 where
  pub is_open : IsOpen (dimension_of t) t q
  pub facet : List ℤ
  pub first : IsFirst (IsNegativeFacet (dimension_of t) t q) facet
  pub below : i < steps
  pub across : IsAcross (dimension_of t) t facet s
  pub narrow : span s ≤ span_limit (dimension_of t)
  pub form : IsOfSomeForm s
  pub same : dimension_of s ≡ dimension_of t
