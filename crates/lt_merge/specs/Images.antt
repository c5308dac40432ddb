-- Images of facets under a matrix that carries a triangulation onto an entry of an atlas.
use Rattle.std.specs.Prelude.{ℕ, ℤ, ◌<◌, ◌≡◌, List, length}
use Rattle.lt_model.specs.Matrices.{Carries}
use Rattle.lt_model.specs.Walls.{IsFacet}
use Rattle.lt_model.specs.Atlases.{Classes, cross, Atlas, entry_at, mark_at, facets, facet_at}
use Rattle.lt_model.specs.RightAtlases.{AreClasses}
use Rattle.lt_laws.specs.Carried.{IsNormalAlong}
use Rattle.lt_crew.specs.Settled.{IsFirstKnown}

-- u carries a triangulation that has the facet n onto entry j of a
pub record IsOnto (a : Atlas) (j : ℕ) (u : List (List ℤ)) (n : List ℤ) : Type 0 where
  pub present : j < length a.entries
  pub from : Classes
  pub classes : AreClasses a.dimension from
  pub carries : Carries a.dimension u from (entry_at a.entries j).triangulation
  pub facet : IsFacet a.dimension from n

-- facet g of entry j of a is the image of the normal n under u: it has at each form Q the value that n has at the form
-- Q[u x]
pub record IsImage (a : Atlas) (j : ℕ) (u : List (List ℤ)) (n : List ℤ) (g : ℕ) : Type 0 where
  pub within : g < length (facets (entry_at a.entries j))
  pub along : IsNormalAlong a.dimension u n (facet_at a.entries (j, g))

-- entry j of a is the first onto which a matrix carries the triangulation of entry k of t, and u is the first such
-- matrix
abbrev pub IsPlaced : Atlas → ℕ → Atlas → ℕ → List (List ℤ) → Type 0
IsPlaced t k a j u = IsFirstKnown a (entry_at t.entries k).triangulation j u

-- facet p.1 of entry p.0 of t is crossed
abbrev pub IsCrossedAt : Atlas → ℕ × ℕ → Type 0
IsCrossedAt t p = (k : ℕ) × (u : List (List ℤ)) × (mark_at t.marks p ≡ cross k u)

-- facet q.1 of entry q.0 of a is the image of facet p.1 of entry p.0 of t: q.0 is the place of that entry, and the
-- image is under the matrix that places it
pub record IsImageOf (t : Atlas) (p : ℕ × ℕ) (a : Atlas) (q : ℕ × ℕ) : Type 0 where
  pub matrix : List (List ℤ)
  pub placed : IsPlaced t p.0 a q.0 matrix
  pub image : IsImage a q.0 matrix (facet_at t.entries p) q.1
