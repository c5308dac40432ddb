-- Laws of images of facets.
use Rattle.std.specs.Prelude.{ℕ, ℤ, ◌<◌, ◌≤◌, ◌≡◌, List, length}
use Rattle.lt_model.specs.Matrices.{Carries}
use Rattle.lt_model.specs.Walls.{IsAcross}
use Rattle.lt_model.specs.Atlases.{Classes, Atlas, entry_at, facets, facet_at}
use Rattle.lt_model.specs.Logs.{IsKept}
use Rattle.lt_merge.specs.Images.{IsImage, IsPlaced, IsImageOf}

-- two right atlases of one dimension
pub record ArePaired (t a : Atlas) : Type 0 where
  pub low : 2 ≤ a.dimension
  pub same : a.dimension ≡ t.dimension
  pub kept : IsKept (IsAcross a.dimension) a
  pub kept_too : IsKept (IsAcross t.dimension) t

-- each facet of an entry that has a place in a has an image there
abbrev pub FacetsHaveImages : Type 0
FacetsHaveImages =
    (t a : Atlas) (p : ℕ × ℕ) (j : ℕ) (u : List (List ℤ)) → ArePaired t a → p.0 < length t.entries →
    p.1 < length (facets (entry_at t.entries p.0)) → IsPlaced t p.0 a j u → (g : ℕ)
    × IsImage a j u (facet_at t.entries p) g

-- and it has one alone
abbrev pub FacetsHaveOneImage : Type 0
FacetsHaveOneImage =
    (t a : Atlas) (p q r : ℕ × ℕ) → ArePaired t a → p.0 < length t.entries → IsImageOf t p a q → IsImageOf t p a r
    → q ≡ r

-- the matrix carries what lies across the facet onto what lies across its image
abbrev pub CrossingsGoToImages : Type 0
CrossingsGoToImages =
    (t a : Atlas) (p q : ℕ × ℕ) (b c : Classes) → ArePaired t a → (h : IsImageOf t p a q) →
    IsAcross t.dimension (entry_at t.entries p.0).triangulation (facet_at t.entries p) b →
    IsAcross a.dimension (entry_at a.entries q.0).triangulation (facet_at a.entries q) c →
    Carries a.dimension h.matrix b c
