-- The triangulation across a facet is carried onto the one across the image of the facet.
use Rattle.std.proofs.Common.{◌≡◌, ℕ, ℤ, ◌≤◌, sym, subst, List}
use Rattle.lt_model.specs.Matrices.{apply, Carries}
use Rattle.lt_model.specs.Walls.{IsFacet, IsAcross}
use Rattle.lt_model.specs.Atlases.{Classes, Atlas, entry_at, facet_at}
use Rattle.lt_model.specs.Logs.{IsKept}
use Rattle.lt_geometry.proofs.Crossed.{HasCarriedAcross, across_carried}
use Rattle.lt_geometry.proofs.Induced.{induced}
use Rattle.lt_core.proofs.Crossings.{HasForm, across_laws}
use Rattle.lt_core.proofs.Reaching.{facet_there}
use Rattle.lt_crew.proofs.Places.{form}
use Rattle.lt_merge.specs.Images.{IsImageOf}
use Rattle.lt_merge.proofs.Along.{along_once}

module _ (a t : Atlas) (low : 2 ≤ a.dimension) (kept : IsKept (IsAcross a.dimension) a) (kept_t : IsKept (IsAcross t.dimension) t) (same : a.dimension ≡ t.dimension) (p q : ℕ × ℕ) (h : IsImageOf t p a q) where
  pub image_carries : Carries a.dimension h.matrix (entry_at t.entries p.0).triangulation (entry_at a.entries q.0).triangulation
  image_carries = h.placed.first.first.«match».carries

  -- what lies across the facet is carried onto what lies across its image
  pub carried_over : (beyond c : Classes) → IsAcross t.dimension (entry_at t.entries p.0).triangulation (facet_at t.entries p) beyond → IsAcross a.dimension (entry_at a.entries q.0).triangulation (facet_at a.entries q) c → Carries a.dimension h.matrix beyond c
  carried_over beyond c across across_image =
      let d : ℕ = a.dimension in
      let n : List ℤ = facet_at t.entries p in
      let own : HasForm d (entry_at a.entries q.0).triangulation = form a low kept q.0 h.placed.present in
      let here : IsAcross d (entry_at t.entries p.0).triangulation n beyond = subst (λ (z : ℕ). IsAcross z (entry_at t.entries p.0).triangulation n beyond) (sym same) across in
      let over : HasCarriedAcross d h.matrix (entry_at a.entries q.0).triangulation n beyond = across_carried d h.matrix (entry_at t.entries p.0).triangulation (entry_at a.entries q.0).triangulation n beyond own.1.ascending image_carries here in
      let is : facet_at a.entries q ≡ apply (induced h.matrix) n = along_once d h.matrix n (facet_at a.entries q) image_carries.square h.image.along in
      let there : IsAcross d (entry_at a.entries q.0).triangulation (facet_at a.entries q) over.list = subst (λ (z : List ℤ). IsAcross d (entry_at a.entries q.0).triangulation z over.list) (sym is) over.across in
      let facet : IsFacet d (entry_at a.entries q.0).triangulation (facet_at a.entries q) = facet_there (IsAcross d) d (across_laws d low) a.entries a.marks kept.right.parts q.0 q.1 h.placed.present h.image.within in
      let one : over.list ≡ c = (across_laws d low).one (entry_at a.entries q.0).triangulation over.list c (facet_at a.entries q) own facet there across_image in
      subst (λ (z : Classes). Carries d h.matrix beyond z) one over.carries
