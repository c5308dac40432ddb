-- Entries of the second atlas at their places in the first.
use Rattle.std.proofs.Common.{◌≡◌, ℕ, ℤ, ◌<◌, ◌≤◌, arith, sym, ◌∙◌, subst, List, length}
use Rattle.lt_model.specs.Limits.{span, span_limit}
use Rattle.lt_model.specs.Walls.{IsFacet, IsAcross}
use Rattle.lt_model.specs.Atlases.{Atlas, cross, entry_at, facets, facet_at}
use Rattle.lt_model.specs.RightAtlases.{AreClasses}
use Rattle.lt_model.specs.Logs.{IsKept}
use Rattle.lt_core.specs.Reached.{IsOneEntry}
use Rattle.lt_core.proofs.Crossings.{across_laws}
use Rattle.lt_core.proofs.Reaching.{facet_there}
use Rattle.lt_core.proofs.Undo.{mark_within}
use Rattle.lt_crew.specs.Settled.{IsNarrow, IsFirstKnown}
use Rattle.lt_crew.proofs.Places.{entry_dimension, entry_delaunay}
use Rattle.lt_merge.specs.Images.{IsCrossedAt, IsOnto}
use Rattle.lt_merge.proofs.Covered.{one_entry}

-- a crossed facet is one of an entry
pub crossed_within : (t : Atlas) → IsKept (IsAcross t.dimension) t → (p : ℕ × ℕ) → IsCrossedAt t p → (p.0 < length t.entries) × (p.1 < length (facets (entry_at t.entries p.0)))
crossed_within t kept p c =
    let w = mark_within t.marks p (cross c.0 c.1) c.2 (λ e. cc) in
    let first = w.0 in
    let lists = kept.right.parts.lists in
    let here : p.0 < length t.entries = omega (arith, first, lists) in
    (here, subst (λ (n : ℕ). p.1 < n) (kept.right.parts.each p.0 here) w.1)

module _ (a t : Atlas) (same : a.dimension ≡ t.dimension) (low_t : 2 ≤ t.dimension) (kept_t : IsKept (IsAcross t.dimension) t) (k : ℕ) (l : k < length t.entries) where
  entry_classes : AreClasses a.dimension (entry_at t.entries k).triangulation
  entry_classes = subst (λ (d : ℕ). AreClasses d (entry_at t.entries k).triangulation) (sym same) (kept_t.right.parts.entries k l).classes

  -- an entry can be matched
  pub entry_narrow : IsNarrow a.dimension (entry_at t.entries k).triangulation
  entry_narrow = record {
    dimension = entry_dimension t low_t kept_t k l ∙ sym same;
    delaunay = entry_delaunay t low_t kept_t k l;
    narrow = subst (λ (d : ℕ). span (entry_at t.entries k).triangulation ≤ span_limit d) (sym same) (kept_t.right.parts.entries k l).narrow;
  }

  -- its place is one alone
  pub entry_one : IsKept (IsAcross a.dimension) a → (j : ℕ) (u : List (List ℤ)) → IsFirstKnown a (entry_at t.entries k).triangulation j u → IsOneEntry a.dimension a.entries (entry_at t.entries k).triangulation j
  entry_one kept j u h = one_entry a kept (entry_at t.entries k).triangulation j entry_classes h.present (u, h.first.first.«match».carries)

  -- and the matrix carries its facets there
  pub entry_onto : (f j : ℕ) (u : List (List ℤ)) (n : List ℤ) → f < length (facets (entry_at t.entries k)) → IsFirstKnown a (entry_at t.entries k).triangulation j u → n ≡ facet_at t.entries (k, f) → IsOnto a j u n
  entry_onto f j u n lf h e =
      let facet : IsFacet t.dimension (entry_at t.entries k).triangulation (facet_at t.entries (k, f)) = facet_there (IsAcross t.dimension) t.dimension (across_laws t.dimension low_t) t.entries t.marks kept_t.right.parts k f l lf in
      record {
        present = h.present;
        from = (entry_at t.entries k).triangulation;
        classes = entry_classes;
        carries = h.first.first.«match».carries;
        facet = subst (λ (d : ℕ). IsFacet d (entry_at t.entries k).triangulation n) (sym same) (subst (λ (m : List ℤ). IsFacet t.dimension (entry_at t.entries k).triangulation m) (sym e) facet);
      }
