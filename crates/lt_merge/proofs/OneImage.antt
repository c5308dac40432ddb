-- A facet has one image.
use Rattle.std.proofs.Common.{◌≡◌, ℕ, ℤ, ◌<◌, ◌≤◌, ◌∙◌, sym, ap, subst, inl, inr, List, [], ◌∷◌, length, get_or}
use Rattle.std.specs.List.{AllByRecursion}
use Rattle.std.specs.List.Sorted.{IsStrictlySortedBy}
use Rattle.std.specs.declared.cmp.Ordering.TheVariants.{Less}
use Rattle.std.proofs.lemmas.Bool.{cases_order}
use Rattle.std.proofs.lemmas.List.Elements.{Contains-get_or}
use Rattle.lt_model.specs.Cones.{Verdict, wall, combination, Row, normals}
use Rattle.lt_model.specs.Order.{number_list_cmp}
use Rattle.lt_model.specs.Matrices.{apply}
use Rattle.lt_model.specs.Simplices.{IsSimplex}
use Rattle.lt_model.specs.Walls.{IsAcross}
use Rattle.lt_model.specs.Atlases.{Atlas, facet_if, facets_of, entry_at, facet_at}
use Rattle.lt_model.specs.Logs.{IsKept}
use Rattle.lt_model.proofs.Sets.{number_list_cmp_total}
use Rattle.lt_geometry.proofs.Induced.{induced}
use Rattle.lt_lp.proofs.ConeFacets.{one_place}
use Rattle.lt_match.specs.Matches.{IsFirstMatch}
use Rattle.lt_core.proofs.Recording.{same_place}
use Rattle.lt_crew.proofs.Places.{form}
use Rattle.lt_merge.specs.Images.{IsImageOf}
use Rattle.lt_merge.proofs.Along.{along_once}
use Rattle.lt_match.proofs.OneMatch.{one_match}

-- ---- facets of a cone whose normals ascend

above_facets : (n : List ℤ) (rows : List Row) → AllByRecursion (λ m. number_list_cmp n m ≡ Less) (normals rows) → AllByRecursion (λ m. number_list_cmp n m ≡ Less) (facets_of rows)
above_facets n [] h = tt
above_facets n (r ∷ rows) h = pick r.verdict (above_facets n rows h.1)
  where
    pick : (v : Verdict) → AllByRecursion (λ m. number_list_cmp n m ≡ Less) (facets_of rows) → AllByRecursion (λ m. number_list_cmp n m ≡ Less) (facet_if v r.normal (facets_of rows))
    pick (wall w) k = (h.0, k)
    pick (combination f ts) k = k

facets_ascend : (rows : List Row) → IsStrictlySortedBy number_list_cmp (normals rows) → IsStrictlySortedBy number_list_cmp (facets_of rows)
unfolding IsStrictlySortedBy
facets_ascend [] h = tt
facets_ascend (r ∷ rows) h = pick r.verdict (above_facets r.normal rows h.0) (facets_ascend rows h.1)
  where
    pick : (v : Verdict) → AllByRecursion (λ m. number_list_cmp r.normal m ≡ Less) (facets_of rows) → IsStrictlySortedBy number_list_cmp (facets_of rows) → IsStrictlySortedBy number_list_cmp (facet_if v r.normal (facets_of rows))
    pick (wall w) a k = (a, k)
    pick (combination f ts) a k = k

-- ---- images

module _ (a t : Atlas) (low : 2 ≤ a.dimension) (kept : IsKept (IsAcross a.dimension) a) (kept_t : IsKept (IsAcross t.dimension) t) (low_t : 2 ≤ t.dimension) (same : a.dimension ≡ t.dimension) (p : ℕ × ℕ) (l : p.0 < length t.entries) where
  first_simplex : IsSimplex a.dimension (get_or (entry_at t.entries p.0).triangulation 0 [])
  first_simplex =
      let f = form t low_t kept_t p.0 l in
      subst (λ (d : ℕ). IsSimplex d (get_or (entry_at t.entries p.0).triangulation 0 [])) (sym same) ((kept_t.right.parts.entries p.0 l).classes (get_or (entry_at t.entries p.0).triangulation 0 []) (Contains-get_or (entry_at t.entries p.0).triangulation 0 [] f.1.occupied)).simplex

  one_entry_place : (q r : ℕ × ℕ) → IsImageOf t p a q → IsImageOf t p a r → q.0 ≡ r.0
  one_entry_place q r h g =
      elim (cases_order q.0 r.0) [
        | inl e ↦ e
        | inr (inl less) ↦ absurd (g.placed.before q.0 less (h.matrix, h.placed.first.first.«match».carries))
        | inr (inr less) ↦ absurd (h.placed.before r.0 less (g.matrix, g.placed.first.first.«match».carries))
      ]

  pub one_image : (q r : ℕ × ℕ) → IsImageOf t p a q → IsImageOf t p a r → q ≡ r
  one_image q r h g =
      let e : q.0 ≡ r.0 = one_entry_place q r h g in
      let first : IsFirstMatch a.dimension (entry_at t.entries p.0).triangulation (entry_at a.entries r.0).triangulation h.matrix =
      subst (λ (k : ℕ). IsFirstMatch a.dimension (entry_at t.entries p.0).triangulation (entry_at a.entries k).triangulation h.matrix) e h.placed.first
      in
      let matrix : h.matrix ≡ g.matrix = one_match a.dimension (entry_at t.entries p.0).triangulation (entry_at a.entries r.0).triangulation first_simplex h.matrix g.matrix first g.placed.first in
      let hs = along_once a.dimension h.matrix (facet_at t.entries p) (facet_at a.entries q) h.placed.first.first.«match».carries.square h.image.along in
      let gs = along_once a.dimension g.matrix (facet_at t.entries p) (facet_at a.entries r) g.placed.first.first.«match».carries.square g.image.along in
      let facet : facet_at a.entries q ≡ facet_at a.entries r = hs ∙ ap (λ (u : List (List ℤ)). apply (induced u) (facet_at t.entries p)) matrix ∙ sym gs in
      let rows : List Row = (entry_at a.entries r.0).cone.rows in
      let ascend = facets_ascend rows (kept.right.parts.entries r.0 g.placed.present).cone.regulators.ascending in
      let here : get_or (facets_of rows) q.1 [] ≡ get_or (facets_of rows) r.1 [] = sym (ap (λ (k : ℕ). get_or (facets_of (entry_at a.entries k).cone.rows) q.1 []) e) ∙ facet in
      let within : q.1 < length (facets_of rows) = subst (λ (k : ℕ). q.1 < length (facets_of (entry_at a.entries k).cone.rows)) e h.image.within in
      same_place q r e (one_place number_list_cmp number_list_cmp_total (facets_of rows) q.1 r.1 [] ascend within g.image.within here)
