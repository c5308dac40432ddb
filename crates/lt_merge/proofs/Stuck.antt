-- Where an entry has no place, the mark at the image of the facet across which it was found is wide or heavy.
use Rattle.std.proofs.Common.{◌≡◌, ◌≢◌, ℕ, zero, suc, ℤ, ◌<◌, ◌≤◌, ◌∙◌, refl, arith, sym, ap, subst, inl, List, length}
use Rattle.std.specs.declared.option.Option.{Option}
use Rattle.std.specs.declared.option.Option.TheVariants.{Some, None}
use Rattle.lt_model.specs.Principal.{IsPrincipal}
use Rattle.lt_model.specs.Matrices.{identity, AreEquivalent}
use Rattle.lt_model.specs.Walls.{IsAcross}
use Rattle.lt_model.specs.Atlases.{Classes, Mark, open_mark, cross, wide, heavy, Atlas, entry_at, facets, mark_at, place_of}
use Rattle.lt_model.specs.RightAtlases.{AreClasses, HasOrigin, IsCrossed}
use Rattle.lt_model.specs.Logs.{IsKept, IsUnlikeAll, IsNoCross}
use Rattle.lt_core.proofs.Equivalent.{carries_identity, carries_on}
use Rattle.lt_core.proofs.Reaching.{one_principal}
use Rattle.lt_merge.specs.Images.{IsCrossedAt, IsImageOf}
use Rattle.lt_merge.specs.Taken.{IsTakenOver}
use Rattle.lt_merge.specs.Merged.{IsMergedTo}
use Rattle.lt_merge.proofs.Covered.{classes}
use Rattle.lt_merge.proofs.Crossed.{carried_over}
use Rattle.lt_merge.proofs.OneImage.{one_image}

module _ (s t a : Atlas) (low : 2 ≤ a.dimension) (same : a.dimension ≡ t.dimension) (low_t : 2 ≤ t.dimension) (kept_t : IsKept (IsAcross t.dimension) t) (k : ℕ) (l : k < length t.entries) (h : IsMergedTo s t (k, 0) a) (unlike : IsUnlikeAll a.dimension (entry_at t.entries k).triangulation a.entries) where
  -- the first entry is principal, and so is the first one there
  positive : 0 < k
  positive = by k refl
    where
      by : (n : ℕ) → k ≡ n → 0 < k
      by zero e =
          let own = h.kept.right.parts.start in
          let its : IsPrincipal a.dimension (entry_at t.entries k).triangulation = subst (λ (d : ℕ). IsPrincipal d (entry_at t.entries k).triangulation) (sym same) (subst (λ (n : ℕ). IsPrincipal t.dimension (entry_at t.entries n).triangulation) (sym e) kept_t.right.parts.start) in
          let one : (entry_at a.entries 0).triangulation ≡ (entry_at t.entries k).triangulation = one_principal a.dimension (entry_at a.entries 0).triangulation (entry_at t.entries k).triangulation own its in
          let first : AreEquivalent a.dimension (entry_at a.entries 0).triangulation (entry_at a.entries 0).triangulation = (identity a.dimension, carries_identity a.dimension (entry_at a.entries 0).triangulation (classes a h.kept 0 h.kept.right.parts.occupied)) in
          absurd (unlike 0 h.kept.right.parts.occupied (subst (λ (c : Classes). AreEquivalent a.dimension c (entry_at a.entries 0).triangulation) one first))
      by (suc n) e = omega (arith, e)

  origin : HasOrigin (IsAcross t.dimension) t.dimension t.entries t.marks k
  origin = kept_t.right.parts.origins k positive l

  origin_present : origin.parent < length t.entries
  origin_present = let e = origin.earlier in omega (arith, e, l)

  abbrev found : ℕ × ℕ
  found = (origin.parent, origin.facet)

  crossed : IsCrossedAt t found
  crossed = (k, identity t.dimension, origin.mark)

  -- it has a place before
  origin_placed : IsUnlikeAll a.dimension (entry_at t.entries origin.parent).triangulation a.entries → ⊥
  origin_placed none = let o = h.second origin.parent origin.earlier in none o.0 o.1.present o.1.equivalent

  module _ (q : ℕ × ℕ) (image : IsImageOf t found a q) where
    settled : mark_at a.marks q ≢ open_mark
    settled =
        let taken : IsTakenOver t found a = h.taken found (inl origin.earlier) crossed in
        let one : taken.place ≡ q = one_image a t low h.kept kept_t low_t same found origin_present taken.place q taken.image image in
        subst (λ (z : ℕ × ℕ). mark_at a.marks z ≢ open_mark) one taken.settled

    -- a crossing there leads to an entry like it
    not_crossed : (n : ℕ) (v : List (List ℤ)) → mark_at a.marks q ≡ cross n v → ⊥
    not_crossed n v e =
        let over : IsCrossed (IsAcross a.dimension) a.dimension a.entries q n v = h.kept.right.parts.crosses q n v e in
        let c : Classes = (entry_at t.entries k).triangulation in
        let carried = carried_over a t low h.kept kept_t same found q image c over.across origin.across over.is_across in
        let all : AreClasses a.dimension c = subst (λ (d : ℕ). AreClasses d c) (sym same) (classes t kept_t k l) in
        unlike n over.present (carries_on a.dimension c over.across (entry_at a.entries n).triangulation all (image.matrix, carried) (v, over.carries))

    mark_stuck : IsNoCross (mark_at a.marks q)
    mark_stuck = by (mark_at a.marks q) refl
      where
        by : (m : Mark) → mark_at a.marks q ≡ m → IsNoCross m
        by open_mark e = absurd (settled e)
        by (cross n v) e = absurd (not_crossed n v e)
        by (wide c n) e = tt
        by (heavy n) e = tt

  -- the origin as it is read
  pub origin_none : (x : Option (ℕ × ℕ)) → place_of x ≡ (entry_at t.entries k).origin → x ≡ None → ⊥
  origin_none x e n = let h = sym (ap place_of n) ∙ e ∙ origin.named in cc

  module _ (x : Option (ℕ × ℕ)) (y : ℕ × ℕ) (read : place_of x ≡ (entry_at t.entries k).origin) (is : x ≡ Some y) where
    origin_is : found ≡ y
    origin_is = same_origin found (sym origin.named ∙ sym read ∙ ap place_of is)
      where
        same_origin : (z : ℕ × ℕ) → Some z ≡ Some (y.0, y.1) → z ≡ y
        same_origin z h = cc

    pub named_at : (entry_at t.entries k).origin ≡ Some y
    named_at = origin.named ∙ ap (λ (z : ℕ × ℕ). Some z) origin_is

    pub present_at : y.0 < length t.entries
    present_at = subst (λ (z : ℕ × ℕ). z.0 < length t.entries) origin_is origin_present

    pub within_at : y.1 < length (facets (entry_at t.entries y.0))
    within_at = subst (λ (z : ℕ × ℕ). z.1 < length (facets (entry_at t.entries z.0))) origin_is origin.within

    pub placed_at : IsUnlikeAll a.dimension (entry_at t.entries y.0).triangulation a.entries → ⊥
    placed_at none = origin_placed (subst (λ (z : ℕ × ℕ). IsUnlikeAll a.dimension (entry_at t.entries z.0).triangulation a.entries) (sym origin_is) none)

    pub stuck_at : (q : ℕ × ℕ) → IsImageOf t y a q → IsNoCross (mark_at a.marks q)
    stuck_at q image = mark_stuck q (subst (λ (z : ℕ × ℕ). IsImageOf t z a q) (sym origin_is) image)
