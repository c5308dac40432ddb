-- In a right and closed atlas each reached triangulation is equivalent to exactly one entry.
use Rattle.std.proofs.Common.{◌≡◌, ℕ, zero, suc, ℤ, ◌<◌, arith, ◌∙◌, subst, List, [], length, inl, inr}
use Rattle.std.proofs.lemmas.List.{get_or_default}
use Rattle.std.proofs.lemmas.Bool.{cases_eq}
use Rattle.lt_model.specs.Walls.{IsFacet}
use Rattle.lt_model.specs.Principal.{IsPrincipal}
use Rattle.lt_model.specs.Matrices.{identity, AreEquivalent}
use Rattle.lt_model.specs.Atlases.{Classes, Mark, cross, Entry, Atlas, entry_at, mark_at, facets, facet_at}
use Rattle.lt_model.specs.RightAtlases.{AreClasses, HasOrigin, IsCrossed, AreRight, IsRight, IsClosedAtlas}
use Rattle.lt_model.specs.Reached.{IsReachedBy, start, next}
use Rattle.lt_core.specs.Reached.{IsOneEntry}
use Rattle.lt_core.proofs.Crossings.{HasForm, AreCrossings}
use Rattle.lt_model.proofs.Sets.{same_members, simplex_cmp_total}
use Rattle.lt_model.specs.Order.{simplex_cmp}
use Rattle.lt_core.proofs.Equivalent.{carries_identity, carries_back, carries_on}
use Rattle.lt_lp.proofs.ConeFacets.{facets_exact}

pub classes_of_form : (d : ℕ) (t : Classes) → HasForm d t → AreClasses d t
classes_of_form d t (q, h) s m = ((h.members s).0 m).0

pub one_principal : (d : ℕ) (t t' : Classes) → IsPrincipal d t → IsPrincipal d t' → t ≡ t'
one_principal d t t' h k =
    same_members simplex_cmp simplex_cmp_total t t' h.ascending k.ascending (λ s. (λ m. (k.members s).1 ((h.members s).0 m), λ m. (h.members s).1 ((k.members s).0 m)))

module _ (Beyond : Classes → List ℤ → Classes → Type 0) (d : ℕ) (laws : AreCrossings Beyond d) where
  pub reached_form : (t : Classes) → IsReachedBy Beyond d t → HasForm d t
  reached_form t (start p) = laws.principal t p
  reached_form t (next {t = s} n r f x) = laws.kept s t n (reached_form s r) f x

  module _ (es : List Entry) (ms : List (List Mark)) (h : AreRight Beyond d es ms) where
    -- the normals of the marks of entry j are facets of it
    pub facet_there : (j f : ℕ) → j < length es → f < length (facets (entry_at es j)) → IsFacet d (entry_at es j).triangulation (facet_at es (j, f))
    facet_there j f hj hf =
        let e : Entry = entry_at es j in
        (facets_exact d e.triangulation e.cone (h.entries j hj).cone (facet_at es (j, f))).1 (f, hf, get_or_default (facets e) f (facet_at es (j, f)) [] hf)

    -- each entry is the Delaunay triangulation of some form; and each is reached
    below : (n k : ℕ) → k < n → k < length es → HasForm d (entry_at es k).triangulation × IsReachedBy Beyond d (entry_at es k).triangulation
    below zero k l hk = absurd (omega arith)
    below (suc n) zero l hk = (laws.principal (entry_at es 0).triangulation h.start, start h.start)
    below (suc n) (suc k) l hk =
        let o : HasOrigin Beyond d es ms (suc k) = h.origins (suc k) (omega arith) hk in
        let lt : o.parent < suc k = o.earlier in
        let r = below n o.parent (omega arith) (omega arith) in
        let f = facet_there o.parent o.facet (omega arith) o.within in (
          laws.kept (entry_at es o.parent).triangulation (entry_at es (suc k)).triangulation (facet_at es (o.parent, o.facet)) r.0 f o.across,
          next (facet_at es (o.parent, o.facet)) r.1 f o.across,
        )

    pub entry_form : (k : ℕ) → k < length es → HasForm d (entry_at es k).triangulation
    entry_form k l = (below (suc k) k (omega arith) l).0

    -- each entry is reached
    pub entry_reached : (k : ℕ) → k < length es → IsReachedBy Beyond d (entry_at es k).triangulation
    entry_reached k l = (below (suc k) k (omega arith) l).1

    -- where every mark is a cross, each reached triangulation is equivalent to an entry
    pub reached_is_entry : ((j f : ℕ) → j < length es → f < length (facets (entry_at es j)) → (k : ℕ) × (u : List (List ℤ)) × (mark_at ms (j, f) ≡ cross k u)) → (t : Classes) → IsReachedBy Beyond d t → (k : ℕ) × (k < length es) × AreEquivalent d t (entry_at es k).triangulation
    reached_is_entry c t (start p) =
        let e : t ≡ (entry_at es 0).triangulation = one_principal d t (entry_at es 0).triangulation p h.start in
        (0, h.occupied, subst (λ (s : Classes). AreEquivalent d t s) e (identity d, carries_identity d t (classes_of_form d t (laws.principal t p))))
    reached_is_entry c t (next {t = s} n r f x) =
        let before = reached_is_entry c s r in
        let j : ℕ = before.0 in
        let hj : j < length es = before.1 in
        let tj : Classes = (entry_at es j).triangulation in
        let e : Entry = entry_at es j in
        let over = laws.carried s t tj n before.2.0 (reached_form s r) (entry_form j hj) before.2.1 f x in
        let place = (facets_exact d tj e.cone (h.entries j hj).cone over.0).0 over.2 in
        let i : ℕ = place.0 in
        let its : facet_at es (j, i) ≡ over.0 = get_or_default (facets e) i [] over.0 place.1 ∙ place.2 in
        let m = c j i hj place.1 in
        let it : IsCrossed Beyond d es (j, i) m.0 m.1 = h.crosses (j, i) m.0 m.1 m.2 in
        let there : Beyond tj over.0 it.across = subst (λ (z : List ℤ). Beyond tj z it.across) its it.is_across in
        let same : over.1 ≡ it.across = laws.one tj over.1 it.across over.0 (entry_form j hj) over.2 over.3 there in
        let first : AreEquivalent d t it.across = subst (λ (z : Classes). AreEquivalent d t z) same (before.2.0, over.4) in
        (m.0, it.present, carries_on d t it.across (entry_at es m.0).triangulation (classes_of_form d t (reached_form t (next n r f x))) first (m.1, it.carries))

    -- and to one alone
    pub entry_is_one : (t : Classes) → AreClasses d t → (k l : ℕ) → k < length es → l < length es → AreEquivalent d t (entry_at es k).triangulation → AreEquivalent d t (entry_at es l).triangulation → k ≡ l
    entry_is_one t ht k l hk hl a b =
        elim (cases_eq k l) [
          | inl e ↦ e
          | inr n ↦ absurd (h.apart k l hk hl n (carries_on d (entry_at es k).triangulation t (entry_at es l).triangulation (h.entries k hk).classes (carries_back d t (entry_at es k).triangulation ht a) b))
        ]

-- in a right and closed atlas each reached triangulation is equivalent to exactly one entry
pub closed_atlas : (Beyond : Classes → List ℤ → Classes → Type 0) (a : Atlas) → AreCrossings Beyond a.dimension → IsRight Beyond a → IsClosedAtlas a → (t : Classes) → IsReachedBy Beyond a.dimension t → (k : ℕ) × IsOneEntry a.dimension a.entries t k
closed_atlas Beyond a laws h c t r =
    let d : ℕ = a.dimension in
    let k = reached_is_entry Beyond d laws a.entries a.marks h.parts c t r in
    let ht = classes_of_form d t (reached_form Beyond d laws t r) in
    (k.0, record { present = k.1; equivalent = k.2; alone = λ l hl b. entry_is_one Beyond d laws a.entries a.marks h.parts t ht l k.0 hl k.1 b k.2 })

pub right_atlas_reached : (Beyond : Classes → List ℤ → Classes → Type 0) (a : Atlas) → AreCrossings Beyond a.dimension → IsRight Beyond a → (k : ℕ) → k < length a.entries → IsReachedBy Beyond a.dimension (entry_at a.entries k).triangulation
right_atlas_reached Beyond a laws h k l = entry_reached Beyond a.dimension laws a.entries a.marks h.parts k l
