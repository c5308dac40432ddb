-- The marks of an atlas that began without wide and heavy ones are in the ranges of its text.
use Rattle.std.proofs.Common.{◌≡◌, ℕ, zero, suc, ℤ, ◌-◌, ◌*◌, ◌^◌, ◌<◌, ◌≤◌, inl, inr, refl, sym, ap, ◌∙◌, subst, arith, List, [], length, get_or}
use Rattle.std.specs.Prelude.{Bool, true, false, cond}
use Rattle.std.specs.List.{Contains}
use Rattle.std.proofs.Math.Nat.{min-le_left}
use Rattle.std.proofs.lemmas.Bool.{cases_lt}
use Rattle.std.proofs.lemmas.List.{get_or-take, get_or_past, length-take-le, get_or_default}
use Rattle.lt_model.specs.Limits.{class_span, span, span_limit, weight}
use Rattle.lt_model.specs.Walls.{IsAcross}
use Rattle.lt_model.specs.Atlases.{Classes, Mark, open_mark, cross, wide, heavy, Entry, Atlas, no_entry, entry_at, mark_at, place_at, event_at, facet_at, front, one_if_stuck, stuck, undo, undo_all, cut, begin}
use Rattle.lt_model.specs.Logs.{IsWide, IsHeavy, IsCause, IsKept}
use Rattle.lt_core.proofs.Crossings.{across_form}
use Rattle.lt_core.proofs.Reaching.{classes_of_form}
use Rattle.lt_core.proofs.Undo.{undo_all-dimension}
use Rattle.lt_triang.proofs.Gaps.{small_limit, class_span_from_near}
use Rattle.lt_grammar.specs.Ranges.{MarkFits, HeavyFits}
use Rattle.lt_text.specs.Values.{mark_value}
use Rattle.lt_read.proofs.CarriedSmall.{numbers_small}
use Rattle.lt_read.proofs.StuckMarks.{from_event}
use Rattle.lt_read.proofs.WideMarks.{IsNearClass, class_below, wide_near}

-- ---- the causes of marks

wide_cause : (d : ℕ) (es all : List Entry) (p : ℕ × ℕ) (t : Classes) (s : List (List ℤ)) (n : ℕ) (fresh : Bool) → IsCause d es all p t (wide s n) fresh → IsWide d t s n
wide_cause d es all p t s n true h = absurd h
wide_cause d es all p t s n false h = h

heavy_cause : (d : ℕ) (es all : List Entry) (p : ℕ × ℕ) (t : Classes) (n : ℕ) (fresh : Bool) → IsCause d es all p t (heavy n) fresh → IsHeavy d es t n
heavy_cause d es all p t n true h = absurd h
heavy_cause d es all p t n false h = h

-- ---- entries before some events

undone_entry : (n : ℕ) (a : Atlas) (k : ℕ) → k < length (undo_all n a).entries → (k < length a.entries) × (entry_at (undo_all n a).entries k ≡ entry_at a.entries k)
undone_entry zero a k l = (l, refl)
undone_entry (suc n) a k l =
    let h = undone_entry n (undo a) k l in
    let r = taken (event_at a.log (length a.log - 1)).fresh a.entries h.0 in
    (r.0, h.1 ∙ r.1)
  where
    taken : (b : Bool) (es : List Entry) → k < length (cond b (front es) es) → (k < length es) × (entry_at (cond b (front es) es) k ≡ entry_at es k)
    taken false es l = (l, refl)
    taken true es l =
        let long = length-take-le (length es - 1) es (omega arith) in
        (omega (arith, l, long), get_or-take (length es - 1) es k no_entry (omega (arith, l, long)))

heavy_fits : (d n : ℕ) (ns : List (List ℤ)) → n ≡ weight d ns → HeavyFits n
heavy_fits d n ns e = let m : weight d ns ≤ 2 ^ 120 = min-le_left (2 ^ 120) _ in (omega arith, omega (arith, e, m))

wide_fits : (d n : ℕ) (s : List (List ℤ)) → n ≡ class_span s → span_limit d < class_span s → IsNearClass d s → MarkFits d (mark_value (wide s n))
wide_fits d n s e above h =
    let most = class_span_from_near (2 * span_limit d) s h.near in
    let limit = small_limit d in
    ((omega (arith, e, above), omega (arith, e, most, limit)), class_below d (2 * span_limit d) s h.«class» h.near)

module _ (a : Atlas) (low : 2 ≤ a.dimension) (high : a.dimension ≤ 6) (kept : IsKept (IsAcross a.dimension) a) (none : stuck (begin a).marks ≡ 0) (few : length a.entries ≤ 1000001) where
  abbrev d : ℕ
  d = a.dimension

  cross_fits : (p : ℕ × ℕ) (k : ℕ) (u : List (List ℤ)) → mark_at a.marks p ≡ cross k u → MarkFits d (mark_value (cross k u))
  cross_fits p k u e =
      let c = kept.right.parts.crosses p k u e in
      let here : k < length a.entries = c.present in
      let form = across_form d _ c.across _ c.is_across in
      let own = kept.right.parts.entries k here in
      ((omega arith, omega (arith, here, few)), numbers_small d low high u c.across (entry_at a.entries k).triangulation (classes_of_form d c.across form) own.classes form.1.occupied c.narrow own.narrow c.carries)

  -- the triangulation across which an event looks is within the limit of spans
  narrow_before : (i k : ℕ) (n : List ℤ) (t : Classes) → IsAcross d (entry_at (cut a i).entries k).triangulation n t → span (entry_at (cut a i).entries k).triangulation ≤ span_limit d
  narrow_before i k n t x =
      elim (cases_lt k (length (cut a i).entries)) [
        | inl l ↦ (let h = undone_entry (length a.log - i) a k l in subst (λ (e : Entry). span e.triangulation ≤ span_limit d) (sym h.1) (kept.right.parts.entries k h.0).narrow)
        | inr g ↦ absurd (nothing (subst (λ (e : Entry). 0 < length e.triangulation) (get_or_past (cut a i).entries k no_entry g) x.delaunay.occupied))
      ]
    where
      nothing : 0 < length no_entry.triangulation → ⊥
      nothing h = omega (arith, h)

  module _ (p : ℕ × ℕ) (l : p.0 < length a.marks) (f : p.1 < length (get_or a.marks p.0 [])) where
    -- the cause of the event whose mark stands at p
    caused : (m : Mark) → mark_at a.marks p ≡ m → one_if_stuck m ≡ 1 → (i : ℕ) × (k : ℕ) × (n : List ℤ) × (t : Classes) × (q : ℕ × ℕ) × (b : Bool) × IsAcross d (entry_at (cut a i).entries k).triangulation n t × IsCause d (cut a i).entries a.entries q t m b
    caused m e h =
        let r = from_event (IsAcross d) a kept none p l f (ap one_if_stuck e ∙ h) in
        let i : ℕ = r.0 in
        let x = kept.legal.legal i r.1 in
        let q : ℕ × ℕ = place_at (cut a i).queue (event_at a.log i).position in
        let b : Bool = (event_at a.log i).fresh in
        let size : (cut a i).dimension ≡ d = undo_all-dimension (length a.log - i) a in
        let one : IsCause d (cut a i).entries a.entries q x.across (event_at a.log i).mark b = subst (λ (z : ℕ). IsCause z (cut a i).entries a.entries q x.across (event_at a.log i).mark b) size x.cause in
        (i, q.0, facet_at (cut a i).entries q, x.across, q, b, x.is_across, subst (λ (z : Mark). IsCause d (cut a i).entries a.entries q x.across z b) (r.2 ∙ e) one)

    wide_at : (s : List (List ℤ)) (n : ℕ) → mark_at a.marks p ≡ wide s n → MarkFits d (mark_value (wide s n))
    wide_at s n e =
        let c = caused (wide s n) e refl in
        let w = wide_cause d (cut a c.0).entries a.entries c.4 c.3 s n c.5 c.7 in
        let member : Contains c.3 s = (w.place, w.within, get_or_default c.3 w.place s [] w.within ∙ w.member) in
        wide_fits d n s w.number w.above (wide_near d c.2 (entry_at (cut a c.0).entries c.1).triangulation c.3 s low high (narrow_before c.0 c.1 c.2 c.3 c.6) c.6 member w.above)

    heavy_at : (n : ℕ) → mark_at a.marks p ≡ heavy n → MarkFits d (mark_value (heavy n))
    heavy_at n e =
        let c = caused (heavy n) e refl in
        let w = heavy_cause d (cut a c.0).entries a.entries c.4 c.3 n c.5 c.7 in
        heavy_fits d n w.normals w.number

    any_fits : (m : Mark) → mark_at a.marks p ≡ m → MarkFits d (mark_value m)
    any_fits open_mark e = tt
    any_fits (cross k u) e = cross_fits p k u e
    any_fits (wide s n) e = wide_at s n e
    any_fits (heavy n) e = heavy_at n e

    pub mark_fits : MarkFits d (mark_value (mark_at a.marks p))
    mark_fits = any_fits (mark_at a.marks p) refl
