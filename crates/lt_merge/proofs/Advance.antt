-- How merging gets on: from the first atlas alone, facet by facet and entry by entry, to the whole of the second one.
use Rattle.std.proofs.Common.{◌≡◌, ◌≢◌, ℕ, ℤ, ◌+◌, ◌<◌, ◌≤◌, ◌∙◌, arith, sym, ap, subst, inl, inr, List, [], length, get_or}
use Rattle.std.proofs.lemmas.Bool.{cases_lt}
use Rattle.lt_model.specs.Matrices.{identity, AreEquivalent}
use Rattle.lt_model.specs.Walls.{IsAcross}
use Rattle.lt_model.specs.Atlases.{Classes, open_mark, cross, Entry, Atlas, entry_at, facet_at, mark_at, place_at, cut, begin}
use Rattle.lt_model.specs.Order.{IsBefore}
use Rattle.lt_model.specs.RightAtlases.{AreClasses, IsCrossed, IsOpenAt}
use Rattle.lt_model.specs.Logs.{IsKept}
use Rattle.lt_core.specs.Reached.{IsOneEntry}
use Rattle.lt_core.proofs.Crossings.{HasForm, across_form}
use Rattle.lt_core.proofs.Equivalent.{carries_identity, carries_back, carries_on}
use Rattle.lt_core.proofs.Reaching.{classes_of_form}
use Rattle.lt_core.proofs.Undo.{cut_now, mark_within}
use Rattle.lt_crew.specs.Settled.{IsFirstKnown, IsSettled}
use Rattle.lt_merge.specs.Images.{IsCrossedAt, IsImageOf}
use Rattle.lt_merge.specs.Taken.{AreCovered, IsFrom, AreFrom, IsTakenOver}
use Rattle.lt_merge.specs.Merged.{IsMergedTo}
use Rattle.lt_merge.proofs.Covered.{classes, one_entry, first_covered, few_entries}
use Rattle.lt_merge.proofs.Crossed.{carried_over}
use Rattle.lt_merge.proofs.Grown.{IsGrown, settled_grown, settled_mark, settled_entry}
use Rattle.lt_merge.proofs.Stays.{known_stays, image_stays, taken_stays, from_stays}
use Rattle.lt_merge.proofs.Turned.{next_cases, before_next, before_row, none_before, no_turns, turns_later, turns_more, begin_kept}

-- the first atlas alone
pub merging_starts : (s t : Atlas) → IsKept (IsAcross s.dimension) s → s.log ≡ [] → IsMergedTo s t (0, 0) s
merging_starts s t kept e =
    let n : length s.log ≡ 0 = ap length e in
    let begins : begin s ≡ s = subst (λ (n : ℕ). cut s n ≡ s) n (cut_now s) in
    record {
      kept = kept;
      begins = begins;
      first = subst (λ (z : Atlas). AreCovered z (length z.entries) s) begins (first_covered s kept);
      second = λ k l. absurd (omega (arith, l));
      entries = λ j l. inl (j, l, (identity s.dimension, carries_identity s.dimension (entry_at s.entries j).triangulation (classes s kept j l)));
      few = omega arith;
      taken = λ p l. absurd (none_before p l);
      turns = no_turns t (0, 0) s e;
    }

module _ (s t a : Atlas) (k f : ℕ) (h : IsMergedTo s t (k, f) a) where
  next_facet : ((p : ℕ × ℕ) → (k, f) ≡ p → IsCrossedAt t p → IsTakenOver t p a) → IsMergedTo s t (k, f + 1) a
  next_facet here = record {
    kept = h.kept;
    begins = h.begins;
    first = h.first;
    second = h.second;
    entries = h.entries;
    few = h.few;
    taken = λ p l c. elim (next_cases p k f l) [ inl before ↦ h.taken p before c | inr same ↦ here p same c ];
    turns = turns_later t (k, f) (k, f + 1) a (λ p l. before_next p k f l) h.turns;
  }

  -- a facet that isn't crossed is passed over
  pub passed_over : (IsCrossedAt t (k, f) → ⊥) → IsMergedTo s t (k, f + 1) a
  passed_over none = next_facet (λ p same c. absurd (none (subst (λ (z : ℕ × ℕ). IsCrossedAt t z) (sym same) c)))

  -- an image that isn't open stays as it is
  pub stands_already : (q : ℕ × ℕ) → IsImageOf t (k, f) a q → mark_at a.marks q ≢ open_mark → IsMergedTo s t (k, f + 1) a
  stands_already q image settled = next_facet (λ p same c. subst (λ (z : ℕ × ℕ). IsTakenOver t z a) same (record { place = q; image = image; settled = settled }))

  -- behind the last facet comes the next entry
  pub entry_ends : length (get_or t.marks k []) ≤ f → (j : ℕ) → IsOneEntry a.dimension a.entries (entry_at t.entries k).triangulation j → IsMergedTo s t (k + 1, 0) a
  entry_ends whole j one = record {
    kept = h.kept;
    begins = h.begins;
    first = h.first;
    second = λ i l. elim (cases_lt i k) [
      | inl before ↦ h.second i before
      | inr from ↦ (let e : k ≡ i = omega (arith, l, from) in subst (λ (n : ℕ). (j : ℕ) × IsOneEntry a.dimension a.entries (entry_at t.entries n).triangulation j) e (j, one))
    ];
    entries = h.entries;
    few = h.few;
    taken = λ p l c. h.taken p (inside p l c) c;
    turns = turns_later t (k, f) (k + 1, 0) a (λ p l. before_row p k f l) h.turns;
  }
    where
      inside : (p : ℕ × ℕ) → IsBefore p (k + 1, 0) → IsCrossedAt t p → IsBefore p (k, f)
      inside p (inl l) c =
          elim (cases_lt p.0 k) [
            | inl before ↦ inl before
            | inr from ↦ (
                let e : p.0 ≡ k = omega (arith, l, from) in
                let w : p.1 < length (get_or t.marks p.0 []) = (mark_within t.marks p (cross c.0 c.1) c.2 (λ x. cc)).1 in
                let r : length (get_or t.marks p.0 []) ≡ length (get_or t.marks k []) = ap (λ (n : ℕ). length (get_or t.marks n [])) e in
                inr (e, omega (arith, w, r, whole))
                )
          ]
      inside p (inr x) c = let l = x.1 in absurd (omega (arith, l))

  -- an open image is settled
  module _ (low : 2 ≤ a.dimension) (same : a.dimension ≡ t.dimension) (kept_t : IsKept (IsAcross t.dimension) t) (crossed : IsCrossedAt t (k, f)) (x : ℕ) (here : IsOpenAt a x) (image : IsImageOf t (k, f) a (place_at a.queue x)) (b : Atlas) (kept_b : IsKept (IsAcross b.dimension) b) (settled : IsSettled a x b) where
    grown : IsGrown a b
    grown = settled_grown a x here b settled

    -- the triangulation across is equivalent to the entry of t that lies across the facet there
    across_from : IsFrom t settled.across
    across_from =
        let d : ℕ = a.dimension in
        let over : IsCrossed (IsAcross t.dimension) t.dimension t.entries (k, f) crossed.0 crossed.1 = kept_t.right.parts.crosses (k, f) crossed.0 crossed.1 crossed.2 in
        let carried = carried_over a t low h.kept kept_t same (k, f) (place_at a.queue x) image over.across settled.across over.is_across settled.is_across in
        let form : HasForm d settled.across = across_form d (entry_at a.entries (place_at a.queue x).0).triangulation settled.across (facet_at a.entries (place_at a.queue x)) settled.is_across in
        let form_over : HasForm t.dimension over.across = across_form t.dimension (entry_at t.entries k).triangulation over.across (facet_at t.entries (k, f)) over.is_across in
        let classes_over : AreClasses d over.across = subst (λ (z : ℕ). AreClasses z over.across) (sym same) (classes_of_form t.dimension over.across form_over) in
        let on : AreEquivalent d over.across (entry_at t.entries crossed.0).triangulation = subst (λ (z : ℕ). AreEquivalent z over.across (entry_at t.entries crossed.0).triangulation) (sym same) (crossed.1, over.carries) in
        let whole : AreEquivalent d settled.across (entry_at t.entries crossed.0).triangulation = carries_on d settled.across over.across (entry_at t.entries crossed.0).triangulation (classes_of_form d settled.across form) (carries_back d over.across settled.across classes_over (image.matrix, carried)) on in
        (crossed.0, over.present, subst (λ (z : ℕ). AreEquivalent z settled.across (entry_at t.entries crossed.0).triangulation) same whole)

    entries_from : AreFrom s t b
    entries_from j l =
        elim (settled_entry a x here b settled j l) [
          | inl old ↦ from_stays a b grown s t j old (h.entries j old)
          | inr new ↦ inr (subst (λ (c : Classes). IsFrom t c) (sym new) across_from)
        ]

    begins_too : begin b ≡ s
    begins_too = begin_kept t k f a b x here settled (record { crossed = crossed; queued = here.queued; image = image }) h.turns ∙ h.begins

    same_b : t.dimension ≡ b.dimension
    same_b = sym same ∙ sym grown.dimension

    covered : (i : ℕ) → i < k → (j : ℕ) × IsOneEntry b.dimension b.entries (entry_at t.entries i).triangulation j
    covered i l =
        let o = h.second i l in
        let c : Classes = (entry_at t.entries i).triangulation in
        let w = (mark_within t.marks (k, f) (cross crossed.0 crossed.1) crossed.2 (λ e. cc)).0 in
        let lists = kept_t.right.parts.lists in
        let all : AreClasses b.dimension c = subst (λ (z : ℕ). AreClasses z c) same_b (classes t kept_t i (omega (arith, w, lists, l))) in
        let p = o.1.present in
        let m = grown.more in
        let e : AreEquivalent b.dimension c (entry_at b.entries o.0).triangulation = subst (λ (z : ℕ). AreEquivalent z c (entry_at b.entries o.0).triangulation) (sym grown.dimension) (subst (λ (z : Entry). AreEquivalent a.dimension c z.triangulation) (sym (grown.entries o.0 o.1.present)) o.1.equivalent) in
        (o.0, one_entry b kept_b c o.0 all (omega (arith, p, m)) e)

    pub settled_too : IsMergedTo s t (k, f + 1) b
    settled_too = record {
      kept = kept_b;
      begins = begins_too;
      first = subst (λ (z : Atlas). AreCovered z (length z.entries) b) begins_too (first_covered b kept_b);
      second = covered;
      entries = entries_from;
      few = subst (λ (z : Atlas). length b.entries ≤ length z.entries + length t.entries) begins_too (few_entries b kept_b t same_b kept_t (subst (λ (z : Atlas). AreFrom z t b) (sym begins_too) entries_from));
      taken = λ p l c. elim (next_cases p k f l) [
        | inl before ↦ taken_stays a b grown h.kept t p (h.taken p before c)
        | inr e ↦ subst (λ (z : ℕ × ℕ). IsTakenOver t z b) e (record { place = place_at a.queue x; image = image_stays a b grown t (k, f) (place_at a.queue x) image; settled = settled_mark a x here b settled })
      ];
      turns = turns_more t k f a b x here settled (record { crossed = crossed; queued = here.queued; image = image }) h.turns;
    }

-- the same, where the image stands at place q
module _ (s t a : Atlas) (k f : ℕ) (h : IsMergedTo s t (k, f) a) (low : 2 ≤ a.dimension) (same : a.dimension ≡ t.dimension) (kept_t : IsKept (IsAcross t.dimension) t) (crossed : IsCrossedAt t (k, f)) (q : ℕ × ℕ) (image : IsImageOf t (k, f) a q) (undecided : mark_at a.marks q ≡ open_mark) (x : ℕ) (queued : x < length a.queue) (at : place_at a.queue x ≡ q) (b : Atlas) (settled : IsSettled a x b) where
  open_here : IsOpenAt a x
  open_here = record { queued = queued; undecided = ap (mark_at a.marks) at ∙ undecided }

  pub settled_at : IsKept (IsAcross b.dimension) b → IsMergedTo s t (k, f + 1) b
  settled_at kept_b = settled_too s t a k f h low same kept_t crossed x open_here (subst (λ (z : ℕ × ℕ). IsImageOf t (k, f) a z) (sym at) image) b kept_b settled

  pub placed_still : (c : Classes) (j : ℕ) (u : List (List ℤ)) → IsFirstKnown a c j u → IsFirstKnown b c j u
  placed_still c j u p = known_stays a b (settled_grown a x open_here b settled) c j u p
