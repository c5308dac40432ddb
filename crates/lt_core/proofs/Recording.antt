-- Marks, queue and entries after a recording.
use Rattle.std.proofs.Common.{◌≡◌, ◌≢◌, ℕ, zero, suc, ℤ, ◌<◌, ◌≤◌, refl, ap, arith, sym, ◌∙◌, subst, List, [], ◌∷◌, ◌++◌, length, get_or, set, map, ◌⊎◌, inl, inr, length-set, get_or-set_same, get_or-set_other}
use Rattle.std.proofs.lemmas.List.{get_or_at, get_or_past, get_or_append_left}
use Rattle.std.proofs.lemmas.Bool.{cases_lt, cases_eq}
use Rattle.std.specs.declared.option.Option.TheVariants.{Some}
use Rattle.lt_model.specs.Principal.{IsPrincipal}
use Rattle.lt_model.specs.Matrices.{identity, Carries, AreEquivalent}
use Rattle.lt_model.specs.Atlases.{Classes, Mark, open_mark, cross, no_mark, no_entry, Entry, entry_at, mark_at, facets, facet_at, set_mark, opens}
use Rattle.lt_model.specs.RightAtlases.{HasOrigin, IsCrossed, IsRightEntry, AreRight}
use Rattle.lt_model.specs.Logs.{IsUnlikeAll}
use Rattle.lt_core.proofs.Undo.{length_more, open_within, length-opens}
use Rattle.lt_core.proofs.Equivalent.{carries_identity, carries_back}

-- ---- places and marks

pub same_place : (p q : ℕ × ℕ) → p.0 ≡ q.0 → p.1 ≡ q.1 → p ≡ q
same_place (a, b) (c, d) x y = cc

pub place_cases : (p q : ℕ × ℕ) → (p ≡ q) ⊎ (p ≡ q → ⊥)
place_cases p q =
    elim (cases_eq p.0 q.0) [
      | inl e ↦ elim (cases_eq p.1 q.1) [ inl f ↦ inl (same_place p q e f) | inr n ↦ inr (λ x. n (ap (λ (r : ℕ × ℕ). r.1) x)) ]
      | inr n ↦ inr (λ x. n (ap (λ (r : ℕ × ℕ). r.0) x))
    ]

pub mark_at-set_same : (ms : List (List Mark)) (p : ℕ × ℕ) (m : Mark) → p.0 < length ms → p.1 < length (get_or ms p.0 []) → mark_at (set_mark ms p m) p ≡ m
mark_at-set_same ms p m h k =
    ap (λ r. get_or r p.1 no_mark) (get_or-set_same ms p.0 (set (get_or ms p.0 []) p.1 m) [] h)
    ∙ get_or-set_same (get_or ms p.0 []) p.1 m no_mark k

pub mark_at-set_other : (ms : List (List Mark)) (p : ℕ × ℕ) (m : Mark) (q : ℕ × ℕ) → p.0 < length ms → (q ≡ p → ⊥) → mark_at (set_mark ms p m) q ≡ mark_at ms q
mark_at-set_other ms p m q h ne =
    elim (cases_eq q.0 p.0) [
      | inl e ↦
          let other : q.1 ≢ p.1 = λ f. ne (same_place q p e f) in
          let row : List Mark = get_or ms p.0 [] in
          ap (λ k. get_or (get_or (set_mark ms p m) k []) q.1 no_mark) e
          ∙ ap (λ r. get_or r q.1 no_mark) (get_or-set_same ms p.0 (set row p.1 m) [] h)
          ∙ get_or-set_other row p.1 q.1 m no_mark other
          ∙ ap (λ k. get_or (get_or ms k []) q.1 no_mark) (sym e)
      | inr n ↦ ap (λ r. get_or r q.1 no_mark) (get_or-set_other ms p.0 q.0 (set (get_or ms p.0 []) p.1 m) [] n)
    ]

-- the lists of marks keep their lengths
pub row-set : (ms : List (List Mark)) (p : ℕ × ℕ) (m : Mark) (k : ℕ) → p.0 < length ms → length (get_or (set_mark ms p m) k []) ≡ length (get_or ms k [])
row-set ms p m k h =
    elim (cases_eq k p.0) [
      | inl e ↦
          ap (λ j. length (get_or (set_mark ms p m) j [])) e
          ∙ ap length (get_or-set_same ms p.0 (set (get_or ms p.0 []) p.1 m) [] h)
          ∙ length-set (get_or ms p.0 []) p.1 m
          ∙ ap (λ j. length (get_or ms j [])) (sym e)
      | inr n ↦ ap length (get_or-set_other ms p.0 k (set (get_or ms p.0 []) p.1 m) [] n)
    ]

lengths_set : (ms : List (List Mark)) (i : ℕ) (r : List Mark) → length r ≡ length (get_or ms i []) → map length (set ms i r) ≡ map length ms
lengths_set [] i r h = refl
lengths_set (m ∷ ms) zero r h = ap (λ n. n ∷ map length ms) h
lengths_set (m ∷ ms) (suc i) r h = ap (λ ns. length m ∷ ns) (lengths_set ms i r h)

pub lengths-set_mark : (ms : List (List Mark)) (p : ℕ × ℕ) (m : Mark) → map length (set_mark ms p m) ≡ map length ms
lengths-set_mark ms p m = lengths_set ms p.0 (set (get_or ms p.0 []) p.1 m) (length-set (get_or ms p.0 []) p.1 m)

pub mark_at-more : (ms : List (List Mark)) (r : List Mark) (q : ℕ × ℕ) → q.0 < length ms → mark_at (ms ++ r ∷ []) q ≡ mark_at ms q
mark_at-more ms r q h = ap (λ x. get_or x q.1 no_mark) (get_or_append_left ms (r ∷ []) [] q.0 h)

pub get_or-opens : (n i : ℕ) → i < n → get_or (opens n) i no_mark ≡ open_mark
get_or-opens zero i h = absurd (omega arith)
get_or-opens (suc n) zero h = refl
get_or-opens (suc n) (suc i) h = get_or-opens n i (omega arith)

opens_or_none : (n i : ℕ) → (get_or (opens n) i no_mark ≡ open_mark) ⊎ (get_or (opens n) i no_mark ≡ no_mark)
opens_or_none n i = elim (cases_lt i n) [ inl h ↦ inl (get_or-opens n i h) | inr h ↦ let l = length-opens n in inr (get_or_past (opens n) i no_mark (omega arith)) ]

-- no mark of the new entry is a cross
pub no_cross_more : (ms : List (List Mark)) (n : ℕ) (q : ℕ × ℕ) (k : ℕ) (u : List (List ℤ)) → length ms ≤ q.0 → mark_at (ms ++ opens n ∷ []) q ≡ cross k u → ⊥
no_cross_more ms n q k u h e =
    elim (cases_eq (length ms) q.0) [
      | inl s ↦
          let row : get_or (ms ++ opens n ∷ []) q.0 [] ≡ opens n = get_or_at ms (opens n) [] [] q.0 s in
          let it : mark_at (ms ++ opens n ∷ []) q ≡ get_or (opens n) q.1 no_mark = ap (λ r. get_or r q.1 no_mark) row in
          elim (opens_or_none n q.1) [ inl o ↦ clash (sym e ∙ it ∙ o) | inr o ↦ none (sym e ∙ it ∙ o) ]
      | inr ne ↦
          let long = length_more ms (opens n) in
          let row : get_or (ms ++ opens n ∷ []) q.0 [] ≡ [] = get_or_past (ms ++ opens n ∷ []) q.0 [] (omega arith) in
          none (sym e ∙ ap (λ r. get_or r q.1 no_mark) row)
    ]
  where
    clash : cross k u ≡ open_mark → ⊥
    clash x = cc

    none : cross k u ≡ no_mark → ⊥
    none x = cc

open_no_cross : (k : ℕ) (u : List (List ℤ)) → open_mark ≡ cross k u → ⊥
open_no_cross k u e = cc

pub cross_parts : (j k : ℕ) (u v : List (List ℤ)) → cross j u ≡ cross k v → (j ≡ k) × (u ≡ v)
cross_parts j k u v e = (cc, cc)

module _ (Beyond : Classes → List ℤ → Classes → Type 0) (d : ℕ) where
  -- ---- a mark set

  origin_kept : (es : List Entry) (ms : List (List Mark)) (p : ℕ × ℕ) (m : Mark) (k : ℕ) → mark_at ms p ≡ open_mark → HasOrigin Beyond d es ms k → HasOrigin Beyond d es (set_mark ms p m) k
  origin_kept es ms p m k o h =
      let w = open_within ms p o in
      let other : (h.parent, h.facet) ≡ p → ⊥ = λ e. open_no_cross k (identity d) (sym o ∙ ap (mark_at ms) (sym e) ∙ h.mark) in
      record {
        parent = h.parent;
        facet = h.facet;
        named = h.named;
        earlier = h.earlier;
        within = h.within;
        across = h.across;
        mark = mark_at-set_other ms p m (h.parent, h.facet) w.0 other ∙ h.mark;
      }

  pub right_set : (es : List Entry) (ms : List (List Mark)) (p : ℕ × ℕ) (m : Mark) → AreRight Beyond d es ms → mark_at ms p ≡ open_mark → ((k : ℕ) (u : List (List ℤ)) → m ≡ cross k u → IsCrossed Beyond d es p k u) → AreRight Beyond d es (set_mark ms p m)
  right_set es ms p m h o c =
      let w = open_within ms p o in
      record {
        occupied = h.occupied;
        start = h.start;
        no_origin = h.no_origin;
        lists = length-set ms p.0 (set (get_or ms p.0 []) p.1 m) ∙ h.lists;
        each = λ k l. row-set ms p m k w.0 ∙ h.each k l;
        origins = λ k l b. origin_kept es ms p m k o (h.origins k l b);
        crosses = λ q k u e. crossing q k u e;
        apart = h.apart;
        entries = h.entries;
      }
    where
      crossing : (q : ℕ × ℕ) (k : ℕ) (u : List (List ℤ)) → mark_at (set_mark ms p m) q ≡ cross k u → IsCrossed Beyond d es q k u
      crossing q k u e =
          let w = open_within ms p o in
          elim (place_cases q p) [
            | inl s ↦ subst (λ (r : ℕ × ℕ). IsCrossed Beyond d es r k u) (sym s) (c k u (sym (ap (mark_at (set_mark ms p m)) s ∙ mark_at-set_same ms p m w.0 w.1) ∙ e))
            | inr n ↦ h.crosses q k u (sym (mark_at-set_other ms p m q w.0 n) ∙ e)
          ]

  -- ---- an entry more

  old_entry : (es : List Entry) (e : Entry) (k : ℕ) → k < length es → entry_at (es ++ e ∷ []) k ≡ entry_at es k
  old_entry es e k h = get_or_append_left es (e ∷ []) no_entry k h

  new_entry : (es : List Entry) (e : Entry) (k : ℕ) → length es ≡ k → entry_at (es ++ e ∷ []) k ≡ e
  new_entry es e k h = get_or_at es e [] no_entry k h

  old_or_new : (es : List Entry) (e : Entry) (k : ℕ) → k < length (es ++ e ∷ []) → (k < length es) ⊎ (length es ≡ k)
  old_or_new es e k h = let l = length_more es e in elim (cases_lt k (length es)) [ inl a ↦ inl a | inr a ↦ inr (omega arith) ]

  crossed_more : (es : List Entry) (e : Entry) (p : ℕ × ℕ) (k : ℕ) (u : List (List ℤ)) → p.0 < length es → IsCrossed Beyond d es p k u → IsCrossed Beyond d (es ++ e ∷ []) p k u
  crossed_more es e p k u l h =
      let long = length_more es e in
      record {
        present = (let x : k < length es = h.present in omega arith);
        across = h.across;
        is_across = subst (λ (x : Entry). Beyond x.triangulation (get_or (facets x) p.1 []) h.across) (sym (old_entry es e p.0 l)) h.is_across;
        narrow = h.narrow;
        carries = subst (λ (x : Entry). Carries d u h.across x.triangulation) (sym (old_entry es e k h.present)) h.carries;
      }

  module _ (es : List Entry) (ms : List (List Mark)) (p : ℕ × ℕ) (e : Entry) (h : AreRight Beyond d es ms) (o : mark_at ms p ≡ open_mark)
      (a : Beyond (entry_at es p.0).triangulation (facet_at es p) e.triangulation) (n : IsUnlikeAll d e.triangulation es) (r : IsRightEntry d e) (g : e.origin ≡ Some p) where
    abbrev all : List Entry
    all = es ++ e ∷ []

    abbrev it : Mark
    it = cross (length es) (identity d)

    abbrev changed : List (List Mark)
    changed = set_mark ms p it

    abbrev marks : List (List Mark)
    marks = changed ++ opens (length (facets e)) ∷ []

    inside : (p.0 < length ms) × (p.1 < length (get_or ms p.0 []))
    inside = open_within ms p o

    parent_within : p.0 < length es
    parent_within = let w = inside in let l = h.lists in omega arith

    long_changed : length changed ≡ length es
    long_changed = length-set ms p.0 (set (get_or ms p.0 []) p.1 it) ∙ h.lists

    rows : (k : ℕ) → k < length all → length (get_or marks k []) ≡ length (facets (entry_at all k))
    rows k l =
        let lc = long_changed in
        elim (old_or_new es e k l) [
          | inl b ↦
              ap length (get_or_append_left changed (opens (length (facets e)) ∷ []) [] k (omega arith))
              ∙ row-set ms p it k inside.0
              ∙ h.each k b
              ∙ ap (λ (x : Entry). length (facets x)) (sym (old_entry es e k b))
          | inr b ↦
              ap length (get_or_at changed (opens (length (facets e))) [] [] k (omega arith))
              ∙ length-opens (length (facets e))
              ∙ ap (λ (x : Entry). length (facets x)) (sym (new_entry es e k b))
        ]

    facet_of_p : p.1 < length (facets (entry_at all p.0))
    facet_of_p =
        let i = inside in
        let x = h.each p.0 parent_within in
        let y : length (facets (entry_at all p.0)) ≡ length (facets (entry_at es p.0)) = ap (λ (x : Entry). length (facets x)) (old_entry es e p.0 parent_within) in
        omega arith

    mark_left : (q : ℕ × ℕ) → q.0 < length es → mark_at marks q ≡ mark_at changed q
    mark_left q l = let lc = long_changed in mark_at-more changed (opens (length (facets e))) q (omega arith)

    its_origin : (k : ℕ) → length es ≡ k → HasOrigin Beyond d all marks k
    its_origin k b =
        let w = inside in
        let pw = parent_within in
        record {
          parent = p.0;
          facet = p.1;
          named = ap (λ (x : Entry). x.origin) (new_entry es e k b) ∙ g;
          earlier = omega arith;
          within = facet_of_p;
          across = subst (λ (x : Entry). Beyond x.triangulation (get_or (facets x) p.1 []) (entry_at all k).triangulation) (sym (old_entry es e p.0 pw)) (subst (λ (y : Entry). Beyond (entry_at es p.0).triangulation (facet_at es p) y.triangulation) (sym (new_entry es e k b)) a);
          mark = mark_left p pw ∙ mark_at-set_same ms p it w.0 w.1 ∙ ap (λ j. cross j (identity d)) b;
        }

    old_origin : (k : ℕ) → k < length es → HasOrigin Beyond d es ms k → HasOrigin Beyond d all marks k
    old_origin k b x =
        let kept = origin_kept es ms p it k o x in
        let lt : x.parent < length es = (let y = x.earlier in omega arith) in
        record {
          parent = x.parent;
          facet = x.facet;
          named = ap (λ (x : Entry). x.origin) (old_entry es e k b) ∙ x.named;
          earlier = x.earlier;
          within = subst (λ (y : Entry). x.facet < length (facets y)) (sym (old_entry es e x.parent lt)) x.within;
          across = subst (λ (z : Entry). Beyond z.triangulation (get_or (facets z) x.facet []) (entry_at all k).triangulation) (sym (old_entry es e x.parent lt)) (subst (λ (y : Entry). Beyond (entry_at es x.parent).triangulation (facet_at es (x.parent, x.facet)) y.triangulation) (sym (old_entry es e k b)) x.across);
          mark = mark_left (x.parent, x.facet) lt ∙ mark_at-set_other ms p it (x.parent, x.facet) inside.0 (λ y. open_no_cross k (identity d) (sym o ∙ ap (mark_at ms) (sym y) ∙ x.mark)) ∙ x.mark;
        }

    -- the mark that was set leads to the new entry
    its_crossing : (q : ℕ × ℕ) (k : ℕ) (u : List (List ℤ)) → q ≡ p → it ≡ cross k u → IsCrossed Beyond d all q k u
    its_crossing q k u s c =
        let b : length es ≡ k = (cross_parts (length es) k (identity d) u c).0 in
        let i : identity d ≡ u = (cross_parts (length es) k (identity d) u c).1 in
        let long = length_more es e in
        subst (λ (r : ℕ × ℕ). IsCrossed Beyond d all r k u) (sym s)
        (record {
          present = omega arith;
          across = e.triangulation;
          is_across = subst (λ (x : Entry). Beyond x.triangulation (get_or (facets x) p.1 []) e.triangulation) (sym (old_entry es e p.0 parent_within)) a;
          narrow = r.narrow;
          carries = subst (λ (x : Entry). Carries d u e.triangulation x.triangulation) (sym (new_entry es e k b)) (subst (λ (v : List (List ℤ)). Carries d v e.triangulation e.triangulation) i (carries_identity d e.triangulation r.classes));
        })

    crossing : (q : ℕ × ℕ) (k : ℕ) (u : List (List ℤ)) → mark_at marks q ≡ cross k u → IsCrossed Beyond d all q k u
    crossing q k u c =
        elim (cases_lt q.0 (length es)) [
          | inl l ↦ old q k u l (sym (mark_left q l) ∙ c)
          | inr l ↦ absurd (let lc = long_changed in no_cross_more changed (length (facets e)) q k u (omega arith) c)
        ]
      where
        old : (q : ℕ × ℕ) (k : ℕ) (u : List (List ℤ)) → q.0 < length es → mark_at changed q ≡ cross k u → IsCrossed Beyond d all q k u
        old q k u l c =
            elim (place_cases q p) [
              | inl s ↦ its_crossing q k u s (sym (ap (mark_at changed) s ∙ mark_at-set_same ms p it inside.0 inside.1) ∙ c)
              | inr ne ↦ crossed_more es e q k u l (h.crosses q k u (sym (mark_at-set_other ms p it q inside.0 ne) ∙ c))
            ]

    entries : (k : ℕ) → k < length all → IsRightEntry d (entry_at all k)
    entries k l =
        elim (old_or_new es e k l) [
          | inl b ↦ subst (IsRightEntry d) (sym (old_entry es e k b)) (h.entries k b)
          | inr b ↦ subst (IsRightEntry d) (sym (new_entry es e k b)) r
        ]

    abbrev Like : Entry → Entry → Type 0
    Like x y = AreEquivalent d x.triangulation y.triangulation

    apart : (k l : ℕ) → k < length all → l < length all → k ≢ l → Like (entry_at all k) (entry_at all l) → ⊥
    apart k l hk hl ne c =
        elim (old_or_new es e k hk) [
          | inl a ↦ elim (old_or_new es e l hl) [
            | inl b ↦ h.apart k l a b ne (subst (λ (x : Entry). Like x (entry_at es l)) (old_entry es e k a) (subst (λ (x : Entry). Like (entry_at all k) x) (old_entry es e l b) c))
            | inr b ↦
                let c' : Like (entry_at es k) e = subst (λ (x : Entry). Like x e) (old_entry es e k a) (subst (λ (x : Entry). Like (entry_at all k) x) (new_entry es e l b) c) in
                n k a (carries_back d (entry_at es k).triangulation e.triangulation (h.entries k a).classes c')
          ]
          | inr a ↦ elim (old_or_new es e l hl) [
            | inl b ↦ n l b (subst (λ (x : Entry). Like x (entry_at es l)) (new_entry es e k a) (subst (λ (x : Entry). Like (entry_at all k) x) (old_entry es e l b) c))
            | inr b ↦ ne (sym a ∙ b)
          ]
        ]

    pub right_more : AreRight Beyond d all marks
    right_more =
        let first : entry_at all 0 ≡ entry_at es 0 = old_entry es e 0 h.occupied in
        let long = length_more es e in
        record {
          occupied = omega arith;
          start = subst (λ (x : Entry). IsPrincipal d x.triangulation) (sym first) h.start;
          no_origin = ap (λ (x : Entry). x.origin) first ∙ h.no_origin;
          lists = length_more changed (opens (length (facets e))) ∙ ap suc long_changed ∙ sym long;
          each = rows;
          origins = λ k z l. elim (old_or_new es e k l) [ inl b ↦ old_origin k b (h.origins k z b) | inr b ↦ its_origin k b ];
          crosses = crossing;
          apart = apart;
          entries = entries;
        }
