-- What settling a position leaves as it was, and what it changes.
use Rattle.std.proofs.Common.{◌≡◌, ◌≢◌, ℕ, ◌<◌, ◌≤◌, ◌⊎◌, refl, arith, sym, ◌∙◌, ap, subst, inl, inr, List, [], ◌∷◌, ◌++◌, length, get_or, length-append, length-set}
use Rattle.std.proofs.lemmas.Bool.{cases_lt}
use Rattle.std.proofs.lemmas.List.{get_or_at, get_or_append_left}
use Rattle.lt_model.specs.Matrices.{identity}
use Rattle.lt_model.specs.Atlases.{Mark, open_mark, cross, wide, heavy, no_entry, Entry, Atlas, entry_at, mark_at, place_at, facets, set_mark, opens, push, grow}
use Rattle.lt_model.specs.RightAtlases.{IsOpenAt}
use Rattle.lt_core.specs.Candidates.{candidate}
use Rattle.lt_core.proofs.Recording.{mark_at-set_same, mark_at-set_other, mark_at-more}
use Rattle.lt_core.proofs.Undo.{open_within}
use Rattle.lt_crew.specs.Settled.{IsSettled}

-- the entries of a, and its marks that are not open, stay in b
pub record IsGrown (a b : Atlas) : Type 0 where
  pub dimension : b.dimension ≡ a.dimension
  pub more : length a.entries ≤ length b.entries
  pub entries : (i : ℕ) → i < length a.entries → entry_at b.entries i ≡ entry_at a.entries i
  pub marks : (p : ℕ × ℕ) → p.0 < length a.marks → mark_at a.marks p ≢ open_mark → mark_at b.marks p ≡ mark_at a.marks p

module _ (a : Atlas) (x : ℕ) (here : IsOpenAt a x) where
  within : ((place_at a.queue x).0 < length a.marks) × ((place_at a.queue x).1 < length (get_or a.marks (place_at a.queue x).0 []))
  within = open_within a.marks (place_at a.queue x) here.undecided

  other : (m : Mark) (p : ℕ × ℕ) → mark_at a.marks p ≢ open_mark → mark_at (set_mark a.marks (place_at a.queue x) m) p ≡ mark_at a.marks p
  other m p settled = mark_at-set_other a.marks (place_at a.queue x) m p within.0 (λ e. settled (ap (mark_at a.marks) e ∙ here.undecided))

  grown_push : (m : Mark) → IsGrown a (push a x m)
  grown_push m = record { dimension = refl; more = omega arith; entries = λ i l. refl; marks = λ p l settled. other m p settled }

  grown_grow : (e : Entry) → IsGrown a (grow a x e)
  grown_grow e =
      let m : Mark = cross (length a.entries) (identity a.dimension) in
      let changed : List (List Mark) = set_mark a.marks (place_at a.queue x) m in
      let long : length changed ≡ length a.marks = length-set a.marks (place_at a.queue x).0 _ in
      record {
        dimension = refl;
        more = let l = length-append a.entries (e ∷ []) in omega (arith, l);
        entries = λ i l. get_or_append_left a.entries (e ∷ []) no_entry i l;
        marks = λ p l settled. mark_at-more changed (opens (length (facets e))) p (omega (arith, l, long)) ∙ other m p settled;
      }

  -- the mark at the position
  marked_push : (m : Mark) → mark_at (push a x m).marks (place_at a.queue x) ≡ m
  marked_push m = mark_at-set_same a.marks (place_at a.queue x) m within.0 within.1

  marked_grow : (e : Entry) → mark_at (grow a x e).marks (place_at a.queue x) ≡ cross (length a.entries) (identity a.dimension)
  marked_grow e =
      let m : Mark = cross (length a.entries) (identity a.dimension) in
      let changed : List (List Mark) = set_mark a.marks (place_at a.queue x) m in
      let long : length changed ≡ length a.marks = length-set a.marks (place_at a.queue x).0 _ in
      mark_at-more changed (opens (length (facets e))) (place_at a.queue x) (let w = within.0 in omega (arith, w, long)) ∙ mark_at-set_same a.marks (place_at a.queue x) m within.0 within.1

  -- the entries of the grown atlas
  entries_grow : (e : Entry) (i : ℕ) → i < length (a.entries ++ e ∷ []) → (i < length a.entries) ⊎ ((entry_at (a.entries ++ e ∷ []) i).triangulation ≡ e.triangulation)
  entries_grow e i l =
      elim (cases_lt i (length a.entries)) [
        | inl k ↦ inl k
        | inr k ↦ (let n : length a.entries ≡ i = omega (arith, k, l, length-append a.entries (e ∷ [])) in inr (ap (λ (z : Entry). z.triangulation) (get_or_at a.entries e [] no_entry i n)))
      ]

  module _ (b : Atlas) (s : IsSettled a x b) where
    record IsOutcome (c : Atlas) : Type 0 where
      grown : IsGrown a c
      marked : mark_at c.marks (place_at a.queue x) ≢ open_mark
      entry : (i : ℕ) → i < length c.entries → (i < length a.entries) ⊎ ((entry_at c.entries i).triangulation ≡ s.across)

    pushed : (m : Mark) → m ≢ open_mark → b ≡ push a x m → IsOutcome b
    pushed m some e = subst (λ (z : Atlas). IsOutcome z) (sym e) (record { grown = grown_push m; marked = λ o. some (sym (marked_push m) ∙ o); entry = λ i l. inl l })

    outcome : IsOutcome b
    outcome =
        elim s.end [
          | inl w ↦ pushed (wide w.0 w.1) (λ e. cc) w.3
          | inr n ↦ elim n.1 [
            | inl k ↦ pushed (cross k.0 k.1) (λ e. cc) k.3
            | inr o ↦ elim o [
              | inl v ↦ pushed (heavy v.0) (λ e. cc) v.2
              | inr g ↦
                  let e : Entry = candidate a x s.across g.0 in
                  subst (λ (z : Atlas). IsOutcome z) (sym g.3) (record { grown = grown_grow e; marked = λ o. (let h = sym (marked_grow e) ∙ o in cc); entry = λ i l. entries_grow e i l })
            ]
          ]
        ]

    pub settled_grown : IsGrown a b
    settled_grown = outcome.grown

    pub settled_mark : mark_at b.marks (place_at a.queue x) ≢ open_mark
    settled_mark = outcome.marked

    pub settled_entry : (i : ℕ) → i < length b.entries → (i < length a.entries) ⊎ ((entry_at b.entries i).triangulation ≡ s.across)
    settled_entry = outcome.entry
