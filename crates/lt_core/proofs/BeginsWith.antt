-- What the code compares of two atlases says whether one is the beginning of the other.
use Rattle.std.proofs.Common.{◌≡◌, ℕ, ◌-◌, ◌<◌, ◌≤◌, ap, arith, sym, ◌∙◌, subst, List, [], length, get_or, take, drop, map, ◌↔◌, Vec, vec_len, length-drop}
use Rattle.std.specs.Prelude.{sum}
use Rattle.std.proofs.lemmas.List.{length-map, length-take-le, take_all, get_or-map, get_or-take, take-map, drop-map, map-id, same_lists}
use Rattle.std.specs.declared.alloc.Global.{Global}
use Rattle.lt_model.specs.Walls.{IsAcross}
use Rattle.lt_model.specs.Atlases as model
use Rattle.lt_model.specs.RightAtlases.{AreRight}
use Rattle.lt_core.specs.declared.marks.Mark.{Mark}
use Rattle.lt_core.specs.declared.marks.Entry.{Entry}
use Rattle.lt_core.specs.declared.marks.Event.{Event}
use Rattle.lt_core.specs.declared.atlas.Atlas.TheInside.{Inside}
use Rattle.lt_core.specs.Marks.{mark_of, marks_of, event_of, entry_of}
use Rattle.lt_core.specs.Meaning.{value_of, IsSoundInside}
use Rattle.lt_core.specs.Beginnings.{fresh_events, first_entries, first_places, IsStartOf}
use Rattle.lt_core.proofs.Undone.{none_left}
use Rattle.lt_core.proofs.Begun.{begins}

abbrev facet_count : model.Entry → ℕ
facet_count e = length (model.facets e)

-- each entry has as many marks as facets
as_many : (d : ℕ) (es : List model.Entry) (mss : List (List model.Mark)) → AreRight (IsAcross d) d es mss → map length mss ≡ map facet_count es
as_many d es mss h =
    let l = length-map mss length in
    let m = length-map es facet_count in
    let s = h.lists in
    same_lists (map length mss) (map facet_count es) (omega arith)
    (λ k x b. get_or-map length mss k [] x (omega arith) ∙ h.each k (omega arith) ∙ sym (get_or-map facet_count es k model.no_entry x (omega arith)))

module _ (i j : Inside) (ki : IsSoundInside i) (kj : IsSoundInside j) where
  pub is_beginning : (a s : model.Atlas) → value_of i ≡ a → value_of j ≡ s → IsStartOf (value_of i) (value_of j) ↔ (model.begin a ≡ s)
  is_beginning a s ha hs =
      subst (λ z. IsStartOf (value_of i) (value_of j) ↔ (model.begin z ≡ s)) ha
      (subst (λ z. IsStartOf (value_of i) (value_of j) ↔ (model.begin (value_of i) ≡ z)) hs
      (begins (value_of i) (value_of j)
      (as_many i.dimension (value_of i).entries (value_of i).marks ki.kept.right.parts)
      (as_many j.dimension (value_of j).entries (value_of j).marks kj.kept.right.parts)
      ki.kept.right.queue kj.kept.right.queue))

  -- ---- the log of the start

  pub log_empty : vec_len j.log ≡ 0 → (value_of j).log ≡ []
  log_empty h =
      let l = j.log.ok.0 in
      ap (map event_of) (none_left j.log.items (omega arith))

  pub empty_log : (value_of j).log ≡ [] → vec_len j.log ≡ 0
  empty_log h =
      let l = j.log.ok.0 in
      let m = length-map j.log.items event_of in
      let z : length (value_of j).log ≡ 0 = ap length h in
      omega arith

  -- ---- the entries

  pub entries_counted : (n long count : ℕ) (log : List Event) → log ≡ i.log.items → count ≡ fresh_events (map event_of log) → long ≡ vec_len i.entries → n ≡ long - count → n ≡ first_entries (value_of i)
  entries_counted n long count log el ec en e =
      let f : count ≡ fresh_events (value_of i).log = ec ∙ ap (λ l. fresh_events (map event_of l)) el in
      let m : length (value_of i).entries ≡ length i.entries.items = length-map i.entries.items entry_of in
      let o = i.entries.ok.0 in
      omega arith

  module _ (n : ℕ) (hn : n ≡ first_entries (value_of i)) where
    pub entries_read : (xs : List Entry) → xs ≡ i.entries.items → map entry_of (take n xs) ≡ take (first_entries (value_of i)) (value_of i).entries
    entries_read xs e = ap (λ l. map entry_of (take n l)) e ∙ sym (take-map entry_of n i.entries.items) ∙ ap (λ k. take k (value_of i).entries) hn

    -- ---- the queue

    pub places_counted : (m long : ℕ) (mss : List (Vec Mark Global)) → mss ≡ i.marks.items → long ≡ vec_len i.queue → m ≡ long - sum (map length (marks_of (take (length mss - n) (drop n mss)))) → m ≡ first_places (value_of i)
    places_counted m long mss em eq e =
        let l : length (value_of i).queue ≡ length i.queue.items = length-map i.queue.items (λ (p : ℕ × ℕ). (p.0, p.1)) in
        let o = i.queue.ok.0 in
        let s : map length (marks_of (drop n mss)) ≡ drop (first_entries (value_of i)) (map length (value_of i).marks) =
        ap (λ x. map length (marks_of (drop n x))) em
        ∙ ap (map length) (sym (drop-map (λ (v : Vec Mark Global). map mark_of v.items) n i.marks.items))
        ∙ sym (drop-map length n (value_of i).marks)
        ∙ ap (λ k. drop k (map length (value_of i).marks)) hn in
        let a : take (length mss - n) (drop n mss) ≡ drop n mss = take_all (length mss - n) (drop n mss) (omega (arith, length-drop n mss)) in
        let t : sum (map length (marks_of (take (length mss - n) (drop n mss)))) ≡ sum (drop (first_entries (value_of i)) (map length (value_of i).marks)) = ap (λ x. sum (map length (marks_of x))) a ∙ ap sum s in
        omega arith

  pub queue_read : (k : Inside) → (value_of k).queue ≡ k.queue.items
  queue_read k = map-id k.queue.items

  pub places_read : (m : ℕ) → m ≡ first_places (value_of i) → (q : List (ℕ × ℕ)) → q ≡ i.queue.items → take m q ≡ take (first_places (value_of i)) (value_of i).queue
  places_read m hm q e = ap (take m) (e ∙ sym (queue_read i)) ∙ ap (λ k. take k (value_of i).queue) hm

  -- ---- the marks

  pub facets_fit : take (first_entries (value_of i)) (value_of i).entries ≡ (value_of j).entries → (k : ℕ) → k < length j.marks.items → length (get_or (value_of j).marks k []) ≤ length (get_or (value_of i).marks k [])
  facets_fit e k h =
      let n : ℕ = first_entries (value_of i) in
      let ri : AreRight (IsAcross i.dimension) i.dimension (value_of i).entries (value_of i).marks = ki.kept.right.parts in
      let rj : AreRight (IsAcross j.dimension) j.dimension (value_of j).entries (value_of j).marks = kj.kept.right.parts in
      let m : length (value_of j).marks ≡ length j.marks.items = length-map j.marks.items (λ (v : Vec Mark Global). map mark_of v.items) in
      let l = rj.lists in
      let t : length (value_of j).entries ≡ n = ap length (sym e) ∙ length-take-le n (value_of i).entries (omega arith) in
      let same : model.entry_at (value_of j).entries k ≡ model.entry_at (value_of i).entries k = ap (λ es. model.entry_at es k) (sym e) ∙ get_or-take n (value_of i).entries k model.no_entry (omega arith) in
      let a = rj.each k (omega arith) in
      let b = ri.each k (omega arith) in
      let c : facet_count (model.entry_at (value_of j).entries k) ≡ facet_count (model.entry_at (value_of i).entries k) = ap facet_count same in
      omega arith
