-- Queue and order of places after a recording.
use Rattle.std.proofs.Common.{◌≡◌, ℕ, zero, suc, ◌+◌, ◌-◌, ◌<◌, ◌≤◌, refl, ap, arith, sym, ◌∙◌, subst, List, [], ◌∷◌, ◌++◌, length, get_or, set, drop, map, inl, inr, length-append, length-set, length-drop, append_assoc}
use Rattle.std.proofs.lemmas.List.{get_or_at, get_or_append_left, get_or-append_right, map-append, length-map, drop-append-le, append-nil}
use Rattle.std.proofs.lemmas.Bool.{cases_lt}
use Rattle.lt_model.specs.Matrices.{identity}
use Rattle.lt_model.specs.Atlases.{Mark, open_mark, cross, no_mark, Entry, Atlas, mark_at, place_at, facets, set_mark, opens, places_from, push, grow, begin}
use Rattle.lt_model.specs.RightAtlases.{all_places, open_places, IsQueue, IsOpenAt, IsOrderly}
use Rattle.lt_core.proofs.Undo.{length_more, open_within, length-opens, length-places_from, cut_push, cut_grow, undo_all-marks}
use Rattle.lt_core.proofs.Recording.{row-set, lengths-set_mark, get_or-opens}

-- ---- the queue

all_places-more : (k : ℕ) (ns : List ℕ) (n : ℕ) → all_places k (ns ++ n ∷ []) ≡ all_places k ns ++ places_from (k + length ns) 0 n
all_places-more k [] n = let e : k ≡ k + 0 = omega arith in append-nil (places_from k 0 n) ∙ ap (λ j. places_from j 0 n) e
all_places-more k (m ∷ ns) n =
    let e : suc k + length ns ≡ k + suc (length ns) = omega arith in
    ap (λ ps. places_from k 0 m ++ ps) (all_places-more (suc k) ns n)
    ∙ sym (append_assoc (places_from k 0 m) (all_places (suc k) ns) (places_from (suc k + length ns) 0 n))
    ∙ ap (λ j. (places_from k 0 m ++ all_places (suc k) ns) ++ places_from j 0 n) e

abbrev queue_from : List (List Mark) → List ℕ → List (ℕ × ℕ)
queue_from b ns = open_places 0 b ++ all_places (length b) (drop (length b) ns)

pub queue_push : (a : Atlas) (p : ℕ) (m : Mark) → IsOpenAt a p → IsQueue a → IsQueue (push a p m)
queue_push a p m o h =
    h
    ∙ ap (λ (b : Atlas). queue_from b.marks (map length a.marks)) (sym (cut_push a p m 0 o (omega arith)))
    ∙ ap (λ ns. queue_from (begin (push a p m)).marks ns) (sym (lengths-set_mark a.marks (place_at a.queue p) m))

queue_more : (b ms : List (List Mark)) (r : List Mark) → length b ≤ length ms → queue_from b (map length (ms ++ r ∷ [])) ≡ queue_from b (map length ms) ++ places_from (length ms) 0 (length r)
queue_more b ms r h =
    let ns : List ℕ = map length ms in
    let l : length ns ≡ length ms = length-map ms length in
    let e : length b + length (drop (length b) ns) ≡ length ms = omega (arith, length-drop (length b) ns) in
    ap (λ x. queue_from b x) (map-append length ms (r ∷ []))
    ∙ ap (λ x. open_places 0 b ++ all_places (length b) x) (drop-append-le (length b) ns (length r ∷ []) (omega arith))
    ∙ ap (λ x. open_places 0 b ++ x) (all_places-more (length b) (drop (length b) ns) (length r))
    ∙ sym (append_assoc (open_places 0 b) (all_places (length b) (drop (length b) ns)) (places_from (length b + length (drop (length b) ns)) 0 (length r)))
    ∙ ap (λ j. queue_from b ns ++ places_from j 0 (length r)) e

pub queue_grow : (a : Atlas) (p : ℕ) (e : Entry) → IsOpenAt a p → length a.marks ≡ length a.entries → IsQueue a → IsQueue (grow a p e)
queue_grow a p e o l h =
    let n : ℕ = length (facets e) in
    let it : Mark = cross (length a.entries) (identity a.dimension) in
    let changed : List (List Mark) = set_mark a.marks (place_at a.queue p) it in
    let s : length changed ≡ length a.marks = length-set a.marks (place_at a.queue p).0 (set (get_or a.marks (place_at a.queue p).0 []) (place_at a.queue p).1 it) in
    let k : length changed ≡ length a.entries = s ∙ l in
    let short = undo_all-marks (length a.log - 0) a in
    let b : List (List Mark) = (begin a).marks in
    let more : queue_from b (map length (changed ++ opens n ∷ [])) ≡ queue_from b (map length changed) ++ places_from (length changed) 0 (length (opens n)) = queue_more b changed (opens n) (omega arith) in
    ap (λ q. q ++ places_from (length a.entries) 0 n) (h ∙ ap (λ ns. queue_from b ns) (sym (lengths-set_mark a.marks (place_at a.queue p) it)))
    ∙ ap (λ j. queue_from b (map length changed) ++ places_from j 0 n) (sym k)
    ∙ ap (λ j. queue_from b (map length changed) ++ places_from (length changed) 0 j) (sym (length-opens n))
    ∙ sym more
    ∙ ap (λ (c : Atlas). queue_from c.marks (map length (changed ++ opens n ∷ []))) (sym (cut_grow a p e 0 o (omega arith)))

-- ---- order

pub orderly_push : (a : Atlas) (p : ℕ) (m : Mark) → IsOpenAt a p → IsOrderly a → IsOrderly (push a p m)
orderly_push a p m o h =
    let q : ℕ × ℕ = place_at a.queue p in
    let w = open_within a.marks q o.undecided in
    let s : length (set_mark a.marks q m) ≡ length a.marks = length-set a.marks q.0 (set (get_or a.marks q.0 []) q.1 m) in
    record {
      once = h.once;
      entry_within = λ x l. let k = h.entry_within x l in omega arith;
      facet_within = λ x l. let k = h.facet_within x l in let r = row-set a.marks q m (place_at a.queue x).0 w.0 in omega arith;
    }

place_from : (k f n i : ℕ) → i < n → get_or (places_from k f n) i (0, 0) ≡ (k, f + i)
place_from k f zero i h = absurd (omega arith)
place_from k f (suc n) zero h = let e : f ≡ f + 0 = omega arith in ap (λ j. (k, j)) e
place_from k f (suc n) (suc i) h = let e : suc f + i ≡ f + suc i = omega arith in place_from k (suc f) n i (omega arith) ∙ ap (λ j. (k, j)) e

module _ (a : Atlas) (p : ℕ) (e : Entry) (o : IsOpenAt a p) (l : length a.marks ≡ length a.entries) where
  abbrev it : Mark
  it = cross (length a.entries) (identity a.dimension)

  abbrev here : ℕ × ℕ
  here = place_at a.queue p

  abbrev changed : List (List Mark)
  changed = set_mark a.marks here it

  abbrev count : ℕ
  count = length (facets e)

  pub long_changed : length changed ≡ length a.entries
  long_changed = length-set a.marks here.0 (set (get_or a.marks here.0 []) here.1 it) ∙ l

  pub long_queue : length (grow a p e).queue ≡ length a.queue + count
  long_queue = length-append a.queue (places_from (length a.entries) 0 count) ∙ ap (λ k. length a.queue + k) (length-places_from (length a.entries) 0 count)

  pub old_place : (x : ℕ) → x < length a.queue → place_at (grow a p e).queue x ≡ place_at a.queue x
  old_place x h = get_or_append_left a.queue (places_from (length a.entries) 0 count) (0, 0) x h

  pub new_place : (x : ℕ) → length a.queue ≤ x → x < length (grow a p e).queue → place_at (grow a p e).queue x ≡ (length a.entries, x - length a.queue)
  new_place x h k =
      let lq = long_queue in
      let z : 0 + (x - length a.queue) ≡ x - length a.queue = omega arith in
      get_or-append_right a.queue (places_from (length a.entries) 0 count) (length a.queue) x (0, 0) refl h
      ∙ place_from (length a.entries) 0 count (x - length a.queue) (omega arith)
      ∙ ap (λ j. (length a.entries, j)) z

  new_row : get_or (grow a p e).marks (length a.entries) [] ≡ opens count
  new_row = get_or_at changed (opens count) [] [] (length a.entries) long_changed

  pub new_open : (x : ℕ) → length a.queue ≤ x → x < length (grow a p e).queue → mark_at (grow a p e).marks (place_at (grow a p e).queue x) ≡ open_mark
  new_open x h k =
      let lq = long_queue in
      ap (mark_at (grow a p e).marks) (new_place x h k)
      ∙ ap (λ r. get_or r (x - length a.queue) no_mark) new_row
      ∙ get_or-opens count (x - length a.queue) (omega arith)

  pub orderly_grow : IsOrderly a → IsOrderly (grow a p e)
  orderly_grow h =
      record {
        once = λ x y hx hy s. elim (cases_lt x (length a.queue)) [
          | inl bx ↦ elim (cases_lt y (length a.queue)) [
            | inl by ↦ h.once x y bx by (sym (old_place x bx) ∙ s ∙ old_place y by)
            | inr by ↦ absurd (apart x y bx by hy s)
          ]
          | inr bx ↦ elim (cases_lt y (length a.queue)) [
            | inl by ↦ absurd (apart y x by bx hx (sym s))
            | inr by ↦
                let f : x - length a.queue ≡ y - length a.queue = ap (λ (q : ℕ × ℕ). q.1) (sym (new_place x bx hx) ∙ s ∙ new_place y by hy) in
                omega arith
          ]
        ];
        entry_within = λ x hx. entry_there x hx;
        facet_within = λ x hx. facet_there x hx;
      }
    where
      apart : (x y : ℕ) → x < length a.queue → length a.queue ≤ y → y < length (grow a p e).queue → place_at (grow a p e).queue x ≡ place_at (grow a p e).queue y → ⊥
      apart x y bx by hy s =
          let f : (place_at a.queue x).0 ≡ length a.entries = ap (λ (q : ℕ × ℕ). q.0) (sym (old_place x bx) ∙ s ∙ new_place y by hy) in
          let g = h.entry_within x bx in
          omega arith

      entry_there : (x : ℕ) → x < length (grow a p e).queue → (place_at (grow a p e).queue x).0 < length (grow a p e).marks
      entry_there x hx =
          let lc = long_changed in
          let lm = length_more changed (opens count) in
          elim (cases_lt x (length a.queue)) [
            | inl bx ↦ let s = ap (λ (q : ℕ × ℕ). q.0) (old_place x bx) in let g = h.entry_within x bx in omega arith
            | inr bx ↦ let s = ap (λ (q : ℕ × ℕ). q.0) (new_place x bx hx) in omega arith
          ]

      facet_there : (x : ℕ) → x < length (grow a p e).queue → (place_at (grow a p e).queue x).1 < length (get_or (grow a p e).marks (place_at (grow a p e).queue x).0 [])
      facet_there x hx =
          let lc = long_changed in
          let lq = long_queue in
          let w = open_within a.marks here o.undecided in
          elim (cases_lt x (length a.queue)) [
            | inl bx ↦
                let q : ℕ × ℕ = place_at a.queue x in
                let g = h.entry_within x bx in
                let k = h.facet_within x bx in
                let r : get_or (grow a p e).marks q.0 [] ≡ get_or changed q.0 [] = get_or_append_left changed (opens count ∷ []) [] q.0 (omega arith) in
                let t : length (get_or changed q.0 []) ≡ length (get_or a.marks q.0 []) = row-set a.marks here it q.0 w.0 in
                let all : q.1 < length (get_or (grow a p e).marks q.0 []) = (let rl = ap length r in omega arith) in
                subst (λ (z : ℕ × ℕ). z.1 < length (get_or (grow a p e).marks z.0 [])) (sym (old_place x bx)) all
            | inr bx ↦
                let rl : length (get_or (grow a p e).marks (length a.entries) []) ≡ count = ap length new_row ∙ length-opens count in
                let all : x - length a.queue < length (get_or (grow a p e).marks (length a.entries) []) = omega arith in
                subst (λ (z : ℕ × ℕ). z.1 < length (get_or (grow a p e).marks z.0 [])) (sym (new_place x bx hx)) all
          ]
