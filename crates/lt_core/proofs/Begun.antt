-- An atlas is the beginning of another exactly where its parts are.
use Rattle.std.proofs.Common.{◌≡◌, ℕ, zero, suc, ◌+◌, ◌-◌, ◌<◌, refl, ap, arith, sym, ◌∙◌, subst, List, [], ◌∷◌, length, get_or, take, drop, map, ◌↔◌, inl, inr, length-append}
use Rattle.std.proofs.lemmas.List.{take_at, take-map, length-map, length-take-le, get_or_default, same_lists}
use Rattle.std.proofs.lemmas.List.Sums.{sum_by-cons}
use Rattle.std.specs.Prelude.{sum}
use Rattle.std.specs.List.{Contains}
use Rattle.std.proofs.lemmas.List.Elements.{Contains-append_left, Contains-append_right}
use Rattle.lt_model.specs.Atlases.{Mark, open_mark, cross, wide, heavy, no_mark, Atlas, mark_at, facets, places_from, undo_all, begin}
use Rattle.lt_model.specs.RightAtlases.{place_if, open_in, open_places, all_places, IsQueue}
use Rattle.lt_model.proofs.Sets.{Contains-head, Contains-tail}
use Rattle.lt_core.specs.Beginnings.{fresh_events, first_entries, first_places, Stands, AllStand, IsStartOf}
use Rattle.lt_core.proofs.Undo.{open_is_some, same_atlas, undo_all-dimension, length-places_from}
use Rattle.lt_core.proofs.Starting.{in_rows}
use Rattle.lt_core.proofs.Undone.{lengths, no_length, all_log, all_entries, all_lengths, all_queue, all_stand}

-- ---- each open mark has its place among the open ones

pub if_later : (m : Mark) (p : ℕ × ℕ) (ps : List (ℕ × ℕ)) (q : ℕ × ℕ) → Contains ps q → Contains (place_if m p ps) q
if_later open_mark p ps q c = Contains-tail p ps q c
if_later (cross k u) p ps q c = c
if_later (wide s n) p ps q c = c
if_later (heavy n) p ps q c = c

pub placed_in : (k f : ℕ) (ms : List Mark) (i : ℕ) → get_or ms i no_mark ≡ open_mark → Contains (open_in k f ms) (k, f + i)
placed_in k f [] i h = absurd (open_is_some (sym h))
placed_in k f (m ∷ ms) zero h =
    let e : f ≡ f + 0 = omega arith in
    subst (λ x. Contains (place_if x (k, f) (open_in k (suc f) ms)) (k, f + 0)) (sym h)
    (subst (λ j. Contains ((k, f) ∷ open_in k (suc f) ms) (k, j)) e (Contains-head (k, f) (open_in k (suc f) ms)))
placed_in k f (m ∷ ms) (suc i) h =
    let e : suc f + i ≡ f + suc i = omega arith in
    if_later m (k, f) (open_in k (suc f) ms) (k, f + suc i)
    (subst (λ j. Contains (open_in k (suc f) ms) (k, j)) e (placed_in k (suc f) ms i h))

pub placed : (k : ℕ) (mss : List (List Mark)) (j i : ℕ) → get_or (get_or mss j []) i no_mark ≡ open_mark → Contains (open_places k mss) (k + j, i)
placed k [] j i h = absurd (open_is_some (sym h))
placed k (ms ∷ mss) zero i h =
    let e : k ≡ k + 0 = omega arith in
    let z : 0 + i ≡ i = omega arith in
    Contains-append_left (open_in k 0 ms) (open_places (suc k) mss) (k + 0, i)
    (subst (λ x. Contains (open_in k 0 ms) (x, i)) e (subst (λ x. Contains (open_in k 0 ms) (k, x)) z (placed_in k 0 ms i h)))
placed k (ms ∷ mss) (suc j) i h =
    let e : suc k + j ≡ k + suc j = omega arith in
    Contains-append_right (open_in k 0 ms) (open_places (suc k) mss) (k + suc j, i)
    (subst (λ x. Contains (open_places (suc k) mss) (x, i)) e (placed (suc k) mss j i h))

-- ---- marks with the same open places that stand in the same marks

module _ (mss nss xss : List (List Mark)) (long : map length mss ≡ map length nss) (queue : open_places 0 mss ≡ open_places 0 nss) (hm : AllStand mss xss) (hn : AllStand nss xss) where
  open_there : (ass bss : List (List Mark)) → open_places 0 ass ≡ open_places 0 bss → (k f : ℕ) → mark_at ass (k, f) ≡ open_mark → mark_at bss (k, f) ≡ open_mark
  open_there ass bss e k f h =
      let z : 0 + k ≡ k = omega arith in
      let c : Contains (open_places 0 bss) (k, f) = subst (λ ps. Contains ps (k, f)) e (subst (λ j. Contains (open_places 0 ass) (j, f)) z (placed 0 ass k f h)) in
      let r = in_rows 0 bss (k, f) c in
      let a : k ≡ 0 + r.0 = r.1.entry in
      let s : k ≡ r.0 = omega arith in
      ap (λ j. get_or (get_or bss j []) f no_mark) s ∙ r.1.is_open

  same_mark : (k f : ℕ) → Stands (mark_at mss (k, f)) (mark_at xss (k, f)) → Stands (mark_at nss (k, f)) (mark_at xss (k, f)) → mark_at mss (k, f) ≡ mark_at nss (k, f)
  same_mark k f (inl a) b = a ∙ sym (open_there mss nss queue k f a)
  same_mark k f (inr a) (inl b) = open_there nss mss (sym queue) k f b ∙ sym b
  same_mark k f (inr a) (inr b) = a ∙ sym b

  same_count : length mss ≡ length nss
  same_count = sym (length-map mss length) ∙ ap length long ∙ length-map nss length

  same_row : (k : ℕ) → k < length mss → get_or mss k [] ≡ get_or nss k []
  same_row k h =
      let c = same_count in
      let l : length (get_or mss k []) ≡ length (get_or nss k []) = no_length mss k ∙ ap (λ ns. get_or ns k 0) long ∙ sym (no_length nss k) in
      same_lists (get_or mss k []) (get_or nss k []) l
      (λ f d g. get_or_default (get_or mss k []) f d no_mark g
      ∙ same_mark k f (hm k h f g) (hn k (omega arith) f (omega arith))
      ∙ get_or_default (get_or nss k []) f no_mark d (omega arith))

  pub same_marks : mss ≡ nss
  same_marks =
      let c = same_count in
      same_lists mss nss c (λ k d h. get_or_default mss k d [] h ∙ same_row k h ∙ get_or_default nss k [] d (omega arith))

-- ---- the queue at the beginning

length-all_places : (k : ℕ) (ns : List ℕ) → length (all_places k ns) ≡ sum ns
length-all_places k [] = refl
length-all_places k (n ∷ ns) =
    let l = length-append (places_from k 0 n) (all_places (suc k) ns) in
    let p = length-places_from k 0 n in
    let h = length-all_places (suc k) ns in
    let s = sum_by-cons (λ x. x) n ns in
    omega arith

begun : (a : Atlas) → length a.log ≡ length a.log - 0
begun a = omega arith

pub begin-lengths : (a : Atlas) → lengths (begin a) ≡ take (length (lengths a) - fresh_events a.log) (lengths a)
begin-lengths a = all_lengths (length a.log - 0) a (begun a)

begin-queue : (a : Atlas) → IsQueue a → (begin a).queue ≡ open_places 0 (begin a).marks
begin-queue a h =
    let ns : List ℕ = lengths a in
    let k : ℕ = length (begin a).marks in
    let j : ℕ = length ns - fresh_events a.log in
    let b : List (ℕ × ℕ) = open_places 0 (begin a).marks in
    let e : k ≡ j = sym (length-map (begin a).marks length) ∙ ap length (begin-lengths a) ∙ length-take-le j ns (omega arith) in
    let l : length a.queue ≡ length b + sum (drop k ns) = ap length h ∙ length-append b (all_places k (drop k ns)) ∙ ap (λ n. length b + n) (length-all_places k (drop k ns)) in
    let s : sum (drop k ns) ≡ sum (drop j ns) = ap (λ i. sum (drop i ns)) e in
    let n : length b ≡ length a.queue - sum (drop j ns) = omega arith in
    all_queue (length a.log - 0) a (begun a)
    ∙ ap (take (length a.queue - sum (drop j ns))) h
    ∙ take_at b (all_places k (drop k ns)) (length a.queue - sum (drop j ns)) n

begin-same : (s : Atlas) → s.log ≡ [] → begin s ≡ s
begin-same s h = let z : length s.log - 0 ≡ 0 = (let l = ap length h in omega arith) in ap (λ n. undo_all n s) z

start-queue : (s : Atlas) → s.log ≡ [] → IsQueue s → s.queue ≡ open_places 0 s.marks
start-queue s l h = sym (ap (λ (z : Atlas). z.queue) (begin-same s l)) ∙ begin-queue s h ∙ ap (λ (z : Atlas). open_places 0 z.marks) (begin-same s l)

-- ---- the beginning of an atlas

module _ (a s : Atlas) (ha : lengths a ≡ map (λ e. length (facets e)) a.entries) (hs : lengths s ≡ map (λ e. length (facets e)) s.entries) where
  counted : length (lengths a) ≡ length a.entries
  counted = ap length ha ∙ length-map a.entries (λ e. length (facets e))

  queued : (begin a).queue ≡ take (first_places a) a.queue
  queued = all_queue (length a.log - 0) a (begun a) ∙ ap (λ n. take (length a.queue - sum (drop (n - fresh_events a.log) (lengths a))) a.queue) counted

  entered : (begin a).entries ≡ take (first_entries a) a.entries
  entered = all_entries (length a.log - 0) a (begun a)

  rows_as_long : take (first_entries a) a.entries ≡ s.entries → lengths (begin a) ≡ lengths s
  rows_as_long e =
      begin-lengths a
      ∙ ap (λ n. take (n - fresh_events a.log) (lengths a)) counted
      ∙ ap (take (first_entries a)) ha
      ∙ take-map (λ e. length (facets e)) (first_entries a) a.entries
      ∙ ap (map (λ e. length (facets e))) e
      ∙ sym hs

  standing : AllStand (begin a).marks a.marks
  standing k h f g = all_stand (length a.log - 0) a (k, f) h

  pub begins : IsQueue a → IsQueue s → (IsStartOf a s ↔ (begin a ≡ s))
  begins qa qs = (there, back)
    where
      there : IsStartOf a s → begin a ≡ s
      there h =
          let q : (begin a).queue ≡ s.queue = queued ∙ h.queue in
          let o : open_places 0 (begin a).marks ≡ open_places 0 s.marks = sym (begin-queue a qa) ∙ q ∙ start-queue s h.log qs in
          same_atlas (begin a) s (undo_all-dimension (length a.log - 0) a ∙ h.dimension) (entered ∙ h.entries)
          (same_marks (begin a).marks s.marks a.marks (rows_as_long h.entries) o standing h.marks) q
          (all_log (length a.log - 0) a (begun a) ∙ sym h.log)

      back : begin a ≡ s → IsStartOf a s
      back e = record {
        dimension = sym (undo_all-dimension (length a.log - 0) a) ∙ ap (λ (z : Atlas). z.dimension) e;
        log = sym (ap (λ (z : Atlas). z.log) e) ∙ all_log (length a.log - 0) a (begun a);
        entries = sym entered ∙ ap (λ (z : Atlas). z.entries) e;
        queue = sym queued ∙ ap (λ (z : Atlas). z.queue) e;
        marks = subst (λ (z : Atlas). AllStand z.marks a.marks) e standing;
      }
