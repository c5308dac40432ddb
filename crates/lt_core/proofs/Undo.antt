-- Taking back the last event gives the atlas before it.
use Rattle.std.proofs.Common.{◌≡◌, ℕ, zero, suc, ◌+◌, ◌-◌, ◌<◌, ◌≤◌, refl, ap, arith, sym, ◌∙◌, List, [], ◌∷◌, ◌++◌, length, get_or, set, take, length-append, length-take, length-set, get_or-set_same}
use Rattle.std.proofs.lemmas.List.{get_or_at, take_at, set-set, set-get_or, get_or_append_left}
use Rattle.std.specs.Prelude.{cond, true, false, Bool}
use Rattle.lt_model.specs.Matrices.{identity}
use Rattle.lt_model.specs.Atlases.{Mark, open_mark, cross, no_mark, Entry, Event, Atlas, no_event, mark_at, place_at, event_at, facets, set_mark, opens, places_from, push, grow, front, without_event, undo, undo_all, cut}
use Rattle.lt_model.specs.RightAtlases.{IsOpenAt}

module _ {A : Type 0} where
  pub length_more : (xs : List A) (x : A) → length (xs ++ x ∷ []) ≡ suc (length xs)
  length_more [] x = refl
  length_more (y ∷ xs) x = ap suc (length_more xs x)

  pub at_end : (xs : List A) (x d : A) → get_or (xs ++ x ∷ []) (length (xs ++ x ∷ []) - 1) d ≡ x
  at_end xs x d =
      let e : length xs ≡ length (xs ++ x ∷ []) - 1 = omega (arith, length_more xs x) in
      get_or_at xs x [] d (length (xs ++ x ∷ []) - 1) e

  pub front-more : (xs : List A) (x : A) → front (xs ++ x ∷ []) ≡ xs
  front-more xs x =
      let e : length xs ≡ length (xs ++ x ∷ []) - 1 = omega (arith, length_more xs x) in
      take_at xs (x ∷ []) (length (xs ++ x ∷ []) - 1) e

  pub within : (xs : List A) (i : ℕ) (d y : A) → get_or xs i d ≡ y → (y ≡ d → ⊥) → i < length xs
  within [] i d y h ne = absurd (ne (sym h))
  within (x ∷ xs) zero d y h ne = omega arith
  within (x ∷ xs) (suc i) d y h ne = let k : i < length xs = within xs i d y h ne in omega arith

-- a place whose mark is one that events have is one of the marks
pub mark_within : (ms : List (List Mark)) (p : ℕ × ℕ) (m : Mark) → mark_at ms p ≡ m → (m ≡ no_mark → ⊥) → (p.0 < length ms) × (p.1 < length (get_or ms p.0 []))
mark_within ms p m h ne =
    let second : p.1 < length (get_or ms p.0 []) = within (get_or ms p.0 []) p.1 no_mark m h ne in
    let some : get_or ms p.0 [] ≡ [] → ⊥ = λ e. let l : length (get_or ms p.0 []) ≡ 0 = ap length e in absurd (omega arith) in
    (within ms p.0 [] (get_or ms p.0 []) refl some, second)

pub open_is_some : open_mark ≡ no_mark → ⊥
open_is_some h = cc

pub open_within : (ms : List (List Mark)) (p : ℕ × ℕ) → mark_at ms p ≡ open_mark → (p.0 < length ms) × (p.1 < length (get_or ms p.0 []))
open_within ms p h = mark_within ms p open_mark h open_is_some

-- setting a mark twice
pub set_mark_twice : (ms : List (List Mark)) (p : ℕ × ℕ) (m n : Mark) → p.0 < length ms → set_mark (set_mark ms p m) p n ≡ set_mark ms p n
set_mark_twice ms p m n h =
    let row : get_or (set_mark ms p m) p.0 [] ≡ set (get_or ms p.0 []) p.1 m = get_or-set_same ms p.0 (set (get_or ms p.0 []) p.1 m) [] h in
    ap (λ r. set (set_mark ms p m) p.0 (set r p.1 n)) row
    ∙ set-set ms p.0 (set (get_or ms p.0 []) p.1 m) (set (set (get_or ms p.0 []) p.1 m) p.1 n)
    ∙ ap (λ r. set ms p.0 r) (set-set (get_or ms p.0 []) p.1 m n)

-- an open mark set to open
pub set_mark_open : (ms : List (List Mark)) (p : ℕ × ℕ) → mark_at ms p ≡ open_mark → set_mark ms p open_mark ≡ ms
set_mark_open ms p h =
    ap (λ m. set ms p.0 (set (get_or ms p.0 []) p.1 m)) (sym h)
    ∙ ap (λ r. set ms p.0 r) (set-get_or (get_or ms p.0 []) p.1 no_mark)
    ∙ set-get_or ms p.0 []

made : ℕ → List Entry → List (List Mark) → List (ℕ × ℕ) → List Event → Atlas
made d es ms q l = record { dimension = d; entries = es; marks = ms; queue = q; log = l }

same_made : (d d' : ℕ) (es es' : List Entry) (ms ms' : List (List Mark)) (q q' : List (ℕ × ℕ)) (l l' : List Event) → d ≡ d' → es ≡ es' → ms ≡ ms' → q ≡ q' → l ≡ l' → made d es ms q l ≡ made d' es' ms' q' l'
same_made d d' es es' ms ms' q q' l l' hd he hm hq hl = cc

pub same_atlas : (a b : Atlas) → a.dimension ≡ b.dimension → a.entries ≡ b.entries → a.marks ≡ b.marks → a.queue ≡ b.queue → a.log ≡ b.log → a ≡ b
unfolding made
same_atlas a b d e m q l = same_made a.dimension b.dimension a.entries b.entries a.marks b.marks a.queue b.queue a.log b.log d e m q l

pub length-opens : (n : ℕ) → length (opens n) ≡ n
length-opens zero = refl
length-opens (suc n) = ap suc (length-opens n)

pub length-places_from : (k f n : ℕ) → length (places_from k f n) ≡ n
length-places_from k f zero = refl
length-places_from k f (suc n) = ap suc (length-places_from k (suc f) n)

-- ---- the last event taken back

pub undo_push : (a : Atlas) (p : ℕ) (m : Mark) → IsOpenAt a p → undo (push a p m) ≡ a
undo_push a p m o =
    let e : Event = record { position = p; mark = m; fresh = false } in
    let w = open_within a.marks (place_at a.queue p) o.undecided in
    ap (λ x. without_event x (push a p m)) (at_end a.log e no_event)
    ∙ same_atlas (without_event e (push a p m)) a refl refl
    (set_mark_twice a.marks (place_at a.queue p) m open_mark w.0 ∙ set_mark_open a.marks (place_at a.queue p) o.undecided)
    refl (front-more a.log e)

pub undo_grow : (a : Atlas) (p : ℕ) (e : Entry) → IsOpenAt a p → undo (grow a p e) ≡ a
undo_grow a p e o =
    let n : ℕ = length (facets e) in
    let x : Event = record { position = p; mark = cross (length a.entries) (identity a.dimension); fresh = true } in
    let w = open_within a.marks (place_at a.queue p) o.undecided in
    let new : List (List Mark) = set_mark a.marks (place_at a.queue p) x.mark in
    let here : place_at (grow a p e).queue p ≡ place_at a.queue p = get_or_append_left a.queue (places_from (length a.entries) 0 n) (0, 0) p o.queued in
    let some : length (get_or (grow a p e).marks (length (grow a p e).marks - 1) []) ≡ n = ap length (at_end new (opens n) []) ∙ length-opens n in
    let long : length (grow a p e).queue ≡ length a.queue + n = length-append a.queue (places_from (length a.entries) 0 n) ∙ ap (λ k. length a.queue + k) (length-places_from (length a.entries) 0 n) in
    ap (λ y. without_event y (grow a p e)) (at_end a.log x no_event)
    ∙ same_atlas (without_event x (grow a p e)) a refl (front-more a.entries e)
    (ap (λ ms. set_mark ms (place_at (grow a p e).queue p) open_mark) (front-more new (opens n))
    ∙ ap (λ q. set_mark new q open_mark) here
    ∙ set_mark_twice a.marks (place_at a.queue p) x.mark open_mark w.0
    ∙ set_mark_open a.marks (place_at a.queue p) o.undecided)
    (take_at a.queue (places_from (length a.entries) 0 n) (length (grow a p e).queue - length (get_or (grow a p e).marks (length (grow a p e).marks - 1) [])) (omega arith))
    (front-more a.log x)

-- ---- cuts

pub cut_now : (a : Atlas) → cut a (length a.log) ≡ a
cut_now a = let e : length a.log - length a.log ≡ 0 = omega arith in ap (λ n. undo_all n a) e

cut_more : (a b : Atlas) (e : Event) (i : ℕ) → i ≤ length a.log → b.log ≡ a.log ++ e ∷ [] → undo b ≡ a → cut b i ≡ cut a i
cut_more a b e i h l u =
    let n : length b.log ≡ suc (length a.log) = ap length l ∙ length_more a.log e in
    let k : length b.log - i ≡ suc (length a.log - i) = omega arith in
    ap (λ j. undo_all j b) k ∙ ap (undo_all (length a.log - i)) u

pub cut_push : (a : Atlas) (p : ℕ) (m : Mark) (i : ℕ) → IsOpenAt a p → i ≤ length a.log → cut (push a p m) i ≡ cut a i
cut_push a p m i o h = cut_more a (push a p m) (record { position = p; mark = m; fresh = false }) i h refl (undo_push a p m o)

pub cut_grow : (a : Atlas) (p : ℕ) (e : Entry) (i : ℕ) → IsOpenAt a p → i ≤ length a.log → cut (grow a p e) i ≡ cut a i
cut_grow a p e i o h =
    cut_more a (grow a p e) (record { position = p; mark = cross (length a.entries) (identity a.dimension); fresh = true }) i h refl (undo_grow a p e o)

-- what is taken back only shortens
pub undo_all-queue : (n : ℕ) (a : Atlas) → length (undo_all n a).queue ≤ length a.queue
undo_all-queue zero a = omega arith
undo_all-queue (suc n) a = let h = undo_all-queue n (undo a) in let k : length (undo a).queue ≤ length a.queue = shorter (event_at a.log (length a.log - 1)).fresh a.queue (length a.queue - length (get_or a.marks (length a.marks - 1) [])) in omega arith
  where
    shorter : {A : Type 0} (b : Bool) (xs : List A) (n : ℕ) → length (cond b (take n xs) xs) ≤ length xs
    shorter true xs n = omega (arith, length-take n xs)
    shorter false xs n = omega arith

pub undo_all-marks : (n : ℕ) (a : Atlas) → length (undo_all n a).marks ≤ length a.marks
undo_all-marks zero a = omega arith
undo_all-marks (suc n) a =
    let h = undo_all-marks n (undo a) in
    let e = event_at a.log (length a.log - 1) in
    let ms : List (List Mark) = cond e.fresh (front a.marks) a.marks in
    let p : ℕ × ℕ = place_at a.queue e.position in
    let k : length ms ≤ length a.marks = shorter e.fresh a.marks (length a.marks - 1) in
    let s : length (undo a).marks ≡ length ms = length-set ms p.0 (set (get_or ms p.0 []) p.1 open_mark) in
    omega arith
  where
    shorter : {A : Type 0} (b : Bool) (xs : List A) (n : ℕ) → length (cond b (take n xs) xs) ≤ length xs
    shorter true xs n = omega (arith, length-take n xs)
    shorter false xs n = omega arith

pub undo_all-dimension : (n : ℕ) (a : Atlas) → (undo_all n a).dimension ≡ a.dimension
undo_all-dimension zero a = refl
undo_all-dimension (suc n) a = undo_all-dimension n (undo a)
