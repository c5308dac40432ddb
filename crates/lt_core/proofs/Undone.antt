-- The parts of an atlas without its events.
use Rattle.std.proofs.Common.{◌≡◌, ℕ, zero, suc, ◌+◌, ◌-◌, ◌<◌, ◌≤◌, refl, ap, arith, sym, ◌∙◌, List, [], ◌∷◌, ◌++◌, length, get_or, set, take, drop, map, inl, inr, length-set}
use Rattle.std.proofs.lemmas.List.{take_all, take_more, take-take, take-map, length-map, length-take-le, get_or-take, drop-append-le}
use Rattle.std.proofs.lemmas.List.Sums.{sum_by-append}
use Rattle.std.specs.Prelude.{cond, true, false, Bool, sum}
use Rattle.lt_model.specs.Atlases.{Mark, open_mark, no_mark, no_event, Event, Atlas, event_at, mark_at, place_at, front, undo, undo_all}
use Rattle.lt_core.specs.Beginnings.{fresh_events, Stands}
use Rattle.lt_core.proofs.Undo.{undo_all-marks}
use Rattle.lt_core.proofs.Recording.{lengths-set_mark}

-- ---- fronts

module _ {A : Type 0} where
  length-front : (xs : List A) → length (front xs) ≡ length xs - 1
  length-front xs = length-take-le (length xs - 1) xs (omega arith)

  pub none_left : (xs : List A) → length xs ≡ 0 → xs ≡ []
  none_left [] h = refl
  none_left (x ∷ xs) h = absurd (omega arith)

  front_last : (xs : List A) (d : A) → 0 < length xs → xs ≡ front xs ++ get_or xs (length xs - 1) d ∷ []
  front_last xs d h = sym (take_all ((length xs - 1) + 1) xs (omega arith)) ∙ take_more xs (length xs - 1) d (omega arith)

  -- a front of the list or of its front
  taken : (xs : List A) (b : Bool) (c : ℕ) → take (length (cond b (front xs) xs) - c) (cond b (front xs) xs) ≡ take (length xs - (c + cond b 1 0)) xs
  taken xs true c =
      let l = length-front xs in
      let e : length (front xs) - c ≡ length xs - (c + 1) = omega arith in
      take-take (length (front xs) - c) (length xs - 1) xs (omega arith) ∙ ap (λ n. take n xs) e
  taken xs false c = let e : length xs - c ≡ length xs - (c + 0) = omega arith in ap (λ n. take n xs) e

-- ---- counts

pub fresh-append : (l m : List Event) → fresh_events (l ++ m) ≡ fresh_events l + fresh_events m
fresh-append [] m = omega arith
fresh-append (e ∷ l) m = let h = fresh-append l m in omega arith

fresh_front : (l : List Event) → 0 < length l → fresh_events (front l) + cond (event_at l (length l - 1)).fresh 1 0 ≡ fresh_events l
fresh_front l h =
    let s = fresh-append (front l) (event_at l (length l - 1) ∷ []) in
    let e = ap fresh_events (front_last l no_event h) in
    omega arith

none_fresh : (l : List Event) → length l ≡ 0 → fresh_events l ≡ 0
none_fresh [] h = refl
none_fresh (e ∷ l) h = absurd (omega arith)

sum_front : (ns : List ℕ) (j : ℕ) → j ≤ length ns - 1 → sum (drop j (front ns)) + get_or ns (length ns - 1) 0 ≡ sum (drop j ns)
sum_front [] zero h = refl
sum_front [] (suc j) h = absurd (omega arith)
sum_front (x ∷ xs) j h =
    let ns : List ℕ = x ∷ xs in
    let last : ℕ = get_or ns (length ns - 1) 0 in
    let l = length-front ns in
    let e : sum (drop j ns) ≡ sum (drop j (front ns) ++ last ∷ []) = ap (λ z. sum (drop j z)) (front_last ns 0 (omega arith)) ∙ ap sum (drop-append-le j (front ns) (last ∷ []) (omega arith)) in
    let s = sum_by-append (λ x. x) (drop j (front ns)) (last ∷ []) in
    omega arith

-- ---- one event taken back

abbrev pub lengths : Atlas → List ℕ
lengths a = map length a.marks

abbrev last_event : Atlas → Event
last_event a = event_at a.log (length a.log - 1)

lengths-front : (b : Bool) (mss : List (List Mark)) → map length (cond b (front mss) mss) ≡ cond b (front (map length mss)) (map length mss)
lengths-front true mss =
    let l : length mss - 1 ≡ length (map length mss) - 1 = ap (λ n. n - 1) (sym (length-map mss length)) in
    sym (take-map length (length mss - 1) mss) ∙ ap (λ n. take n (map length mss)) l
lengths-front false mss = refl

lengths-undo : (a : Atlas) → lengths (undo a) ≡ cond (last_event a).fresh (front (lengths a)) (lengths a)
lengths-undo a =
    lengths-set_mark (cond (last_event a).fresh (front a.marks) a.marks) (place_at a.queue (last_event a).position) open_mark
    ∙ lengths-front (last_event a).fresh a.marks

queue_step : (q : List (ℕ × ℕ)) (b : Bool) (ns : List ℕ) (c r : ℕ) → r ≡ get_or ns (length ns - 1) 0 →
    take (length (cond b (take (length q - r) q) q) - sum (drop (length (cond b (front ns) ns) - c) (cond b (front ns) ns))) (cond b (take (length q - r) q) q)
    ≡ take (length q - sum (drop (length ns - (c + cond b 1 0)) ns)) q
queue_step q true ns c r e =
    let l : length (take (length q - r) q) ≡ length q - r = length-take-le (length q - r) q (omega arith) in
    let f = length-front ns in
    let j : length (front ns) - c ≡ length ns - (c + 1) = omega arith in
    let t : sum (drop (length (front ns) - c) (front ns)) + r ≡ sum (drop (length ns - (c + 1)) ns) =
    ap (λ x. sum (drop (length (front ns) - c) (front ns)) + x) e ∙ sum_front ns (length (front ns) - c) (omega arith) ∙ ap (λ i. sum (drop i ns)) j in
    let n : length (take (length q - r) q) - sum (drop (length (front ns) - c) (front ns)) ≡ length q - sum (drop (length ns - (c + 1)) ns) = omega arith in
    take-take (length (take (length q - r) q) - sum (drop (length (front ns) - c) (front ns))) (length q - r) q (omega arith)
    ∙ ap (λ i. take i q) n
queue_step q false ns c r e = let j : length ns - c ≡ length ns - (c + 0) = omega arith in ap (λ i. take (length q - sum (drop i ns)) q) j

-- a mark set to open stands as it was or is open
row_stands : (ms : List Mark) (i f : ℕ) → Stands (get_or (set ms i open_mark) f no_mark) (get_or ms f no_mark)
row_stands [] i f = inr refl
row_stands (m ∷ ms) zero zero = inl refl
row_stands (m ∷ ms) zero (suc f) = inr refl
row_stands (m ∷ ms) (suc i) zero = inr refl
row_stands (m ∷ ms) (suc i) (suc f) = row_stands ms i f

rows_stand : (mss : List (List Mark)) (k i j f : ℕ) → Stands (get_or (get_or (set mss k (set (get_or mss k []) i open_mark)) j []) f no_mark) (get_or (get_or mss j []) f no_mark)
rows_stand [] k i j f = inr refl
rows_stand (ms ∷ mss) zero i zero f = row_stands ms i f
rows_stand (ms ∷ mss) zero i (suc j) f = inr refl
rows_stand (ms ∷ mss) (suc k) i zero f = inr refl
rows_stand (ms ∷ mss) (suc k) i (suc j) f = rows_stand mss k i j f

pub stands_through : (l m n : Mark) → Stands l m → Stands m n → Stands l n
stands_through l m n (inl o) h = inl o
stands_through l m n (inr e) (inl o) = inl (e ∙ o)
stands_through l m n (inr e) (inr f) = inr (e ∙ f)

front_stands : (b : Bool) (mss : List (List Mark)) (q : ℕ × ℕ) → q.0 < length (cond b (front mss) mss) → mark_at (cond b (front mss) mss) q ≡ mark_at mss q
front_stands true mss q h = let l = length-front mss in ap (λ r. get_or r q.1 no_mark) (get_or-take (length mss - 1) mss q.0 [] (omega arith))
front_stands false mss q h = refl

undo_stands : (a : Atlas) (q : ℕ × ℕ) → q.0 < length (undo a).marks → Stands (mark_at (undo a).marks q) (mark_at a.marks q)
undo_stands a q h =
    let e : Event = last_event a in
    let mss : List (List Mark) = cond e.fresh (front a.marks) a.marks in
    let p : ℕ × ℕ = place_at a.queue e.position in
    let l : length (undo a).marks ≡ length mss = length-set mss p.0 (set (get_or mss p.0 []) p.1 open_mark) in
    stands_through (mark_at (undo a).marks q) (mark_at mss q) (mark_at a.marks q) (rows_stand mss p.0 p.1 q.0 q.1) (inr (front_stands e.fresh a.marks q (omega arith)))

-- ---- all events taken back, n in all

log_fewer : (n : ℕ) (a : Atlas) → length a.log ≡ suc n → length (undo a).log ≡ n
log_fewer n a h = let l = length-front a.log in omega arith

fresh_fewer : (n : ℕ) (a : Atlas) → length a.log ≡ suc n → fresh_events (undo a).log + cond (last_event a).fresh 1 0 ≡ fresh_events a.log
fresh_fewer n a h = fresh_front a.log (omega arith)

pub all_log : (n : ℕ) (a : Atlas) → length a.log ≡ n → (undo_all n a).log ≡ []
all_log zero a h = none_left a.log h
all_log (suc n) a h = all_log n (undo a) (log_fewer n a h)

pub all_entries : (n : ℕ) (a : Atlas) → length a.log ≡ n → (undo_all n a).entries ≡ take (length a.entries - fresh_events a.log) a.entries
all_entries zero a h = let z = none_fresh a.log h in sym (take_all (length a.entries - fresh_events a.log) a.entries (omega arith))
all_entries (suc n) a h =
    all_entries n (undo a) (log_fewer n a h)
    ∙ taken a.entries (last_event a).fresh (fresh_events (undo a).log)
    ∙ ap (λ c. take (length a.entries - c) a.entries) (fresh_fewer n a h)

pub all_lengths : (n : ℕ) (a : Atlas) → length a.log ≡ n → lengths (undo_all n a) ≡ take (length (lengths a) - fresh_events a.log) (lengths a)
all_lengths zero a h = let z = none_fresh a.log h in sym (take_all (length (lengths a) - fresh_events a.log) (lengths a) (omega arith))
all_lengths (suc n) a h =
    all_lengths n (undo a) (log_fewer n a h)
    ∙ ap (λ ns. take (length ns - fresh_events (undo a).log) ns) (lengths-undo a)
    ∙ taken (lengths a) (last_event a).fresh (fresh_events (undo a).log)
    ∙ ap (λ c. take (length (lengths a) - c) (lengths a)) (fresh_fewer n a h)

pub no_length : (mss : List (List Mark)) (k : ℕ) → length (get_or mss k []) ≡ get_or (map length mss) k 0
no_length [] k = refl
no_length (ms ∷ mss) zero = refl
no_length (ms ∷ mss) (suc k) = no_length mss k

pub all_queue : (n : ℕ) (a : Atlas) → length a.log ≡ n → (undo_all n a).queue ≡ take (length a.queue - sum (drop (length (lengths a) - fresh_events a.log) (lengths a))) a.queue
all_queue zero a h =
    let z = none_fresh a.log h in
    let k : length (lengths a) ≡ length (lengths a) - fresh_events a.log = omega arith in
    let t : sum (drop (length (lengths a) - fresh_events a.log) (lengths a)) ≡ 0 = ap (λ i. sum (drop i (lengths a))) (sym k) ∙ ap sum (nothing (lengths a)) in
    sym (take_all (length a.queue - sum (drop (length (lengths a) - fresh_events a.log) (lengths a))) a.queue (omega arith))
  where
    nothing : (ns : List ℕ) → drop (length ns) ns ≡ []
    nothing [] = refl
    nothing (n ∷ ns) = nothing ns
all_queue (suc n) a h =
    let c : ℕ = fresh_events (undo a).log in
    let b : Bool = (last_event a).fresh in
    let r : length (get_or a.marks (length a.marks - 1) []) ≡ get_or (lengths a) (length (lengths a) - 1) 0 =
    no_length a.marks (length a.marks - 1) ∙ ap (λ i. get_or (lengths a) (i - 1) 0) (sym (length-map a.marks length)) in
    all_queue n (undo a) (log_fewer n a h)
    ∙ ap (λ ns. take (length (undo a).queue - sum (drop (length ns - c) ns)) (undo a).queue) (lengths-undo a)
    ∙ queue_step a.queue b (lengths a) c (length (get_or a.marks (length a.marks - 1) [])) r
    ∙ ap (λ x. take (length a.queue - sum (drop (length (lengths a) - x) (lengths a))) a.queue) (fresh_fewer n a h)

pub all_stand : (n : ℕ) (a : Atlas) (q : ℕ × ℕ) → q.0 < length (undo_all n a).marks → Stands (mark_at (undo_all n a).marks q) (mark_at a.marks q)
all_stand zero a q h = inr refl
all_stand (suc n) a q h =
    let l = undo_all-marks n (undo a) in
    stands_through (mark_at (undo_all n (undo a)).marks q) (mark_at (undo a).marks q) (mark_at a.marks q) (all_stand n (undo a) q h) (undo_stands a q (omega arith))
