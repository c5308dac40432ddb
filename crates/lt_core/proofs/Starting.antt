-- An atlas of right entries and marks with an empty log is right, and its log is legal.
use Rattle.std.proofs.Common.{◌≡◌, ℕ, suc, ℤ, ◌+◌, ◌<◌, refl, ap, arith, sym, ◌∙◌, List, [], ◌∷◌, ◌++◌, length, get_or, drop, map, ◌⊎◌, inl, inr, length-append, append_assoc}
use Rattle.std.proofs.lemmas.List.{get_or_default, append-nil, length-map, drop_all}
use Rattle.std.specs.List.{Contains}
use Rattle.std.proofs.lemmas.List.Elements.{Contains-append_cases}
use Rattle.lt_model.specs.Atlases.{Classes, Mark, open_mark, cross, wide, heavy, no_mark, Entry, mark_at, place_at, one_if_open, count_in, undecided}
use Rattle.lt_model.specs.RightAtlases.{AreRight, place_if, open_in, open_places, all_places, fresh_atlas}
use Rattle.lt_model.specs.Logs.{IsKept}
use Rattle.lt_model.proofs.Sets.{Contains-cases, Contains-none}
use Rattle.lt_geometry.proofs.Rearranged.{IsDistinct, same_place, distinct_append}
use Rattle.lt_core.proofs.Undo.{open_within}

-- ---- the open places

if_cases : (m : Mark) (p : ℕ × ℕ) (ps : List (ℕ × ℕ)) (q : ℕ × ℕ) → Contains (place_if m p ps) q → ((m ≡ open_mark) × (p ≡ q)) ⊎ Contains ps q
if_cases open_mark p ps q c = elim (Contains-cases p ps q c) [ inl e ↦ inl (refl, e) | inr r ↦ inr r ]
if_cases (cross k u) p ps q c = inr c
if_cases (wide s n) p ps q c = inr c
if_cases (heavy n) p ps q c = inr c

if_once : (m : Mark) (p : ℕ × ℕ) (ps : List (ℕ × ℕ)) → (Contains ps p → ⊥) → IsDistinct ps → IsDistinct (place_if m p ps)
if_once open_mark p ps n h = (n, h)
if_once (cross k u) p ps n h = h
if_once (wide s w) p ps n h = h
if_once (heavy w) p ps n h = h

pub record IsInRow (k f : ℕ) (ms : List Mark) (p : ℕ × ℕ) (i : ℕ) : Type 0 where
  pub entry : p.0 ≡ k
  pub facet : p.1 ≡ f + i
  pub is_open : get_or ms i no_mark ≡ open_mark

in_row : (k f : ℕ) (ms : List Mark) (p : ℕ × ℕ) → Contains (open_in k f ms) p → (i : ℕ) × IsInRow k f ms p i
in_row k f [] p c = Contains-none p c
in_row k f (m ∷ ms) p c = by_cases (if_cases m (k, f) (open_in k (suc f) ms) p c) (λ r. in_row k (suc f) ms p r)
  where
    by_cases : (((m ≡ open_mark) × ((k, f) ≡ p)) ⊎ Contains (open_in k (suc f) ms) p) → (Contains (open_in k (suc f) ms) p → (i : ℕ) × IsInRow k (suc f) ms p i) → (i : ℕ) × IsInRow k f (m ∷ ms) p i
    by_cases (inl e) rec =
        let a : k ≡ p.0 = ap (λ (q : ℕ × ℕ). q.0) e.1 in
        let b : f ≡ p.1 = ap (λ (q : ℕ × ℕ). q.1) e.1 in
        (0, record { entry = sym a; facet = omega arith; is_open = e.0 })
    by_cases (inr r) rec =
        let h = rec r in
        let b : p.1 ≡ suc f + h.0 = h.1.facet in
        (suc h.0, record { entry = h.1.entry; facet = omega arith; is_open = h.1.is_open })

row_once : (k f : ℕ) (ms : List Mark) → IsDistinct (open_in k f ms)
row_once k f [] = tt
row_once k f (m ∷ ms) =
    if_once m (k, f) (open_in k (suc f) ms) (λ c. let h = in_row k (suc f) ms (k, f) c in let b : f ≡ suc f + h.0 = h.1.facet in absurd (omega arith)) (row_once k (suc f) ms)

pub record IsInRows (k : ℕ) (mss : List (List Mark)) (p : ℕ × ℕ) (i : ℕ) : Type 0 where
  pub entry : p.0 ≡ k + i
  pub is_open : get_or (get_or mss i []) p.1 no_mark ≡ open_mark

pub in_rows : (k : ℕ) (mss : List (List Mark)) (p : ℕ × ℕ) → Contains (open_places k mss) p → (i : ℕ) × IsInRows k mss p i
in_rows k [] p c = Contains-none p c
in_rows k (ms ∷ mss) p c = by_cases (Contains-append_cases (open_in k 0 ms) (open_places (suc k) mss) p c) (λ r. in_rows (suc k) mss p r)
  where
    by_cases : (Contains (open_in k 0 ms) p ⊎ Contains (open_places (suc k) mss) p) → (Contains (open_places (suc k) mss) p → (i : ℕ) × IsInRows (suc k) mss p i) → (i : ℕ) × IsInRows k (ms ∷ mss) p i
    by_cases (inl l) rec =
        let h = in_row k 0 ms p l in
        let a : p.0 ≡ k = h.1.entry in
        let b : p.1 ≡ 0 + h.0 = h.1.facet in
        let e : p.1 ≡ h.0 = omega arith in
        (0, record { entry = omega arith; is_open = ap (λ j. get_or ms j no_mark) e ∙ h.1.is_open })
    by_cases (inr r) rec =
        let h = rec r in
        let a : p.0 ≡ suc k + h.0 = h.1.entry in
        (suc h.0, record { entry = omega arith; is_open = h.1.is_open })

rows_once : (k : ℕ) (mss : List (List Mark)) → IsDistinct (open_places k mss)
rows_once k [] = tt
rows_once k (ms ∷ mss) =
    distinct_append (open_in k 0 ms) (open_places (suc k) mss) (row_once k 0 ms) (rows_once (suc k) mss)
    (λ p l r. let a : p.0 ≡ k = (in_row k 0 ms p l).1.entry in let h = in_rows (suc k) mss p r in let b : p.0 ≡ suc k + h.0 = h.1.entry in absurd (omega arith))

-- each place of the queue has an open mark
queue_open : (mss : List (List Mark)) (x : ℕ) → x < length (open_places 0 mss) → mark_at mss (place_at (open_places 0 mss) x) ≡ open_mark
queue_open mss x l =
    let p : ℕ × ℕ = place_at (open_places 0 mss) x in
    let h = in_rows 0 mss p (x, l, get_or_default (open_places 0 mss) x p (0, 0) l) in
    let a : p.0 ≡ 0 + h.0 = h.1.entry in
    let e : p.0 ≡ h.0 = omega arith in
    ap (λ j. get_or (get_or mss j []) p.1 no_mark) e ∙ h.1.is_open

-- the atlas of right entries and marks, with an empty log
pub kept_fresh : (Beyond : Classes → List ℤ → Classes → Type 0) (d : ℕ) (es : List Entry) (ms : List (List Mark)) → AreRight Beyond d es ms → IsKept Beyond (fresh_atlas d es ms)
kept_fresh Beyond d es ms h =
    let none : drop (length ms) (map length ms) ≡ [] = drop_all (length ms) (map length ms) (omega (arith, length-map ms (λ (r : List Mark). length r))) in
    record {
      right = record {
        parts = h;
        queue = sym (append-nil (open_places 0 ms)) ∙ ap (λ ns. open_places 0 ms ++ all_places (length ms) ns) (sym none);
      };
      legal = record {
        distinct = λ i j hi hj e. absurd (omega arith);
        legal = λ i hi. absurd (omega arith);
        standing = λ i hi. absurd (omega arith);
        rest = λ p l n. queue_open ms p l;
      };
      orderly = record {
        once = λ p q hp hq e. same_place (open_places 0 ms) p q (0, 0) (rows_once 0 ms) hp hq e;
        entry_within = λ p l. (open_within ms (place_at (open_places 0 ms) p) (queue_open ms p l)).0;
        facet_within = λ p l. (open_within ms (place_at (open_places 0 ms) p) (queue_open ms p l)).1;
      };
    }

-- ---- the queue, filled row by row

open_in-more : (k f : ℕ) (ms : List Mark) (m : Mark) → open_in k f (ms ++ m ∷ []) ≡ open_in k f ms ++ place_if m (k, f + length ms) []
open_in-more k f [] m = let e : f ≡ f + 0 = omega arith in ap (λ j. place_if m (k, j) []) e
open_in-more k f (x ∷ ms) m =
    let e : suc f + length ms ≡ f + suc (length ms) = omega arith in
    ap (place_if x (k, f)) (open_in-more k (suc f) ms m) ∙ out x (k, f) (open_in k (suc f) ms) (place_if m (k, suc f + length ms) []) ∙ ap (λ j. place_if x (k, f) (open_in k (suc f) ms) ++ place_if m (k, j) []) e
  where
    out : (x : Mark) (p : ℕ × ℕ) (ps qs : List (ℕ × ℕ)) → place_if x p (ps ++ qs) ≡ place_if x p ps ++ qs
    out open_mark p ps qs = refl
    out (cross k u) p ps qs = refl
    out (wide s n) p ps qs = refl
    out (heavy n) p ps qs = refl

-- one mark more of a row
pub row_step : (k : ℕ) (ms : List Mark) (m : Mark) (i : ℕ) → length ms ≡ i → open_in k 0 (ms ++ m ∷ []) ≡ open_in k 0 ms ++ place_if m (k, i) []
row_step k ms m i h = let e : 0 + length ms ≡ i = omega arith in open_in-more k 0 ms m ∙ ap (λ j. open_in k 0 ms ++ place_if m (k, j) []) e

open_places-more : (k : ℕ) (mss : List (List Mark)) (ms : List Mark) → open_places k (mss ++ ms ∷ []) ≡ open_places k mss ++ open_in (k + length mss) 0 ms
open_places-more k [] ms = let e : k ≡ k + 0 = omega arith in append-nil (open_in k 0 ms) ∙ ap (λ j. open_in j 0 ms) e
open_places-more k (x ∷ mss) ms =
    let e : suc k + length mss ≡ k + suc (length mss) = omega arith in
    ap (λ ps. open_in k 0 x ++ ps) (open_places-more (suc k) mss ms)
    ∙ sym (append_assoc (open_in k 0 x) (open_places (suc k) mss) (open_in (suc k + length mss) 0 ms))
    ∙ ap (λ j. (open_in k 0 x ++ open_places (suc k) mss) ++ open_in j 0 ms) e

-- one row more
pub rows_step : (mss : List (List Mark)) (ms : List Mark) (i : ℕ) → length mss ≡ i → open_places 0 (mss ++ ms ∷ []) ≡ open_places 0 mss ++ open_in i 0 ms
rows_step mss ms i h = let e : 0 + length mss ≡ i = omega arith in open_places-more 0 mss ms ∙ ap (λ j. open_places 0 mss ++ open_in j 0 ms) e

length_if : (m : Mark) (p : ℕ × ℕ) (ps : List (ℕ × ℕ)) → length (place_if m p ps) ≡ one_if_open m + length ps
length_if open_mark p ps = omega arith
length_if (cross k u) p ps = omega arith
length_if (wide s n) p ps = omega arith
length_if (heavy n) p ps = omega arith

length-open_in : (k f : ℕ) (ms : List Mark) → length (open_in k f ms) ≡ count_in one_if_open ms
length-open_in k f [] = refl
length-open_in k f (m ∷ ms) = let h = length-open_in k (suc f) ms in let l = length_if m (k, f) (open_in k (suc f) ms) in omega arith

-- the queue is as long as marks are open
pub length-open_places : (k : ℕ) (mss : List (List Mark)) → length (open_places k mss) ≡ undecided mss
length-open_places k [] = refl
length-open_places k (ms ∷ mss) =
    let a = length-open_in k 0 ms in
    let b = length-open_places (suc k) mss in
    let c = length-append (open_in k 0 ms) (open_places (suc k) mss) in
    omega arith
