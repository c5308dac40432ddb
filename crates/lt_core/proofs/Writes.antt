-- What writing a mark and growing the lists of an atlas make of its rows, its queue and its open places.
use Rattle.std.proofs.Common.{◌≡◌, ℕ, zero, suc, ◌+◌, ◌<◌, refl, ap, arith, sym, ◌∙◌, List, [], ◌∷◌, ◌++◌, append_assoc, length-take-le, take, length, get_or, map, set, Vec}
use Rattle.std.proofs.lemmas.List.{map-set, get_or-map, length-map, map-append, append-nil, take_more}
use Rattle.std.specs.Vec.{with_item}
use Rattle.lt_model.specs.Atlases as model
use Rattle.lt_model.specs.RightAtlases.{open_in, open_places, place_if}
use Rattle.lt_core.proofs.Starting.{row_step, rows_step}
use Rattle.lt_core.specs.declared.marks.Mark.{Mark}
use Rattle.lt_core.specs.Marks.{mark_of, marks_of}

pub put_marks : {Z : Type 0} (mss : List (Vec Mark Z)) (i : ℕ) (r : Vec Mark Z) (f : ℕ) (m : Mark) → i < length mss → r ≡ get_or mss i r → marks_of (set mss i (with_item r f m)) ≡ model.set_mark (marks_of mss) (i, f) (mark_of m)
put_marks {Z} mss i r f m h e =
    let row : get_or (marks_of mss) i [] ≡ map mark_of r.items = get_or-map (λ (v : Vec Mark Z). map mark_of v.items) mss i r [] h ∙ ap (λ (v : Vec Mark Z). map mark_of v.items) (sym e) in
    map-set (λ (v : Vec Mark Z). map mark_of v.items) mss i (with_item r f m)
    ∙ ap (set (marks_of mss) i) (map-set mark_of r.items f m ∙ ap (λ x. set x f (mark_of m)) (sym row))

opens_suc : (n : ℕ) → model.opens (suc n) ≡ model.opens n ++ model.open_mark ∷ []
opens_suc zero = refl
opens_suc (suc n) = ap (λ ms. model.open_mark ∷ ms) (opens_suc n)

pub opens_more : (row : List Mark) (n : ℕ) (m : Mark) → map mark_of row ≡ model.opens n → mark_of m ≡ model.open_mark → map mark_of (row ++ m ∷ []) ≡ model.opens (n + 1)
opens_more row n m h e =
    let s : suc n ≡ n + 1 = omega arith in
    map-append mark_of row (m ∷ []) ∙ ap (λ x. x ++ mark_of m ∷ []) h ∙ ap (λ x. model.opens n ++ x ∷ []) e ∙ sym (opens_suc n) ∙ ap model.opens s

places_suc : (k f n : ℕ) → model.places_from k f (suc n) ≡ model.places_from k f n ++ (k, f + n) ∷ []
places_suc k f zero = let e : f ≡ f + 0 = omega arith in ap (λ j. (k, j) ∷ []) e
places_suc k f (suc n) =
    let e : suc f + n ≡ f + suc n = omega arith in
    ap (λ ps. (k, f) ∷ ps) (places_suc k (suc f) n ∙ ap (λ j. model.places_from k (suc f) n ++ (k, j) ∷ []) e)

pub places_more : (old q q' : List (ℕ × ℕ)) (k n : ℕ) → q ≡ old ++ model.places_from k 0 n → q' ≡ q ++ (k, n) ∷ [] → q' ≡ old ++ model.places_from k 0 (n + 1)
places_more old q q' k n h e =
    let s : suc n ≡ n + 1 = omega arith in
    let z : 0 + n ≡ n = omega arith in
    e ∙ ap (λ x. x ++ (k, n) ∷ []) h ∙ append_assoc old (model.places_from k 0 n) ((k, n) ∷ [])
    ∙ ap (λ x. old ++ x) (ap (λ j. model.places_from k 0 n ++ (k, j) ∷ []) (sym z) ∙ sym (places_suc k 0 n) ∙ ap (model.places_from k 0) s)

-- ---- the queue of the open marks

open_step : (k : ℕ) (row : List Mark) (i : ℕ) (m : Mark) → i < length row → m ≡ get_or row i m → open_in k 0 (map mark_of (take (i + 1) row)) ≡ open_in k 0 (map mark_of (take i row)) ++ place_if (mark_of m) (k, i) []
open_step k row i m h e =
    let l : length (map mark_of (take i row)) ≡ i = length-map (take i row) mark_of ∙ length-take-le i row (omega arith) in
    ap (λ x. open_in k 0 (map mark_of x)) (take_more row i m h ∙ ap (λ x. take i row ++ x ∷ []) (sym e))
    ∙ ap (open_in k 0) (map-append mark_of (take i row) (m ∷ []))
    ∙ row_step k (map mark_of (take i row)) (mark_of m) i l

pub open_pushed : (q0 q q' : List (ℕ × ℕ)) (k : ℕ) (row : List Mark) (i : ℕ) (m : Mark) → i < length row → m ≡ get_or row i m → q ≡ q0 ++ open_in k 0 (map mark_of (take i row)) → mark_of m ≡ model.open_mark → q' ≡ q ++ (k, i) ∷ [] → q' ≡ q0 ++ open_in k 0 (map mark_of (take (i + 1) row))
open_pushed q0 q q' k row i m h e inv o s =
    s ∙ ap (λ x. x ++ (k, i) ∷ []) inv ∙ append_assoc q0 (open_in k 0 (map mark_of (take i row))) ((k, i) ∷ [])
    ∙ ap (λ x. q0 ++ x) (ap (λ x. open_in k 0 (map mark_of (take i row)) ++ place_if x (k, i) []) (sym o) ∙ sym (open_step k row i m h e))

not_placed : (m : model.Mark) (p : ℕ × ℕ) → (m ≡ model.open_mark → ⊥) → place_if m p [] ≡ []
not_placed model.open_mark p h = absurd (h refl)
not_placed (model.cross k u) p h = refl
not_placed (model.wide s n) p h = refl
not_placed (model.heavy n) p h = refl

pub open_passed : (q0 q : List (ℕ × ℕ)) (k : ℕ) (row : List Mark) (i : ℕ) (m : Mark) → i < length row → m ≡ get_or row i m → q ≡ q0 ++ open_in k 0 (map mark_of (take i row)) → (mark_of m ≡ model.open_mark → ⊥) → q ≡ q0 ++ open_in k 0 (map mark_of (take (i + 1) row))
open_passed q0 q k row i m h e inv o =
    inv ∙ ap (λ x. q0 ++ x) (sym (append-nil (open_in k 0 (map mark_of (take i row)))) ∙ ap (λ x. open_in k 0 (map mark_of (take i row)) ++ x) (sym (not_placed (mark_of m) (k, i) o)) ∙ sym (open_step k row i m h e))

pub rows_more : {Z : Type 0} (mss : List (Vec Mark Z)) (i : ℕ) (r : Vec Mark Z) → i < length mss → r ≡ get_or mss i r → open_places 0 (marks_of (take (i + 1) mss)) ≡ open_places 0 (marks_of (take i mss)) ++ open_in i 0 (map mark_of r.items)
rows_more {Z} mss i r h e =
    let l : length (marks_of (take i mss)) ≡ i = length-map (take i mss) (λ (v : Vec Mark Z). map mark_of v.items) ∙ length-take-le i mss (omega arith) in
    ap (λ x. open_places 0 (marks_of x)) (take_more mss i r h ∙ ap (λ x. take i mss ++ x ∷ []) (sym e))
    ∙ ap (open_places 0) (map-append (λ (v : Vec Mark Z). map mark_of v.items) (take i mss) (r ∷ []))
    ∙ rows_step (marks_of (take i mss)) (map mark_of r.items) i l

pub row_few : {Z : Type 0} (mss : List (Vec Mark Z)) (i : ℕ) (r : Vec Mark Z) → i < length mss → r ≡ get_or mss i r → length (get_or (marks_of mss) i []) ≡ length r.items
row_few {Z} mss i r h e =
    ap length (get_or-map (λ (v : Vec Mark Z). map mark_of v.items) mss i r [] h) ∙ length-map (get_or mss i r).items mark_of ∙ ap (λ (v : Vec Mark Z). length v.items) (sym e)
