-- How the marks of a text in its ranges are read: none is wide or heavy, and each entry has few.
use Rattle.std.proofs.Common.{◌≡◌, ℕ, suc, ◌^◌, ◌<◌, ◌≤◌, refl, sym, ap, ap₂, ◌∙◌, arith, List, [], ◌∷◌, map, length, get_or, Vec}
use Rattle.std.specs.List.{AllByRecursion}
use Rattle.lt_model.specs.Atlases as model
use Rattle.lt_model.specs.Atlases.{count_in, one_if_stuck, stuck}
use Rattle.lt_model.proofs.Atlases.{facets_most}
use Rattle.lt_core.proofs.Standing.{square_rows}
use Rattle.lt_grammar.specs.Texts.{Mark, open_mark, cross, wide, heavy, Entry}
use Rattle.lt_grammar.specs.Ranges.{MarkFits, EntriesFit}
use Rattle.lt_grammar.specs.Parsed.{mark_of, entries_of}
use Rattle.lt_grammar.specs.declared.parsed.RawMark.{RawMark}
use Rattle.lt_grammar.specs.declared.parsed.RawEntry.{RawEntry}
use Rattle.lt_read.specs.Refused.{entry_at, read_mark}
use Rattle.lt_read.specs.Built.{spelt_marks, AreMarks, AreBuilt, kept_mark}
use Rattle.lt_read.proofs.Counted.{fits_at}

-- ---- one mark

mark_read : (d : ℕ) (m : Mark) → 2 ≤ d → d ≤ 6 → MarkFits d m → kept_mark m ≡ read_mark d m
mark_read d open_mark low high h = refl
mark_read d (cross k u) low high h = ap (model.cross k) (square_rows d u low high h.1.0)
mark_read d (wide n s) low high h = refl
mark_read d (heavy w) low high h = refl

free_mark : (m : Mark) → one_if_stuck (kept_mark m) ≡ 0
free_mark open_mark = refl
free_mark (cross k u) = refl
free_mark (wide n s) = refl
free_mark (heavy w) = refl

-- ---- the marks of an entry, and all

row_read : (d : ℕ) (ms : List Mark) → 2 ≤ d → d ≤ 6 → AllByRecursion (MarkFits d) ms → map kept_mark ms ≡ map (read_mark d) ms
row_read d [] low high h = refl
row_read d (m ∷ ms) low high h = ap₂ (λ x xs. x ∷ xs) (mark_read d m low high h.0) (row_read d ms low high h.1)

rows_read : (d n : ℕ) (es : List Entry) → 2 ≤ d → d ≤ 6 → EntriesFit d n es → map (map kept_mark) (map (λ e. e.marks) es) ≡ map (λ e. map (read_mark d) e.marks) es
rows_read d n [] low high h = refl
rows_read d n (e ∷ es) low high h = ap₂ (λ x xs. x ∷ xs) (row_read d e.marks low high h.0.1.1.1.1) (rows_read d (suc n) es low high h.1)

free_row : (ms : List Mark) → count_in one_if_stuck (map kept_mark ms) ≡ 0
free_row [] = refl
free_row (m ∷ ms) = let a = free_mark m in let b = free_row ms in omega (arith, a, b)

-- no mark that is read is wide or heavy
pub none_stuck : (mss : List (List Mark)) → stuck (map (map kept_mark) mss) ≡ 0
none_stuck [] = refl
none_stuck (ms ∷ mss) = let a = free_row ms in let b = none_stuck mss in omega (arith, a, b)

spelt_rows : {Z : Type 0} (raws : List RawEntry) (mss : List (Vec RawMark Z)) → length raws ≡ length mss → spelt_marks mss ≡ map (λ e. e.marks) (entries_of raws mss)
spelt_rows [] [] same = refl
spelt_rows [] (ms ∷ mss) same = absurd (omega (arith, same))
spelt_rows (e ∷ raws) [] same = absurd (omega (arith, same))
spelt_rows (e ∷ raws) (ms ∷ mss) same = ap (λ xs. map mark_of ms.items ∷ xs) (spelt_rows raws mss (omega (arith, same)))

-- ---- a text in its ranges

-- the marks that are kept are those of the text as they are read
pub all_read : {Z : Type 0} (d : ℕ) (raws : List RawEntry) (mss : List (Vec RawMark Z)) → 2 ≤ d → d ≤ 6 → length raws ≡ length mss → EntriesFit d 0 (entries_of raws mss) → map (map kept_mark) (spelt_marks mss) ≡ map (λ e. map (read_mark d) e.marks) (entries_of raws mss)
all_read d raws mss low high same fits = ap (map (map kept_mark)) (spelt_rows raws mss same) ∙ rows_read d 0 (entries_of raws mss) low high fits

-- the places of marks are below 2^29
pub few_marks : (version d : ℕ) (es : List Entry) (bs : List model.Entry) (mss : List (List Mark)) → EntriesFit d 0 es → AreBuilt version d es bs → AreMarks es mss → length bs ≡ length es → length mss ≡ length es → (k : ℕ) → k < length mss → length (get_or mss k []) ≤ 2 ^ 29
few_marks version d es bs mss fits built marks whole lists k l =
    let here : k < length es = omega (arith, l, lists) in
    let h = (fits_at version d es bs mss fits built marks whole lists k here).1 in
    let same = ap length (sym (marks k here)) in
    let count = h.1.1.0.1 in
    let most = facets_most (entry_at es k).cone.rows in
    let few = h.1.0.0.0.1 in
    omega (arith, same, count, most, few)
