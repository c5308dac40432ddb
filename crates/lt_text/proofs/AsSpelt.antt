-- The text of an atlas, line by line, is that of what it spells.
use Rattle.std.proofs.Common.{◌≡◌, ℕ, suc, ℤ, pos, List, [], ◌∷◌, ◌++◌, Option, Some, None, map, length, get_or, refl, sym, ap, ◌∙◌, append_assoc}
use Rattle.std.specs.Prelude.{codes}
use Rattle.std.specs.Fmt.{decimal, signed_decimal}
use Rattle.std.specs.List.{flat_map}
use Rattle.std.proofs.lemmas.List.{append-nil, length-map}
use Rattle.std.proofs.lemmas.List.Concat.{flat_map-append}
use Rattle.lt_lines.specs.Lines.{behind_spaces, line, numbers_line}
use Rattle.lt_model.specs.Flat.{flat}
use Rattle.lt_model.specs.Negatives.{half}
use Rattle.lt_model.specs.Cones.{Verdict, wall, combination, Row, Cone}
use Rattle.lt_model.specs.Atlases.{Mark, open_mark, cross, wide, heavy, Entry, Atlas}
use Rattle.lt_scan.specs.Lines.{Line, joined, bytes_of}
use Rattle.lt_scan.specs.Reading.{labelled, counted}
use Rattle.lt_grammar.specs.Texts as spelt
use Rattle.lt_text.specs.Texts.{class_numbers, class_line, class_lines, triangulation_text, start, term_numbers, combination_part, verdict_line, row_line, rows_text, cone_text, mark_line, marks_text, from_part, origin_part, origin_line, entry_text, entries_text, atlas_text}
use Rattle.lt_text.specs.Values.{mark_value, entry_value, entries_value, value_of, AtlasesAreSpelt}

-- the bytes of a line
abbrev bytes : Line → List ℕ
bytes l = joined l ++ 10 ∷ []

-- words behind spaces
abbrev spaced_words : Line → List ℕ
spaced_words ws = flat_map (λ w. 32 ∷ w) ws

regroup : (f a b t : List ℕ) → (f ++ (a ++ b)) ++ t ≡ (f ++ a) ++ (b ++ t)
regroup f a b t = ap (λ z. z ++ t) (sym (append_assoc f a b)) ∙ append_assoc (f ++ a) b t

spaced_numbers : (zs : List ℤ) → spaced_words (map signed_decimal zs) ≡ behind_spaces zs
spaced_numbers [] = refl
spaced_numbers (z ∷ zs) = ap (λ l. (32 ∷ signed_decimal z) ++ l) (spaced_numbers zs)

labelled_line : (word : List ℕ) (zs : List ℤ) → bytes (labelled word zs) ≡ line word zs
labelled_line word zs = ap (λ l. word ++ l ++ 10 ∷ []) (spaced_numbers zs)

numbers : (zs : List ℤ) → bytes (map signed_decimal zs) ≡ numbers_line zs
numbers [] = refl
numbers (z ∷ zs) = labelled_line (signed_decimal z) zs

-- ---- rows

spaced_terms : (ts : List (ℕ × ℤ)) → spaced_words (spelt.term_words ts) ≡ behind_spaces (term_numbers ts)
spaced_terms [] = refl
spaced_terms (t ∷ ts) = ap (λ l. (32 ∷ decimal t.0) ++ ((32 ∷ signed_decimal t.1) ++ l)) (spaced_terms ts)

-- words, and others
behind_numbers : (word : List ℕ) (zs : List ℤ) (ws : Line) → bytes (labelled word zs ++ ws) ≡ start word zs ++ (spaced_words ws ++ 10 ∷ [])
behind_numbers word zs ws =
    ap (λ l. word ++ l ++ 10 ∷ []) (flat_map-append (λ w. 32 ∷ w) (map signed_decimal zs) ws ∙ ap (λ l. l ++ spaced_words ws) (spaced_numbers zs))
    ∙ regroup word (behind_spaces zs) (spaced_words ws) (10 ∷ [])

listed : (f : ℤ) (ts : List (ℕ × ℤ)) → spaced_words (spelt.combination_words (f, ts)) ++ 10 ∷ [] ≡ combination_part f ts
listed f ts =
    let terms = codes " terms" ++ ((32 ∷ decimal (length ts)) ++ behind_spaces (term_numbers ts)) in
    ap (λ l. (codes " scale" ++ ((32 ∷ signed_decimal f) ++ (codes " terms" ++ ((32 ∷ decimal (length ts)) ++ l)))) ++ 10 ∷ []) (spaced_terms ts)
    ∙ regroup (codes " scale") (32 ∷ signed_decimal f) terms (10 ∷ [])
    ∙ ap (λ l. (codes " scale" ++ l) ++ (terms ++ 10 ∷ [])) (sym (append-nil (32 ∷ signed_decimal f)))

row : (n : List ℤ) (v : Verdict) → bytes (spelt.verdict_line n v) ≡ verdict_line n v
row n (wall w) = behind_numbers (codes "facet") n (labelled (codes "wall") w) ∙ ap (λ l. start (codes "facet") n ++ (codes " wall" ++ l ++ 10 ∷ [])) (spaced_numbers w)
row n (combination f ts) = behind_numbers (codes "redundant") n (spelt.combination_words (f, ts)) ∙ ap (λ l. start (codes "redundant") n ++ l) (listed f ts)

-- ---- marks and origins

mark : (m : Mark) → bytes (spelt.mark_line (mark_value m)) ≡ mark_line m
mark open_mark = refl
mark (cross k u) = labelled_line (codes "cross") (pos k ∷ flat u)
mark (wide s n) = labelled_line (codes "wide") (pos n ∷ class_numbers s)
mark (heavy w) = labelled_line (codes "heavy") (pos w ∷ [])

origin : (k : ℕ) (o : Option (ℕ × ℕ)) → bytes (spelt.origin_line k o) ≡ origin_line k o
origin k None = behind_numbers (codes "entry") (pos k ∷ []) (codes "start" ∷ [])
origin k (Some p) = behind_numbers (codes "entry") (pos k ∷ []) (spelt.from_words p)

-- ---- lists

pieces : {A B : Type 0} (f : A → B) (spell : B → Line) (piece : A → List ℕ) (es : List A) → ((a : A) → bytes (spell (f a)) ≡ piece a) → bytes_of (map spell (map f es)) ≡ flat_map piece es
pieces f spell piece [] same = refl
pieces f spell piece (a ∷ es) same = ap (λ l. l ++ bytes_of (map spell (map f es))) (same a) ∙ ap (λ l. piece a ++ l) (pieces f spell piece es same)

joined_bytes : (xs ys : List Line) → bytes_of (xs ++ ys) ≡ bytes_of xs ++ bytes_of ys
joined_bytes xs ys = flat_map-append bytes xs ys

list : {A B : Type 0} (word : List ℕ) (f : A → B) (spell : B → Line) (piece : A → List ℕ) (es : List A) → ((a : A) → bytes (spell (f a)) ≡ piece a) → bytes_of (spelt.list_lines word spell (map f es)) ≡ line word (pos (length es) ∷ []) ++ flat_map piece es
list word f spell piece es same =
    ap (λ n. bytes (counted word n) ++ bytes_of (map spell (map f es))) (length-map es f)
    ∙ ap (λ l. bytes (counted word (length es)) ++ l) (pieces f spell piece es same)

map-same : {A : Type 0} (es : List A) → map (λ e. e) es ≡ es
map-same [] = refl
map-same (e ∷ es) = ap (λ l. e ∷ l) (map-same es)

cone : (c : Cone) → bytes_of (spelt.cone_lines c) ≡ cone_text c
cone c =
    joined_bytes (spelt.rows_lines c.rows) (spelt.form_line c.form ∷ [])
    ∙ ap (λ l. l ++ bytes_of (spelt.form_line c.form ∷ [])) (ap (λ es. bytes_of (spelt.rows_lines es)) (sym (map-same c.rows)) ∙ list (codes "regulators") (λ r. r) spelt.row_line row_line c.rows (λ r. row r.normal r.verdict))
    ∙ ap (λ l. rows_text c.rows ++ l) (append-nil (bytes (spelt.form_line c.form)) ∙ labelled_line (codes "form") c.form)

entry : (k : ℕ) (e : Entry) (ms : List Mark) → bytes_of (spelt.entry_lines k (entry_value 2 e ms)) ≡ entry_text k e ms
entry k e ms =
    let classes = spelt.classes_lines (map class_numbers (half e.triangulation)) in
    let marks = spelt.marks_lines (map mark_value ms) in
    let body : bytes_of (classes ++ (spelt.cone_lines e.cone ++ marks)) ≡ triangulation_text (half e.triangulation) ++ (cone_text e.cone ++ marks_text ms) =
    joined_bytes classes (spelt.cone_lines e.cone ++ marks)
    ∙ ap (λ l. l ++ bytes_of (spelt.cone_lines e.cone ++ marks)) (list (codes "simplices") class_numbers (map signed_decimal) class_line (half e.triangulation) (λ s. numbers (class_numbers s)))
    ∙ ap (λ l. triangulation_text (half e.triangulation) ++ l) (joined_bytes (spelt.cone_lines e.cone) marks ∙ ap (λ l. l ++ bytes_of marks) (cone e.cone) ∙ ap (λ l. cone_text e.cone ++ l) (list (codes "marks") mark_value spelt.mark_line mark_line ms mark)) in
    ap (λ l. l ++ bytes_of (classes ++ (spelt.cone_lines e.cone ++ marks))) (origin k e.origin)
    ∙ ap (λ l. origin_line k e.origin ++ l) body
    ∙ sym (append_assoc (origin_line k e.origin) (triangulation_text (half e.triangulation)) (cone_text e.cone ++ marks_text ms))
    ∙ sym (append_assoc (origin_line k e.origin ++ triangulation_text (half e.triangulation)) (cone_text e.cone) (marks_text ms))

entries : (marks : List (List Mark)) (k : ℕ) (es : List Entry) → bytes_of (spelt.entries_lines k (entries_value 2 marks k es)) ≡ entries_text marks k es
entries marks k [] = refl
entries marks k (e ∷ es) =
    let first = spelt.entry_lines k (entry_value 2 e (get_or marks k [])) in
    joined_bytes first (spelt.entries_lines (suc k) (entries_value 2 marks (suc k) es))
    ∙ ap (λ l. l ++ bytes_of (spelt.entries_lines (suc k) (entries_value 2 marks (suc k) es))) (entry k e (get_or marks k []))
    ∙ ap (λ l. entry_text k e (get_or marks k []) ++ l) (entries marks (suc k) es)

pub entries_long : (version : ℕ) (marks : List (List Mark)) (k : ℕ) (es : List Entry) → length (entries_value version marks k es) ≡ length es
entries_long version marks k [] = refl
entries_long version marks k (e ∷ es) = ap suc (entries_long version marks (suc k) es)

pub as_spelt : AtlasesAreSpelt
as_spelt a =
    let es = entries_value 2 a.marks 0 a.entries in
    let a1 = line (codes "ltypes") (pos 2 ∷ []) in
    let a2 = line (codes "dimension") (pos a.dimension ∷ []) in
    let a3 = line (codes "entries") (pos (length a.entries) ∷ []) in
    let last = line (codes "end") [] in
    sym (ap (λ n. a1 ++ (a2 ++ (bytes (counted (codes "entries") n) ++ bytes_of (spelt.entries_lines 0 es ++ (codes "end" ∷ []) ∷ [])))) (entries_long 2 a.marks 0 a.entries)
    ∙ ap (λ l. a1 ++ (a2 ++ (a3 ++ l))) (joined_bytes (spelt.entries_lines 0 es) ((codes "end" ∷ []) ∷ []) ∙ ap (λ l. l ++ (last ++ [])) (entries a.marks 0 a.entries) ∙ ap (λ l. entries_text a.marks 0 a.entries ++ l) (append-nil last))
    ∙ sym (append_assoc a1 a2 (a3 ++ (entries_text a.marks 0 a.entries ++ last)))
    ∙ sym (append_assoc (a1 ++ a2) a3 (entries_text a.marks 0 a.entries ++ last))
    ∙ sym (append_assoc ((a1 ++ a2) ++ a3) (entries_text a.marks 0 a.entries) last))
