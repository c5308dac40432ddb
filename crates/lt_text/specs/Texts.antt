-- The text of an atlas: a function of its dimension, its entries and its marks.
use Rattle.std.specs.Prelude.{ℕ, suc, ℤ, pos, List, [], ◌∷◌, ◌++◌, length, get_or, codes}
use Rattle.std.specs.declared.option.Option.{Option}
use Rattle.std.specs.declared.option.Option.TheVariants.{Some, None}
use Rattle.std.specs.List.{flat_map}
use Rattle.lt_lines.specs.Lines.{behind_spaces, line, numbers_line}
use Rattle.lt_model.specs.Flat.{flat}
use Rattle.lt_model.specs.Negatives.{half}
use Rattle.lt_model.specs.Cones.{Verdict, wall, combination, Row, Cone}
use Rattle.lt_model.specs.Atlases.{Mark, open_mark, cross, wide, heavy, Entry, Atlas}

-- ---- classes

-- the coordinates of a class, point by point
abbrev pub class_numbers : List (List ℤ) → List ℤ
class_numbers s = flat_map (λ x. x) s

-- the line of a class
abbrev pub class_line : List (List ℤ) → List ℕ
class_line s = numbers_line (class_numbers s)

-- a line for each class
abbrev pub class_lines : List (List (List ℤ)) → List ℕ
class_lines t = flat_map class_line t

-- the number of classes, and the classes
abbrev pub triangulation_text : List (List (List ℤ)) → List ℕ
triangulation_text t = line (codes "simplices") (pos (length t) ∷ []) ++ class_lines t

-- ---- cones

-- the start of a line: a word and numbers
abbrev pub start : List ℕ → List ℤ → List ℕ
start word zs = word ++ behind_spaces zs

-- the place and the coefficient of each term
abbrev pub term_numbers : List (ℕ × ℤ) → List ℤ
term_numbers terms = flat_map (λ t. pos t.0 ∷ t.1 ∷ []) terms

-- the scale of a combination, the number of its terms, and the terms
abbrev pub combination_part : ℤ → List (ℕ × ℤ) → List ℕ
combination_part factor terms = start (codes " scale") (factor ∷ []) ++ line (codes " terms") (pos (length terms) ∷ term_numbers terms)

-- the line of a normal with its verdict
abbrev pub verdict_line : List ℤ → Verdict → List ℕ
verdict_line normal (wall form) = start (codes "facet") normal ++ line (codes " wall") form
verdict_line normal (combination factor terms) = start (codes "redundant") normal ++ combination_part factor terms

abbrev pub row_line : Row → List ℕ
row_line r = verdict_line r.normal r.verdict

-- the number of regulators, and a line for each
abbrev pub rows_text : List Row → List ℕ
rows_text rows = line (codes "regulators") (pos (length rows) ∷ []) ++ flat_map row_line rows

-- the rows and the form
abbrev pub cone_text : Cone → List ℕ
cone_text c = rows_text c.rows ++ line (codes "form") c.form

-- ---- marks

-- the line of a mark
abbrev pub mark_line : Mark → List ℕ
mark_line open_mark = line (codes "open") []
mark_line (cross k u) = line (codes "cross") (pos k ∷ flat u)
mark_line (wide s n) = line (codes "wide") (pos n ∷ class_numbers s)
mark_line (heavy w) = line (codes "heavy") (pos w ∷ [])

-- the number of marks, one for each facet, and a line for each
abbrev pub marks_text : List Mark → List ℕ
marks_text ms = line (codes "marks") (pos (length ms) ∷ []) ++ flat_map mark_line ms

-- ---- entries

abbrev pub from_part : ℕ → ℕ → List ℕ
from_part entry facet = line (codes " from") (pos entry ∷ pos facet ∷ [])

-- from which entry and facet an entry came
abbrev pub origin_part : Option (ℕ × ℕ) → List ℕ
origin_part None = line (codes " start") []
origin_part (Some p) = from_part p.0 p.1

-- the line of the entry with the number k
abbrev pub origin_line : ℕ → Option (ℕ × ℕ) → List ℕ
origin_line k from = start (codes "entry") (pos k ∷ []) ++ origin_part from

-- the entry with the number k, of whose classes half are listed, and the marks of its facets
abbrev pub entry_text : ℕ → Entry → List Mark → List ℕ
entry_text k e ms =
    origin_line k e.origin ++ triangulation_text (half e.triangulation) ++ cone_text e.cone ++ marks_text ms

-- the entries from the number k on
abbrev pub entries_text : List (List Mark) → ℕ → List Entry → List ℕ
entries_text marks k [] = []
entries_text marks k (e ∷ es) = entry_text k e (get_or marks k []) ++ entries_text marks (suc k) es

-- ---- the whole

-- the version, the dimension, and the number of entries
abbrev pub head_text : ℕ → ℕ → List ℕ
head_text d count = line (codes "ltypes") (pos 2 ∷ []) ++ line (codes "dimension") (pos d ∷ []) ++ line (codes "entries") (pos count ∷ [])

abbrev pub atlas_text : Atlas → List ℕ
atlas_text a = head_text a.dimension (length a.entries) ++ entries_text a.marks 0 a.entries ++ line (codes "end") []
