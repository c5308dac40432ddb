-- The lines of a summary, and of a check.
use Rattle.std.specs.Prelude.{ℕ, zero, suc, ℤ, pos, List, [], ◌∷◌, ◌++◌, codes, length, get_or, map}
use Rattle.std.specs.List.{flat_map}
use Rattle.lt_model.specs.Atlases.{Entry, Mark, Atlas, entry_at, facets, count, count_in, one_if_open, one_if_crossed, undecided}
use Rattle.lt_model.specs.Cones.{normals}
use Rattle.lt_model.specs.Limits.{weight}
use Rattle.lt_lines.specs.Lines.{line, right_in}
use Rattle.ltypes.specs.Texts.{named}

-- numbers that stand right, each in so many places
abbrev pub columns : List (ℕ × ℕ) → List ℕ
columns cs = flat_map (λ c. right_in c.0 c.1) cs

-- the names of the columns
abbrev pub header : List ℕ
header = line (codes "  type simplices regulators facets crossed    open weight") []

-- the line of an entry: its number, its classes, regulators and facets, its marks that are crossed and open, and its weight
abbrev pub entry_line : (entry classes regulators facets crossed opened weight : ℕ) → List ℕ
entry_line entry classes regulators facets crossed opened weight =
    columns ((6, entry) ∷ (10, classes) ∷ (11, regulators) ∷ (7, facets) ∷ (8, crossed) ∷ (8, opened) ∷ []) ++ line [] (pos weight ∷ [])

-- the weight of an entry of dimension d
abbrev pub weight_of : ℕ → Entry → ℕ
weight_of d e = weight d (normals e.cone.rows)

-- the line of entry k of dimension d, with these marks
abbrev pub entry_summary : ℕ → ℕ → Entry → List Mark → List ℕ
entry_summary d k e ms =
    entry_line k (length e.triangulation) (length e.cone.rows) (length (facets e)) (count_in one_if_crossed ms) (count_in one_if_open ms) (weight_of d e)

-- the lines of the first n entries
abbrev pub entry_summaries : Atlas → ℕ → List ℕ
entry_summaries a zero = []
entry_summaries a (suc n) = entry_summaries a n ++ entry_summary a.dimension n (entry_at a.entries n) (get_or a.marks n [])

-- the last line: entries, facets, and marks that are crossed and undecided
abbrev pub totals_line : List ℕ → (entries facets crossed undecided : ℕ) → List ℕ
totals_line word entries facets crossed undecided =
    named word entries ++ named (codes " facets") facets ++ named (codes " crossed") crossed ++ line (codes " undecided") (pos undecided ∷ [])

-- each mark counts
abbrev pub one_for_each : Mark → ℕ
one_for_each m = 1

-- the totals of an atlas, behind a word
abbrev pub totals : List ℕ → Atlas → List ℕ
totals word a = totals_line word (length a.entries) (count one_for_each a.marks) (count one_if_crossed a.marks) (undecided a.marks)

abbrev pub summary_text : Atlas → List ℕ
summary_text a = header ++ entry_summaries a (length a.entries) ++ totals (codes "types") a

abbrev pub check_text : Atlas → List ℕ
check_text a = totals (codes "ok types") a

-- the weights of the entries
abbrev pub entry_weights : Atlas → List ℤ
entry_weights a = map (λ e. pos (weight_of a.dimension e)) a.entries
