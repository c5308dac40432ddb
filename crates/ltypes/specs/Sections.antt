-- What the command on a section of a cone writes, and when each of its answers comes.
use Rattle.std.specs.Prelude.{◌≡◌, ℕ, ℤ, pos, ◌+◌, ◌<◌, List, [], ◌∷◌, ◌++◌, codes, length, get_or}
use Rattle.std.specs.List.{flat_map}
use Rattle.lt_lines.specs.Lines.{line}
use Rattle.lt_model.specs.Atlases.{Classes}
use Rattle.lt_model.specs.Limits.{weight_limit}
use Rattle.lt_section.specs.declared.answers.SectionError.TheVariants as section
use Rattle.lt_section.specs.declared.answers.SectionRow.{SectionRow}
use Rattle.lt_section.specs.declared.answers.SectionVerdict.{SectionVerdict}
use Rattle.lt_section.specs.declared.answers.SectionVerdict.TheVariants.{Live, Dead, Combination}
use Rattle.lt_section.specs.Normals.{AreSectionNormals, filled_weight, IsHeavySection}
use Rattle.lt_section.specs.Rows.{normals_of, AreRightRows}
use Rattle.lt_text.specs.Texts.{start, combination_part}
use Rattle.ltypes.specs.declared.status.Cause.{Cause}
use Rattle.ltypes.specs.declared.status.Cause.TheVariants.{SectionHeavy}
use Rattle.ltypes.specs.Changes.{Change}
use Rattle.ltypes.specs.Forms.{AnswersForm, crossings_line}
use Rattle.ltypes.specs.Texts.{named}

-- ---- what is written

abbrev pub live_line : List ℤ → List ℤ → List ℤ → List ℕ
live_line normal at form = start (codes "live") normal ++ start (codes " at") at ++ line (codes " form") form

abbrev pub dead_line : List ℤ → List ℤ → List ℤ → List ℤ → List ℕ
dead_line normal at form x = start (codes "dead") normal ++ start (codes " at") at ++ start (codes " form") form ++ line (codes " vector") x

abbrev pub redundant_line : List ℤ → ℤ → List (ℕ × ℤ) → List ℕ
redundant_line normal factor terms = start (codes "redundant") normal ++ combination_part factor terms

abbrev pub verdict_row : List ℤ → SectionVerdict → List ℕ
verdict_row normal (Live at form) = live_line normal at.items form
verdict_row normal (Dead at form x) = dead_line normal at.items form x
verdict_row normal (Combination factor terms) = redundant_line normal factor terms.items

abbrev pub section_row_line : SectionRow → List ℕ
section_row_line r = verdict_row r.normal.items r.verdict

-- one for a facet, live or dead
abbrev pub one_if_facet : SectionVerdict → ℕ
one_if_facet (Live at form) = 1
one_if_facet (Dead at form x) = 1
one_if_facet (Combination factor terms) = 0

-- one for a dead facet
abbrev pub one_if_dead : SectionVerdict → ℕ
one_if_dead (Live at form) = 0
one_if_dead (Dead at form x) = 1
one_if_dead (Combination factor terms) = 0

abbrev pub facets : List SectionRow → ℕ
facets [] = 0
facets (r ∷ rows) = one_if_facet r.verdict + facets rows

abbrev pub dead : List SectionRow → ℕ
dead [] = 0
dead (r ∷ rows) = one_if_dead r.verdict + dead rows

-- the numbers of facets and of dead ones
abbrev pub facets_line : List SectionRow → List ℕ
facets_line rows = named (codes "facets") (facets rows) ++ line (codes " dead") (pos (dead rows) ∷ [])

-- the number of crossings, the number of rows, the rows, and the numbers of facets
abbrev pub section_text : ℕ → List SectionRow → List ℕ
section_text i rows = crossings_line i ++ line (codes "rows") (pos (length rows) ∷ []) ++ flat_map section_row_line rows ++ facets_line rows

-- ---- the answers

-- the rows are exactly the restricted normals, in ascending order, each with a right verdict
pub record IsCut (d : ℕ) (t : Classes) (forms : List (List ℤ)) (rows : List SectionRow) : Type 0 where
  pub normals : AreSectionNormals d t forms (normals_of rows)
  pub verdicts : AreRightRows d t forms rows
  pub light : filled_weight d (normals_of rows) < weight_limit

abbrev pub IsSectionText : List (List ℤ) → ℕ → ℕ → Classes → List ℕ → Type 0
IsSectionText forms d i t text = (rows : List SectionRow) × IsCut d t forms rows × (text ≡ section_text i rows)

-- the weight of the restricted normals, at the limit or above it
abbrev pub IsTooHeavy : List (List ℤ) → ℕ → Classes → Cause → Type 0
IsTooHeavy forms d t (SectionHeavy weight) = IsHeavySection d t forms (section.Heavy weight)
IsTooHeavy forms d t _ = ⊥

-- the walk is that of the first form
abbrev pub AnswersSection : ℕ → List (List ℤ) → Change → Cause → Type 0
AnswersSection steps forms out cause = AnswersForm (IsSectionText forms) (IsTooHeavy forms) steps (get_or forms 0 []) out cause
