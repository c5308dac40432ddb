-- What the commands on a form write, and when each of their answers comes.
use Rattle.std.specs.Prelude.{◌≡◌, ◌⊎◌, ℕ, ℤ, pos, List, [], ◌∷◌, ◌++◌, codes, length, get_or}
use Rattle.std.specs.Io.KnownBytes.{Appends}
use Rattle.std.specs.List.{flat_map}
use Rattle.lt_cover.specs.Covers.{AreShort, IsCover}
use Rattle.lt_cover.specs.Long.{IsLong}
use Rattle.lt_cover.specs.declared.answers.CoverError.TheVariants as cover
use Rattle.lt_lines.specs.Lines.{behind_spaces, line, numbers_line}
use Rattle.lt_locate.specs.declared.answers.LocateError.{LocateError}
use Rattle.lt_locate.specs.declared.answers.LocateError.TheVariants as locate
use Rattle.lt_locate.specs.Endings.{inside, EndsWith}
use Rattle.lt_locate.specs.Refusals.{IsRefusal}
use Rattle.lt_model.specs.Atlases.{Classes}
use Rattle.lt_model.specs.Forms.{numbers_of_form}
use Rattle.lt_model.specs.Triangulations.{IsDelaunay}
use Rattle.lt_num.specs.Fractions.{Ratio, IsReduced}
use Rattle.lt_relevant.specs.Shortest.{IsShortest}
use Rattle.lt_text.specs.Texts.{class_numbers, triangulation_text}
use Rattle.ltypes.specs.declared.status.Cause.{Cause}
use Rattle.ltypes.specs.declared.status.Cause.TheVariants.{Memory, NotPositive, OnWall, Walked, LongEdge}
use Rattle.ltypes.specs.Changes.{Change}
use Rattle.ltypes.specs.Writings.{Answers}

-- ---- the walk

-- the walk of the form, of at most so many crossings, ends after i of them within the cone of t, which is its Delaunay triangulation
pub record IsLocated (d steps : ℕ) (q : List ℤ) (i : ℕ) (t : Classes) : Type 0 where
  pub numbers : length q ≡ numbers_of_form d
  pub ends : EndsWith d q steps i t inside
  pub delaunay : IsDelaunay d q t

-- the cause of a walk that ends elsewhere
abbrev pub cause_of_walk : LocateError → Cause
cause_of_walk (locate.NotPositive x) = NotPositive x
cause_of_walk (locate.OnWall facet) = OnWall facet
cause_of_walk (locate.Stopped after why) = Walked after why
cause_of_walk locate.Memory = Memory

-- the walk of the form ends elsewhere, for this cause, or memory was refused
abbrev pub IsUnlocated : ℕ → List ℤ → Cause → Type 0
IsUnlocated steps q cause = (d : ℕ) × (e : LocateError) × (length q ≡ numbers_of_form d) × IsRefusal d q steps e × (cause ≡ cause_of_walk e)

-- ---- what is written

-- the number of crossings
abbrev pub crossings_line : ℕ → List ℕ
crossings_line i = line (codes "located after") (pos i ∷ [])

-- the number of crossings, and the triangulation
abbrev pub locate_text : ℕ → Classes → List ℕ
locate_text i t = crossings_line i ++ triangulation_text t

-- a fraction
abbrev pub radius_line : Ratio → List ℕ
radius_line r = codes "radius" ++ behind_spaces (r.num ∷ []) ++ codes "/" ++ numbers_line (r.den ∷ [])

-- the number of crossings, the squared covering radius, and the member that has it
abbrev pub cover_text : ℕ → Ratio → List (List ℤ) → List ℕ
cover_text i r s = crossings_line i ++ radius_line r ++ line (codes "class") (class_numbers s)

-- the number of vectors, and a line for each
abbrev pub vectors_text : List (List ℤ) → List ℕ
vectors_text vs = line (codes "vectors") (pos (length vs) ∷ []) ++ flat_map numbers_line vs

-- the least value, and the vectors that have it
abbrev pub shortest_text : ℤ → List (List ℤ) → List ℕ
shortest_text least vs = line (codes "least") (least ∷ []) ++ vectors_text vs

-- ---- the answers

-- a text for the triangulation of the form, to which i crossings lead
abbrev pub IsOutput : (ℕ → ℕ → Classes → List ℕ → Type 0) → ℕ → List ℤ → List ℕ → Type 0
IsOutput IsText steps q text = (d : ℕ) × (i : ℕ) × (t : Classes) × IsLocated d steps q i t × IsText d i t text

-- there is no such text: the walk ends elsewhere, or the triangulation is refused, for this cause
abbrev pub HasNoOutput : (ℕ → Classes → Cause → Type 0) → ℕ → List ℤ → Cause → Type 0
HasNoOutput IsRefused steps q cause =
    IsUnlocated steps q cause ⊎ ((d : ℕ) × (i : ℕ) × (t : Classes) × IsLocated d steps q i t × IsRefused d t cause)

-- The answer of a command on a form. Done: the text was written. WriteFault: the count of out rose, and a front of the text was. Else nothing was
-- written, since there is no text, for the cause, or for want of memory.
abbrev pub AnswersForm : (ℕ → ℕ → Classes → List ℕ → Type 0) → (ℕ → Classes → Cause → Type 0) → ℕ → List ℤ → Change → Cause → Type 0
AnswersForm IsText IsRefused steps q out cause =
    Answers (IsOutput IsText steps q) out cause ⊎ (HasNoOutput IsRefused steps q cause × Appends out.old out.new [])

-- no triangulation is refused
abbrev pub refuses_none : ℕ → Classes → Cause → Type 0
refuses_none d t cause = ⊥

-- the first edge with a value above the span limit, and its value
abbrev pub IsTooLong : List ℤ → ℕ → Classes → Cause → Type 0
IsTooLong q d t (LongEdge x length) = IsLong d q t (cover.LongEdge x length)
IsTooLong q d t _ = ⊥

abbrev pub IsLocateText : ℕ → ℕ → Classes → List ℕ → Type 0
IsLocateText d i t text = text ≡ locate_text i t

-- the squared covering radius in lowest terms, and the first member that has it as its squared circumradius
abbrev pub IsCoverText : List ℤ → ℕ → ℕ → Classes → List ℕ → Type 0
IsCoverText q d i t text = (r : Ratio) × (k : ℕ) × IsReduced r × AreShort d q t × IsCover d q t r k × (text ≡ cover_text i r (get_or t k []))

abbrev pub IsShortestText : List ℤ → ℕ → ℕ → Classes → List ℕ → Type 0
IsShortestText q d i t text = (least : ℤ) × (vs : List (List ℤ)) × IsShortest d q least vs × (text ≡ shortest_text least vs)

abbrev pub AnswersLocate : ℕ → List ℤ → Change → Cause → Type 0
AnswersLocate steps q out cause = AnswersForm IsLocateText refuses_none steps q out cause

abbrev pub AnswersCover : ℕ → List ℤ → Change → Cause → Type 0
AnswersCover steps q out cause = AnswersForm (IsCoverText q) (IsTooLong q) steps q out cause

abbrev pub AnswersShortest : ℕ → List ℤ → Change → Cause → Type 0
AnswersShortest steps q out cause = AnswersForm (IsShortestText q) refuses_none steps q out cause
