-- What the command that merges two atlases writes, and when each of its answers comes.
use Rattle.std.specs.Prelude.{◌≡◌, ◌⊎◌, ℕ, ◌-◌, ◌*◌, ◌<◌, ◌≤◌, List, [], ◌∷◌, ◌++◌, codes, length, get_or, take, drop}
use Rattle.std.specs.Io.KnownBytes.{Appends}
use Rattle.lt_core.specs.Marks.{mark_of}
use Rattle.lt_io.specs.Causes.{Rose}
use Rattle.lt_io.specs.Whole.{ReadsAll, WhyNotAll}
use Rattle.lt_io.specs.declared.source.ReadAllError.TheVariants as read
use Rattle.lt_merge.specs.Merged.{IsMerged}
use Rattle.lt_merge.specs.Refusals.{IsStuckAt}
use Rattle.lt_model.specs.Atlases.{Atlas, Mark}
use Rattle.lt_model.specs.Limits.{input_limit}
use Rattle.lt_read.specs.Reading.{IsRead}
use Rattle.lt_read.specs.Refused.{IsFirstRefusal}
use Rattle.lt_read.specs.declared.refusals.Refusal.{Refusal}
use Rattle.lt_read.specs.declared.refusals.Refusal.TheVariants.{TooLong}
use Rattle.lt_text.specs.Texts.{atlas_text}
use Rattle.ltypes.specs.declared.status.Cause.{Cause}
use Rattle.ltypes.specs.declared.status.Cause.TheVariants.{Memory, ReadFault, MergeRefused, MergeStuck}
use Rattle.ltypes.specs.Changes.{Change}
use Rattle.ltypes.specs.Writings.{Answers}

-- ---- the two parts of the input

-- a line that is exactly `end` ends at the place, with its line feed
pub record IsEndAt (bytes : List ℕ) (place : ℕ) : Type 0 where
  pub within : place ≤ length bytes
  pub room : 4 ≤ place
  pub line : take 4 (drop (place - 4) bytes) ≡ codes "end" ++ 10 ∷ []
  pub starts : (place ≡ 4) ⊎ (get_or bytes (place - 5) 0 ≡ 10)

-- the first part ends behind the first line that is exactly `end`, or where there is none at the end of the input
abbrev pub IsDivision : List ℕ → ℕ → Type 0
IsDivision bytes place =
    (IsEndAt bytes place × ((p : ℕ) → p < place → IsEndAt bytes p → ⊥)) ⊎ ((place ≡ length bytes) × ((p : ℕ) → IsEndAt bytes p → ⊥))

-- the parts, divided at the place, are read as these atlases
pub record AreParts (d : ℕ) (bytes : List ℕ) (place : ℕ) (s t : Atlas) : Type 0 where
  pub division : IsDivision bytes place
  pub first : IsRead 2 d (take place bytes) s
  pub second : IsRead 2 d (drop place bytes) t

-- ---- what merging the parts gives

-- the parts are atlases, and a is what they are together
abbrev pub IsMergedOf : ℕ → List ℕ → Atlas → Type 0
IsMergedOf d bytes a = (place : ℕ) × (s : Atlas) × (t : Atlas) × AreParts d bytes place s t × IsMerged s t a

-- the parts are atlases, and this entry of the second has no place; it lies behind a facet with this mark
abbrev pub IsStuckIn : ℕ → List ℕ → ℕ → Mark → Type 0
IsStuckIn d bytes entry m = (place : ℕ) × (s : Atlas) × (t : Atlas) × (a : Atlas) × AreParts d bytes place s t × IsStuckAt s t entry m a

-- the first part is refused, or the first is read and the second is refused
abbrev pub IsRefusedIn : ℕ → List ℕ → ℕ → Refusal → Type 0
IsRefusedIn d bytes part refusal =
    ((part ≡ 1) × ((place : ℕ) × IsDivision bytes place × IsFirstRefusal 2 d (take place bytes) refusal))
    ⊎ ((part ≡ 2) × ((place : ℕ) × (s : Atlas) × IsDivision bytes place × IsRead 2 d (take place bytes) s × IsFirstRefusal 2 d (drop place bytes) refusal))

-- why the parts were not merged
abbrev pub IsUnmerged : ℕ → List ℕ → Cause → Type 0
IsUnmerged d bytes (MergeRefused part refusal) = IsRefusedIn d bytes part refusal
IsUnmerged d bytes (MergeStuck entry mark) = IsStuckIn d bytes entry (mark_of mark)
IsUnmerged d bytes Memory = Unit {0}
IsUnmerged d bytes _ = ⊥

-- why a part was not read
abbrev pub IsPartUnread : ℕ → ℕ → List ℕ → Cause → Type 0
IsPartUnread d part bytes (MergeRefused p refusal) = (p ≡ part) × IsFirstRefusal 2 d bytes refusal
IsPartUnread d part bytes Memory = Unit {0}
IsPartUnread d part bytes _ = ⊥

-- ---- the answers

-- all bytes that the source had left, no more than two texts may have
abbrev pub IsInput : ℕ → Change → List ℕ → Type 0
IsInput d source bytes = ReadsAll source.old source.new bytes (2 * input_limit d)

-- why there is no input: a fault of the source that was counted, or it is too long, or memory was refused
abbrev pub HasNoInput : ℕ → Change → Cause → Type 0
HasNoInput d source ReadFault = Rose source.before source.now
HasNoInput d source (MergeRefused part refusal) =
    (part ≡ 0) × (refusal ≡ TooLong) × WhyNotAll source.old source.new source.before source.now (2 * input_limit d) read.TooLong
HasNoInput d source Memory = Unit {0}
HasNoInput d source _ = ⊥

-- the text of what the two atlases of the input are together
abbrev pub IsMergedText : ℕ → Change → List ℕ → Type 0
IsMergedText d source text = (bytes : List ℕ) × (a : Atlas) × IsInput d source bytes × IsMergedOf d bytes a × (text ≡ atlas_text a)

-- there is no such text, for this cause
abbrev pub HasNoMerged : ℕ → Change → Cause → Type 0
HasNoMerged d source cause = HasNoInput d source cause ⊎ ((bytes : List ℕ) × IsInput d source bytes × IsUnmerged d bytes cause)

-- Done: the text was written. WriteFault: the count of out rose, and a front of the text was. Else nothing was written, since there is no
-- text, for the cause, or for want of memory.
abbrev pub AnswersMerge : ℕ → Change → Change → Cause → Type 0
AnswersMerge d source out cause = Answers (IsMergedText d source) out cause ⊎ (HasNoMerged d source cause × Appends out.old out.new [])
