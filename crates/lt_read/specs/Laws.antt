-- Laws on reading.
use Rattle.std.specs.Prelude.{◌≡◌, ℕ, ◌≤◌, List, map, length}
use Rattle.lt_model.specs.Limits.{input_limit}
use Rattle.lt_model.specs.Walls.{IsAcross}
use Rattle.lt_model.specs.Atlases.{Mark, open_mark, cross, wide, heavy, Atlas, stuck, begin}
use Rattle.lt_model.specs.RightAtlases.{fresh_atlas}
use Rattle.lt_model.specs.Logs.{IsKept}
use Rattle.lt_core.specs.Starts.{IsStarting}
use Rattle.lt_grammar.specs.Ranges.{TextFits}
use Rattle.lt_text.specs.Values.{IsVersion, value_of, text_in}
use Rattle.lt_read.specs.Refused.{IsFirstRefusal}
use Rattle.lt_read.specs.Reading.{IsRead}
use Rattle.lt_read.specs.declared.refusals.Refusal.{Refusal}

-- ---- what bytes are read as

-- bytes are refused for one reason at most, in each version
abbrev pub BytesHaveOneRefusal : Type 0
BytesHaveOneRefusal =
    (version d : ℕ) (bytes : List ℕ) (r s : Refusal) → IsVersion version →
    IsFirstRefusal version d bytes r → IsFirstRefusal version d bytes s → r ≡ s

-- the bytes that are read as an atlas aren't refused
abbrev pub WhatIsReadIsNotRefused : Type 0
WhatIsReadIsNotRefused =
    (version d : ℕ) (bytes : List ℕ) (a : Atlas) (r : Refusal) → IsVersion version →
    IsRead version d bytes a → IsFirstRefusal version d bytes r → ⊥

-- bytes are read as one atlas at most
abbrev pub BytesAreReadOnce : Type 0
BytesAreReadOnce =
    (version d : ℕ) (bytes : List ℕ) (a b : Atlas) → IsVersion version →
    IsRead version d bytes a → IsRead version d bytes b → a ≡ b

-- ---- resumption

-- a mark as it is read back: all but crosses are open
abbrev pub reopened : Mark → Mark
reopened open_mark = open_mark
reopened (cross k u) = cross k u
reopened (wide s n) = open_mark
reopened (heavy n) = open_mark

-- the atlas with the same entries and crosses, all other marks open, and an empty log
abbrev pub resumed : Atlas → Atlas
resumed a = fresh_atlas a.dimension a.entries (map (map reopened) a.marks)

-- the text of the atlas in a version is in its ranges, isn't refused, and is read as the resumed atlas alone
pub record IsResumed (version : ℕ) (a : Atlas) : Type 0 where
  pub fits : TextFits (value_of version a)
  pub accepted : (r : Refusal) → IsFirstRefusal version a.dimension (text_in version a) r → ⊥
  pub read : IsRead version a.dimension (text_in version a) (resumed a)
  pub only : (b : Atlas) → IsRead version a.dimension (text_in version a) b → b ≡ resumed a

-- an atlas of a run: what it keeps, and it began without wide and heavy marks
pub record IsOfRun (a : Atlas) : Type 0 where
  pub low : 2 ≤ a.dimension
  pub high : a.dimension ≤ 6
  pub kept : IsKept (IsAcross a.dimension) a
  pub began : stuck (begin a).marks ≡ 0

-- so a run begins: the starting atlas has no such marks, nor has one that is read
abbrev pub StartsHaveNoStuckMarks : Type 0
StartsHaveNoStuckMarks = (d : ℕ) (a : Atlas) → IsStarting d a → stuck a.marks ≡ 0

abbrev pub WhatIsReadHasNoStuckMarks : Type 0
WhatIsReadHasNoStuckMarks =
    (version d : ℕ) (bytes : List ℕ) (a : Atlas) → IsRead version d bytes a → stuck a.marks ≡ 0

-- the text of an atlas of a run can be resumed in each version, where it has at most 100,001 entries and isn't too long
abbrev pub AtlasesAreResumed : Type 0
AtlasesAreResumed =
    (version : ℕ) (a : Atlas) → IsVersion version → IsOfRun a → length a.entries ≤ 100001 →
    length (text_in version a) ≤ input_limit a.dimension → IsResumed version a
