-- When each answer comes, and what out and err then hold.
use Rattle.std.specs.Prelude.{◌≡◌, ◌⊎◌, ℕ, List, [], Bool, true, false}
use Rattle.std.specs.Io.KnownBytes.{Appends}
use Rattle.lt_io.specs.Causes.{Rose}
use Rattle.lt_io.specs.Bytes.{AppendsFront}
use Rattle.lt_model.specs.Atlases.{Atlas}
use Rattle.lt_text.specs.Texts.{atlas_text}
use Rattle.lt_words.specs.declared.words.Command.{Command}
use Rattle.lt_words.specs.declared.words.Command.TheVariants.{Principal, Summary, Check, Run, Drill, Locate, Cover, Relevant, Shortest, Section, Merge, Convert}
use Rattle.lt_words.specs.Grammar.{InRange, Spells, FaultAt}
use Rattle.ltypes.specs.declared.status.Cause.{Cause}
use Rattle.ltypes.specs.declared.status.Cause.TheVariants.{Done, Words, Refused, Memory, ReadFault, WriteFault}
use Rattle.ltypes.specs.Beginnings.{IsSpelt, IsUnspelt, IsBeginning, HasNoBeginning}
use Rattle.ltypes.specs.Changes.{Change, IsUntouched}
use Rattle.ltypes.specs.Drills.{AnswersDrill}
use Rattle.ltypes.specs.Forms.{AnswersLocate, AnswersCover, AnswersShortest}
use Rattle.ltypes.specs.Merges.{AnswersMerge}
use Rattle.ltypes.specs.Outputs.{IsPrincipalText}
use Rattle.ltypes.specs.Runs.{AnswersRun}
use Rattle.ltypes.specs.Sections.{AnswersSection}
use Rattle.ltypes.specs.Summaries.{summary_text, check_text}
use Rattle.ltypes.specs.Vectors.{AnswersRelevant}
use Rattle.ltypes.specs.Writings.{Answers}

-- The answer of a command that prints a text of an atlas, where there is one. Done: the text was written. WriteFault: the count of out rose,
-- and a front was. Refused and ReadFault: there was no such atlas, and nothing was written. Memory: nothing was written.
abbrev pub AnswersFrom : (Atlas → Type 0) → (Cause → Type 0) → (Atlas → List ℕ) → Change → Cause → Type 0
AnswersFrom Has HasNone text out Done = (a : Atlas) × Has a × Appends out.old out.new (text a)
AnswersFrom Has HasNone text out (Refused refusal) = HasNone (Refused refusal) × Appends out.old out.new []
AnswersFrom Has HasNone text out Memory = Appends out.old out.new []
AnswersFrom Has HasNone text out ReadFault = HasNone ReadFault × Appends out.old out.new []
AnswersFrom Has HasNone text out WriteFault =
    Rose out.before out.now × ((a : Atlas) × Has a × AppendsFront out.old out.new (text a))
AnswersFrom Has HasNone text out _ = ⊥

-- a text of the atlas with which the command begins
abbrev pub AnswersOn : ℕ → Bool → (Atlas → List ℕ) → Change → Change → Cause → Type 0
AnswersOn d resume text source out cause =
    AnswersFrom (IsBeginning d resume source) (HasNoBeginning d resume source) text out cause

-- the text, in version 2, of the atlas that the source spells in version 1
abbrev pub AnswersConvert : ℕ → Change → Change → Cause → Type 0
AnswersConvert d source out cause = AnswersFrom (IsSpelt 1 d source) (IsUnspelt 1 d source) atlas_text out cause

-- how each command answers
abbrev pub AnswersCommand : Command → Change → Change → Cause → Type 0
AnswersCommand (Principal d) source out cause = Answers (IsPrincipalText d) out cause
AnswersCommand (Summary d resume) source out cause = AnswersOn d resume summary_text source out cause
AnswersCommand (Check d) source out cause = AnswersOn d true check_text source out cause
AnswersCommand (Run d workers steps resume) source out cause = AnswersRun d workers steps resume source out cause
AnswersCommand (Drill d seed turns) source out cause = AnswersDrill d seed turns out cause
AnswersCommand (Locate steps q) source out cause = AnswersLocate steps q out cause
AnswersCommand (Cover steps q) source out cause = AnswersCover steps q out cause
AnswersCommand (Relevant d entry) source out cause = AnswersRelevant d entry source out cause
AnswersCommand (Shortest steps q) source out cause = AnswersShortest steps q out cause
AnswersCommand (Section steps forms) source out cause = AnswersSection steps forms.items out cause
AnswersCommand (Merge d) source out cause = AnswersMerge d source out cause
AnswersCommand (Convert d) source out cause = AnswersConvert d source out cause

-- whether a command reads the source
abbrev pub reads : Command → Bool
reads (Principal d) = false
reads (Summary d resume) = resume
reads (Check d) = true
reads (Run d workers steps resume) = resume
reads (Drill d seed turns) = false
reads (Locate steps q) = false
reads (Cover steps q) = false
reads (Relevant d entry) = true
reads (Shortest steps q) = false
reads (Section steps forms) = false
reads (Merge d) = true
reads (Convert d) = true

-- The words are those of a command, whose answer it is, and which reads the source or leaves it as it was; or they are outside the
-- grammar, the answer is the place of their first fault, nothing was written, and the source is as it was.
abbrev pub AnswersWords : List (List ℕ) → Change → Change → Cause → Type 0
AnswersWords words source out cause =
    ((c : Command) × InRange c × Spells c words × AnswersCommand c source out cause × (reads c ≡ false → IsUntouched source))
    ⊎ ((place : ℕ) × FaultAt words place × (cause ≡ Words place) × Appends out.old out.new [] × IsUntouched source)
