-- Completeness: how each command ends where the words are accepted and no count of faults rose.
use Rattle.std.specs.Prelude.{◌≡◌, ◌⊎◌, ℕ, ℤ, ◌<◌, ◌≤◌, List, [], length, get_or, Bool, true}
use Rattle.std.specs.Io.KnownBytes.{Appends}
use Rattle.lt_io.specs.Causes.{Rose}
use Rattle.lt_crew.specs.Laws.{MeetsNoLimit}
use Rattle.lt_model.specs.Atlases.{Classes, Atlas, mark_at, place_at, event_at, cut}
use Rattle.lt_model.specs.Limits.{input_limit}
use Rattle.lt_model.specs.Logs.{IsLegal}
use Rattle.lt_model.specs.Walls.{IsAcross}
use Rattle.lt_read.specs.declared.refusals.Refusal.{Refusal}
use Rattle.lt_read.specs.declared.refusals.Refusal.TheVariants.{TooLong}
use Rattle.lt_text.specs.Texts.{atlas_text}
use Rattle.lt_words.specs.declared.words.Command.{Command}
use Rattle.lt_words.specs.declared.words.Command.TheVariants.{Principal, Summary, Check, Run, Drill, Locate, Cover, Relevant, Shortest, Section, Merge, Convert}
use Rattle.lt_words.specs.Grammar.{InRange, Spells}
use Rattle.ltypes.specs.declared.status.Cause.{Cause}
use Rattle.ltypes.specs.declared.status.Cause.TheVariants.{Finished, Done, Refused, Memory, NoEntry}
use Rattle.ltypes.specs.Beginnings.{IsBeginning, IsUnspelt, HasNoBeginning}
use Rattle.ltypes.specs.Changes.{Change}
use Rattle.ltypes.specs.Drills.{IsDrilled}
use Rattle.ltypes.specs.Forms.{HasNoOutput, refuses_none, IsTooLong}
use Rattle.ltypes.specs.Merges.{HasNoMerged}
use Rattle.ltypes.specs.Runs.{IsRunHere}
use Rattle.ltypes.specs.Sections.{IsTooHeavy}
use Rattle.ltypes.specs.Texts.{code_of}

-- the count of faults didn't rise, and doesn't stand at the last value of a `u64`, from where it couldn't
abbrev pub NotRisen : ℕ → ℕ → Type 0
NotRisen before now = Rose before now → ⊥

-- the words ask for the atlas of the source, which isn't accepted, for the reason that is told
abbrev pub IsUnaccepted : ℕ → Bool → Change → Cause → Type 0
IsUnaccepted d resume source cause = (r : Refusal) × (cause ≡ Refused r) × HasNoBeginning d resume source (Refused r)

-- ---- a run

-- Position p of the queue is Cross, or Wide or Heavy with its cause: the mark there is that of the event at this position, which is legal at
-- the atlas that it met. No event with an open mark is, and one with another mark has its cause (`IsCause`).
pub record IsDecided (d : ℕ) (a : Atlas) (p : ℕ) : Type 0 where
  pub event : ℕ
  pub logged : event < length a.log
  pub position : (event_at a.log event).position ≡ p
  pub mark : mark_at a.marks (place_at a.queue p) ≡ (event_at a.log event).mark
  pub legal : IsLegal (IsAcross d) (cut a event) a.entries (event_at a.log event)

-- An atlas of a run was written, and each position below the step limit is Cross, or Wide or Heavy with its cause. If besides each triangulation
-- across a facet of an entry of it is within the limits of span and weight, and its queue isn't longer than the step limit, the answer is Finished.
pub record IsWholeRun (d workers steps : ℕ) (resume : Bool) (source out : Change) (cause : Cause) : Type 0 where
  pub atlas : Atlas
  pub run : IsRunHere d workers steps resume source atlas
  pub written : Appends out.old out.new (atlas_text atlas)
  pub decided : (p : ℕ) → p < length atlas.queue → p < steps → IsDecided d atlas p
  pub finished : MeetsNoLimit atlas → length atlas.queue ≤ steps → cause ≡ Finished

abbrev pub EndsRun : ℕ → ℕ → ℕ → Bool → Change → Change → Cause → Type 0
EndsRun d workers steps resume source out cause =
    (cause ≡ Memory) ⊎ IsUnaccepted d resume source cause ⊎ IsWholeRun d workers steps resume source out cause

-- ---- the other commands

abbrev pub IsDoneOrMemory : Cause → Type 0
IsDoneOrMemory cause = (cause ≡ Done) ⊎ (cause ≡ Memory)

-- a command that prints a text of the atlas with which it begins
abbrev pub EndsOn : ℕ → Bool → Change → Cause → Type 0
EndsOn d resume source cause = IsDoneOrMemory cause ⊎ IsUnaccepted d resume source cause

-- a drill is refused as too long exactly where its own text, that of the atlas after the turns, is longer than the input limit
pub record IsWholeDrill (d seed turns : ℕ) (cause : Cause) : Type 0 where
  pub atlas : Atlas
  pub drilled : IsDrilled d seed turns atlas
  pub short : length (atlas_text atlas) ≤ input_limit d → cause ≡ Done
  pub long : input_limit d < length (atlas_text atlas) → cause ≡ Refused TooLong

abbrev pub EndsDrill : (d seed turns : ℕ) → Cause → Type 0
EndsDrill d seed turns cause = (cause ≡ Memory) ⊎ IsWholeDrill d seed turns cause

-- a command on a form ends otherwise only where its walk ends elsewhere or its triangulation is refused, for this cause
abbrev pub EndsForm : (ℕ → Classes → Cause → Type 0) → ℕ → List ℤ → Cause → Type 0
EndsForm IsRefused steps q cause = IsDoneOrMemory cause ⊎ HasNoOutput IsRefused steps q cause

-- the atlas was read, and has no entry k
abbrev pub IsNoEntry : ℕ → ℕ → Change → Cause → Type 0
IsNoEntry d k source cause = (a : Atlas) × IsBeginning d true source a × (length a.entries ≤ k) × (cause ≡ NoEntry (length a.entries))

abbrev pub EndsRelevant : ℕ → ℕ → Change → Cause → Type 0
EndsRelevant d k source cause = EndsOn d true source cause ⊎ IsNoEntry d k source cause

-- there is no text of two merged atlases, for a cause with a code from 7 on
abbrev pub EndsMerge : ℕ → Change → Cause → Type 0
EndsMerge d source cause = IsDoneOrMemory cause ⊎ ((7 ≤ code_of cause) × HasNoMerged d source cause)

-- the source spells no atlas in version 1, for the reason that is told
abbrev pub EndsConvert : ℕ → Change → Cause → Type 0
EndsConvert d source cause =
    IsDoneOrMemory cause ⊎ ((r : Refusal) × (cause ≡ Refused r) × IsUnspelt 1 d source (Refused r))

-- ---- all commands

-- how each command ends
abbrev pub Ends : Command → Change → Change → Cause → Type 0
Ends (Principal d) source out cause = IsDoneOrMemory cause
Ends (Summary d resume) source out cause = EndsOn d resume source cause
Ends (Check d) source out cause = EndsOn d true source cause
Ends (Run d workers steps resume) source out cause = EndsRun d workers steps resume source out cause
Ends (Drill d seed turns) source out cause = EndsDrill d seed turns cause
Ends (Locate steps q) source out cause = EndsForm refuses_none steps q cause
Ends (Cover steps q) source out cause = EndsForm (IsTooLong q) steps q cause
Ends (Relevant d entry) source out cause = EndsRelevant d entry source cause
Ends (Shortest steps q) source out cause = EndsForm refuses_none steps q cause
Ends (Section steps forms) source out cause = EndsForm (IsTooHeavy forms.items) steps (get_or forms.items 0 []) cause
Ends (Merge d) source out cause = EndsMerge d source cause
Ends (Convert d) source out cause = EndsConvert d source cause

-- where the words are accepted, as those of a command, it ends so
abbrev pub EndsWords : List (List ℕ) → Change → Change → Cause → Type 0
EndsWords words source out cause = (c : Command) → InRange c → Spells c words → Ends c source out cause
