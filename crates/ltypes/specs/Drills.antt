-- What a drill does, what it writes, and when each of its answers comes.
use Rattle.std.specs.Prelude.{◌≡◌, ◌⊎◌, ℕ, zero, suc, pos, ◌+◌, ◌*◌, ◌<◌, ◌≤◌, List, [], ◌∷◌, ◌++◌, codes, length}
use Rattle.std.specs.Io.KnownBytes.{Appends}
use Rattle.lt_io.specs.Causes.{Rose}
use Rattle.lt_io.specs.Bytes.{AppendsFront}
use Rattle.lt_lines.specs.Lines.{line}
use Rattle.lt_model.specs.Atlases.{Atlas, mark_at, place_at, event_at, cut, begin, one_if_open, one_if_crossed, count, undecided, stuck}
use Rattle.lt_model.specs.Limits.{input_limit}
use Rattle.lt_model.specs.Logs.{IsKept}
use Rattle.lt_model.specs.RightAtlases.{IsOpenAt}
use Rattle.lt_model.specs.Walls.{IsAcross}
use Rattle.lt_core.specs.Starts.{IsStarting}
use Rattle.lt_crew.specs.Runs.{IsSettledBelow}
use Rattle.lt_crew.specs.Settled.{IsSettled}
use Rattle.lt_drill.specs.States.{next_state, answer_at, drawn}
use Rattle.lt_read.specs.Laws.{resumed}
use Rattle.lt_read.specs.declared.refusals.Refusal.TheVariants.{TooLong}
use Rattle.lt_text.specs.Texts.{atlas_text}
use Rattle.ltypes.specs.Changes.{Change}
use Rattle.ltypes.specs.Runs.{IsRun}
use Rattle.ltypes.specs.Texts.{named}
use Rattle.ltypes.specs.declared.status.Cause.{Cause}
use Rattle.ltypes.specs.declared.status.Cause.TheVariants.{Done, Refused, Memory, WriteFault}

-- ---- the turns

-- how many of the first n positions of the queue are open
abbrev pub open_before : Atlas → ℕ → ℕ
open_before a zero = 0
open_before a (suc n) = open_before a n + one_if_open (mark_at a.marks (place_at a.queue n))

-- how many positions of the queue are open
abbrev pub open_positions : Atlas → ℕ
open_positions a = open_before a (length a.queue)

-- position p is the open one with the number r, counted from 0 in the order of the queue
pub record IsOpenNumber (a : Atlas) (r p : ℕ) : Type 0 where
  pub position : IsOpenAt a p
  pub number : open_before a p ≡ r

-- b is the atlas a after a turn, before which the generator's number was x: it settled the open position that is drawn
pub record IsTurn (x : ℕ) (a b : Atlas) : Type 0 where
  pub position : ℕ
  pub drawn : IsOpenNumber a (answer_at (next_state x) (open_positions a)) position
  pub settled : IsSettled a position b

-- event i of the log stands at the position that draw i + 1 names, of the open ones of the atlas that it met
abbrev pub IsDrawnAt : ℕ → Atlas → ℕ → Type 0
IsDrawnAt seed a i = IsOpenNumber (cut a i) (drawn (suc i) seed (open_positions (cut a i))) (event_at a.log i).position

-- The atlas a of a drill of dimension d after its turns: it is right and has a legal log, it begins with the starting atlas, and each
-- event stands at the position that the generator drew. The log has one event for each turn, or fewer where no mark is open.
pub record IsDrilled (d seed turns : ℕ) (a : Atlas) : Type 0 where
  pub dimension : a.dimension ≡ d
  pub kept : IsKept (IsAcross d) a
  pub begins : IsStarting d (begin a)
  pub drawn : (i : ℕ) → i < length a.log → IsDrawnAt seed a i
  pub ended : (length a.log ≡ turns) ⊎ ((length a.log < turns) × (undecided a.marks ≡ 0))

-- ---- the end

-- the text of a is no longer than an input may be, so it is read; b is the atlas of the run of one worker from the atlas that is read,
-- which has the entries and crosses of a, with all its positions below the step limit settled
pub record AreDrilled (d seed turns : ℕ) (a b : Atlas) : Type 0 where
  pub drilled : IsDrilled d seed turns a
  pub short : length (atlas_text a) ≤ input_limit d
  pub run : IsRun d 1 (2 * turns + 100) (resumed a) b
  pub settled : IsSettledBelow (2 * turns + 100) b

-- why the text of a wasn't read: it is too long, or memory was refused
abbrev pub IsUnread : ℕ → Atlas → Cause → Type 0
IsUnread d a (Refused TooLong) = input_limit d < length (atlas_text a)
IsUnread d a Memory = Unit {0}
IsUnread d a _ = ⊥

-- why there is nothing to write: the text of the atlas after the turns wasn't read, or memory was refused
abbrev pub IsUndrilled : (d seed turns : ℕ) → Cause → Type 0
IsUndrilled d seed turns cause = (cause ≡ Memory) ⊎ ((a : Atlas) × IsDrilled d seed turns a × IsUnread d a cause)

-- ---- what is written

-- the counts of the atlas after the turns, and of the entries that a scrambled image matched: all
abbrev pub start_text : Atlas → List ℕ
start_text a =
    named (codes "start types") (length a.entries) ++ line (codes " crossed") (pos (count one_if_crossed a.marks) ∷ [])
    ++ line (codes "matched") (pos (length a.entries) ∷ [])

-- the counts of the atlas at the end
abbrev pub end_text : Atlas → List ℕ
end_text b =
    named (codes "end types") (length b.entries) ++ named (codes " crossed") (count one_if_crossed b.marks)
    ++ named (codes " stuck") (stuck b.marks) ++ line (codes " undecided") (pos (undecided b.marks) ∷ [])

-- the four lines
abbrev pub drill_text : (d seed turns : ℕ) → Atlas → Atlas → List ℕ
drill_text d seed turns a b = line (codes "drill") (pos d ∷ pos seed ∷ pos turns ∷ []) ++ start_text a ++ end_text b

-- ---- the answers

-- Done: the four lines of the drill were written. WriteFault: the count rose, and a front of them was. Refused: the text of the atlas after
-- the turns is too long, and nothing was written. Memory: nothing was written. As for a run, the certificates of the atlases aren't
-- fixed, so the lines are those of atlases that are as stated.
abbrev pub AnswersDrill : (d seed turns : ℕ) → Change → Cause → Type 0
AnswersDrill d seed turns out Done =
    (a : Atlas) × (b : Atlas) × AreDrilled d seed turns a b × Appends out.old out.new (drill_text d seed turns a b)
AnswersDrill d seed turns out (Refused refusal) =
    (a : Atlas) × IsDrilled d seed turns a × IsUnread d a (Refused refusal) × Appends out.old out.new []
AnswersDrill d seed turns out Memory = Appends out.old out.new []
AnswersDrill d seed turns out WriteFault =
    Rose out.before out.now × ((a : Atlas) × (b : Atlas) × AreDrilled d seed turns a b × AppendsFront out.old out.new (drill_text d seed turns a b))
AnswersDrill d seed turns out _ = ⊥
