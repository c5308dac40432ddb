-- What a command that prints one text answers, and the line of a cause on err.
use Rattle.std.specs.Prelude.{◌⊎◌, ◌≤◌, ℕ, List, []}
use Rattle.std.specs.Io.KnownBytes.{Appends}
use Rattle.lt_io.specs.Causes.{Rose}
use Rattle.lt_io.specs.Bytes.{AppendsFront}
use Rattle.ltypes.specs.declared.status.Cause.{Cause}
use Rattle.ltypes.specs.declared.status.Cause.TheVariants.{Done, Memory, WriteFault}
use Rattle.ltypes.specs.Changes.{Change}

-- the sink gained all of the line, or its count rose and it gained a front of it
pub record Reports (err : Change) (line : List ℕ) : Type 0 where
  pub later : err.before ≤ err.now
  pub gained : Appends err.old err.new line ⊎ (Rose err.before err.now × AppendsFront err.old err.new line)

-- Done: the whole output was written. Memory: nothing was. WriteFault: the count rose, and a front was.
abbrev pub Answers : (List ℕ → Type 0) → Change → Cause → Type 0
Answers IsText out Done = (text : List ℕ) × IsText text × Appends out.old out.new text
Answers IsText out Memory = Appends out.old out.new []
Answers IsText out WriteFault = Rose out.before out.now × ((text : List ℕ) × IsText text × AppendsFront out.old out.new text)
Answers IsText out _ = ⊥
