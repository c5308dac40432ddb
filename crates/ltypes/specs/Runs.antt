-- What a run writes, and when each of its answers comes.
use Rattle.std.specs.Prelude.{◌≡◌, ◌⊎◌, ℕ, ◌+◌, ◌<◌, [], length, Bool, true, false}
use Rattle.std.specs.Io.KnownBytes.{Appends}
use Rattle.lt_io.specs.Causes.{Rose}
use Rattle.lt_io.specs.Bytes.{AppendsFront}
use Rattle.lt_model.specs.Atlases.{Classes, Atlas, begin, entry_at, undecided, stuck}
use Rattle.lt_model.specs.RightAtlases.{IsClosedAtlas}
use Rattle.lt_model.specs.Logs.{IsKept}
use Rattle.lt_model.specs.Reached.{IsReached}
use Rattle.lt_model.specs.Walls.{IsAcross}
use Rattle.lt_core.specs.Reached.{IsOneEntry}
use Rattle.lt_crew.specs.Runs.{AreInOrder, AreBelow, AreSettled, IsSettledBelow}
use Rattle.lt_text.specs.Texts.{atlas_text}
use Rattle.ltypes.specs.Beginnings.{IsBeginning, HasNoBeginning}
use Rattle.ltypes.specs.Changes.{Change}
use Rattle.ltypes.specs.declared.status.Cause.{Cause}
use Rattle.ltypes.specs.declared.status.Cause.TheVariants.{Finished, Unfinished, Refused, Memory, ReadFault, WriteFault}

-- The atlas a of a run of dimension d from the atlas s: it is right and has a legal log, it begins with s, and each event of its log
-- stands at a position below the step limit and is what settling its position gives: a mark names the first entry onto which a matrix
-- carries what lies beyond the facet, by the first such matrix. Where one worker runs, event i stands at position i.
pub record IsRun (d workers steps : ℕ) (s a : Atlas) : Type 0 where
  pub dimension : a.dimension ≡ d
  pub kept : IsKept (IsAcross d) a
  pub begins : begin a ≡ s
  pub below : AreBelow steps a.log
  pub settled : AreSettled a
  pub order : workers ≡ 1 → AreInOrder a.log

-- The entries are exactly one member of each unimodular class that facet crossings reach from the principal
-- triangulation: each entry is reached, and each reached triangulation is equivalent to exactly one entry.
pub record IsComplete (d : ℕ) (a : Atlas) : Type 0 where
  pub closed : IsClosedAtlas a
  pub reached : (k : ℕ) → k < length a.entries → IsReached d (entry_at a.entries k).triangulation
  pub one : (t : Classes) → IsReached d t → (k : ℕ) × IsOneEntry d a.entries t k

-- s is the atlas with which the command begins, and a is that of a run from it
pub record IsRunHere (d workers steps : ℕ) (resume : Bool) (source : Change) (a : Atlas) : Type 0 where
  pub start : Atlas
  pub beginning : IsBeginning d resume source start
  pub run : IsRun d workers steps start a

-- Finished: the run is whole and complete, and its text was written. Unfinished: it is whole, some facet isn't crossed, the
-- numbers count the wide and heavy marks and the open ones, and its text was written. Memory: nothing was written, or the
-- text of an atlas of a run. WriteFault: the count rose, and a front of such a text was written. Refused and ReadFault: there was no
-- atlas to begin with, and nothing was written.
abbrev pub AnswersRun : ℕ → ℕ → ℕ → Bool → Change → Change → Cause → Type 0
AnswersRun d workers steps resume source out Finished =
    (a : Atlas) × IsRunHere d workers steps resume source a × IsSettledBelow steps a × IsComplete d a × Appends out.old out.new (atlas_text a)
AnswersRun d workers steps resume source out (Unfinished s o) =
    (a : Atlas) × IsRunHere d workers steps resume source a × IsSettledBelow steps a × (s ≡ stuck a.marks) × (o ≡ undecided a.marks)
    × (IsClosedAtlas a → ⊥) × Appends out.old out.new (atlas_text a)
AnswersRun d workers steps resume source out (Refused refusal) = HasNoBeginning d resume source (Refused refusal) × Appends out.old out.new []
AnswersRun d workers steps resume source out Memory =
    Appends out.old out.new [] ⊎ ((a : Atlas) × IsRunHere d workers steps resume source a × Appends out.old out.new (atlas_text a))
AnswersRun d workers steps resume source out ReadFault = HasNoBeginning d resume source ReadFault × Appends out.old out.new []
AnswersRun d workers steps resume source out WriteFault =
    Rose out.before out.now × ((a : Atlas) × IsRunHere d workers steps resume source a × AppendsFront out.old out.new (atlas_text a))
AnswersRun d workers steps resume source out _ = ⊥

-- How a run that ended with the atlas a, or for want of memory, is told: out gained the text of a, or its count rose and it gained a
-- front of it.
abbrev pub IsEnd : Bool → Atlas → Change → Cause → Type 0
IsEnd memory a out Finished = (memory ≡ false) × (undecided a.marks + stuck a.marks ≡ 0) × Appends out.old out.new (atlas_text a)
IsEnd memory a out (Unfinished s o) =
    (memory ≡ false) × (0 < undecided a.marks + stuck a.marks) × (s ≡ stuck a.marks) × (o ≡ undecided a.marks) × Appends out.old out.new (atlas_text a)
IsEnd memory a out Memory = (memory ≡ true) × Appends out.old out.new (atlas_text a)
IsEnd memory a out WriteFault = Rose out.before out.now × AppendsFront out.old out.new (atlas_text a)
IsEnd memory a out _ = ⊥
