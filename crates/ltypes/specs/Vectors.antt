-- What the command on the vectors of an entry writes, and when each of its answers comes.
use Rattle.std.specs.Prelude.{◌≡◌, ℕ, ℤ, ◌<◌, ◌≤◌, List, [], length, true}
use Rattle.std.specs.Io.KnownBytes.{Appends}
use Rattle.lt_io.specs.Causes.{Rose}
use Rattle.lt_io.specs.Bytes.{AppendsFront}
use Rattle.lt_locate.specs.Edges.{AreEdges}
use Rattle.lt_model.specs.Atlases.{Atlas, entry_at}
use Rattle.lt_relevant.specs.Relevant.{AreRelevantOf}
use Rattle.ltypes.specs.declared.status.Cause.{Cause}
use Rattle.ltypes.specs.declared.status.Cause.TheVariants.{Done, Refused, Memory, ReadFault, WriteFault, NoEntry}
use Rattle.ltypes.specs.Beginnings.{IsBeginning, HasNoBeginning}
use Rattle.ltypes.specs.Changes.{Change}
use Rattle.ltypes.specs.Forms.{vectors_text}

-- the relevant vectors of entry k of the atlas, which are the edges of its triangulation
pub record AreOfEntry (d : ℕ) (a : Atlas) (k : ℕ) (vs : List (List ℤ)) : Type 0 where
  pub within : k < length a.entries
  pub edges : AreEdges d (entry_at a.entries k).triangulation vs
  pub relevant : AreRelevantOf d (entry_at a.entries k).triangulation vs

-- the text of these vectors, for the atlas that the source spells
abbrev pub IsVectorsText : ℕ → ℕ → Change → List ℕ → Type 0
IsVectorsText d k source text =
    (a : Atlas) × (vs : List (List ℤ)) × IsBeginning d true source a × AreOfEntry d a k vs × (text ≡ vectors_text vs)

-- Done: the vectors of the entry were written. WriteFault: the count of out rose, and a front of their text was. NoEntry: the atlas was read,
-- and has no more than so many entries. Refused and ReadFault: no atlas was read. Memory: as it says. Then nothing was written.
abbrev pub AnswersRelevant : ℕ → ℕ → Change → Change → Cause → Type 0
AnswersRelevant d k source out Done = (text : List ℕ) × IsVectorsText d k source text × Appends out.old out.new text
AnswersRelevant d k source out (Refused refusal) = HasNoBeginning d true source (Refused refusal) × Appends out.old out.new []
AnswersRelevant d k source out Memory = Appends out.old out.new []
AnswersRelevant d k source out ReadFault = HasNoBeginning d true source ReadFault × Appends out.old out.new []
AnswersRelevant d k source out WriteFault =
    Rose out.before out.now × ((text : List ℕ) × IsVectorsText d k source text × AppendsFront out.old out.new text)
AnswersRelevant d k source out (NoEntry entries) =
    ((a : Atlas) × IsBeginning d true source a × (entries ≡ length a.entries)) × (entries ≤ k) × Appends out.old out.new []
AnswersRelevant d k source out _ = ⊥
