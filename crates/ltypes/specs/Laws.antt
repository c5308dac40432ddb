-- Laws on what commands write.
use Rattle.std.specs.Prelude.{◌≡◌, ◌≤◌, ℕ, List, Bool, length}
use Rattle.lt_model.specs.Atlases.{Atlas}
use Rattle.lt_model.specs.Limits.{input_limit}
use Rattle.lt_model.specs.RightAtlases.{IsClosedAtlas}
use Rattle.lt_core.specs.Starts.{IsStarting}
use Rattle.lt_crew.specs.Laws.{MeetsNoLimit}
use Rattle.lt_crew.specs.Runs.{IsSettledBelow}
use Rattle.lt_read.specs.Reading.{IsRead}
use Rattle.lt_read.specs.Laws.{IsResumed}
use Rattle.lt_text.specs.Texts.{atlas_text}
use Rattle.lt_words.specs.Grammar.{IsDimension}
use Rattle.ltypes.specs.Changes.{Change}
use Rattle.ltypes.specs.Outputs.{IsPrincipalText}
use Rattle.ltypes.specs.Summaries.{summary_text, check_text}
use Rattle.ltypes.specs.Runs.{IsRunHere}

-- in each dimension there is one principal triangulation to print
abbrev pub OnePrincipalText : Type 0
OnePrincipalText = (d : ℕ) (x y : List ℕ) → IsPrincipalText d x → IsPrincipalText d y → x ≡ y

-- and one summary of the starting atlas
abbrev pub OneStartingSummary : Type 0
OneStartingSummary = (d : ℕ) (a b : Atlas) → IsStarting d a → IsStarting d b → summary_text a ≡ summary_text b

-- the bytes that are read have one summary, and one line of totals
abbrev pub OneSummaryOfBytes : Type 0
OneSummaryOfBytes =
    (d : ℕ) (bytes : List ℕ) (a b : Atlas) → IsRead 2 d bytes a → IsRead 2 d bytes b →
    (summary_text a ≡ summary_text b) × (check_text a ≡ check_text b)

-- a run that came to its end, met no triangulation above a limit, and whose queue is not longer than the step limit, ends with every facet crossed
abbrev pub NarrowRunsFinish : Type 0
NarrowRunsFinish =
    (d workers steps : ℕ) (resume : Bool) (source : Change) (a : Atlas) → IsRunHere d workers steps resume source a → IsSettledBelow steps a
    → length a.queue ≤ steps → MeetsNoLimit a → IsClosedAtlas a

-- the text of an atlas of a run can be resumed: it is accepted, and read as the atlas with its entries and crosses
abbrev pub RunsAreResumed : Type 0
RunsAreResumed =
    (d workers steps : ℕ) (resume : Bool) (source : Change) (a : Atlas) → IsDimension d → IsRunHere d workers steps resume source a
    → length a.entries ≤ 100001 → length (atlas_text a) ≤ input_limit d → IsResumed 2 a

-- bytes of version 1 have one text of version 2
abbrev pub OneConversion : Type 0
OneConversion = (d : ℕ) (bytes : List ℕ) (a b : Atlas) → IsRead 1 d bytes a → IsRead 1 d bytes b → atlas_text a ≡ atlas_text b
