-- The atlas that a command begins with, and why there is none.
use Rattle.std.specs.Prelude.{◌≡◌, ℕ, Bool, true, false}
use Rattle.lt_model.specs.Atlases.{Atlas}
use Rattle.lt_core.specs.Starts.{IsStarting}
use Rattle.lt_read.specs.Reading.{ReadsAtlas, IsWhyUnread}
use Rattle.lt_read.specs.declared.refusals.ReadError.{ReadError}
use Rattle.lt_read.specs.declared.refusals.ReadError.TheVariants as read
use Rattle.ltypes.specs.declared.status.Cause.{Cause}
use Rattle.ltypes.specs.declared.status.Cause.TheVariants.{Refused, Memory, ReadFault}
use Rattle.ltypes.specs.Changes.{Change}

-- the atlas that the source spells in a version of the text
abbrev pub IsSpelt : ℕ → ℕ → Change → Atlas → Type 0
IsSpelt version d source a = ReadsAtlas version d source.old source.new a

-- where the words say `--resume`, the atlas that the source spells, and else the starting one, and then the source is as it was
abbrev pub IsBeginning : ℕ → Bool → Change → Atlas → Type 0
IsBeginning d true source a = IsSpelt 2 d source a
IsBeginning d false source a = IsStarting d a × (source.new ≡ source.old)

-- the cause of an error of reading
abbrev pub cause_of_reading : ReadError → Cause
cause_of_reading read.Failed = ReadFault
cause_of_reading (read.Refused refusal) = Refused refusal
cause_of_reading read.Memory = Memory

-- the source wasn't read in a version of the text, for this cause
abbrev pub IsUnspelt : ℕ → ℕ → Change → Cause → Type 0
IsUnspelt version d source cause =
    (e : ReadError) × IsWhyUnread version d source.old source.new source.before source.now e × (cause ≡ cause_of_reading e)

-- there is no atlas to begin with: it wasn't read, for this cause, or memory for the starting one was refused
abbrev pub HasNoBeginning : ℕ → Bool → Change → Cause → Type 0
HasNoBeginning d true source cause = IsUnspelt 2 d source cause
HasNoBeginning d false source cause = cause ≡ Memory
