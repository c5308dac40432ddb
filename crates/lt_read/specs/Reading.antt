-- The atlas that is read from the bytes of a source, and why none is.
use Rattle.std.specs.Prelude.{◌≡◌, ℕ, ◌+◌, ◌≤◌, ◌<◌, List, length, map, take, ⊤}
use Rattle.std.specs.declared.option.Option.{Option}
use Rattle.std.specs.declared.option.Option.TheVariants.{Some, None}
use Rattle.std.specs.Io.KnownBytes.{Consumes, IsAtEnd}
use Rattle.lt_io.specs.Causes.{Rose}
use Rattle.lt_model.specs.Limits.{input_limit}
use Rattle.lt_model.specs.Atlases as model
use Rattle.lt_model.specs.RightAtlases.{IsRight, fresh_atlas}
use Rattle.lt_model.specs.Walls.{IsAcross}
use Rattle.lt_grammar.specs.Texts.{Entry, Text, text}
use Rattle.lt_grammar.specs.Ranges.{TextFits}
use Rattle.lt_read.specs.Refused.{entry_at, Lists, read_mark, IsFirstRefusal}
use Rattle.lt_read.specs.declared.refusals.ReadError.{ReadError}
use Rattle.lt_read.specs.declared.refusals.ReadError.TheVariants.{Failed, Refused, Memory}

-- ---- the atlas of a text

-- an entry has the cone, the origin and the listed classes of a text's
pub record IsEntryOf (version : ℕ) (e : Entry) (b : model.Entry) : Type 0 where
  pub cone : b.cone ≡ e.cone
  pub origin : b.origin ≡ e.origin
  pub listed : Lists version e.classes b.triangulation

-- the marks of each entry; wide and heavy ones are read as open
abbrev pub read_marks : Text → List (List model.Mark)
read_marks t = map (λ e. map (read_mark t.dimension) e.marks) t.entries

-- the atlas has the entries and marks of a text, an empty log, and the queue of the open facets
pub record IsAtlasOf (version : ℕ) (t : Text) (a : model.Atlas) : Type 0 where
  pub count : length a.entries ≡ length t.entries
  pub entries : (k : ℕ) → k < length t.entries → IsEntryOf version (entry_at t.entries k) (model.entry_at a.entries k)
  pub fresh : a ≡ fresh_atlas t.dimension a.entries (read_marks t)

-- The bytes, at most the limit of them, are a text of dimension d, and the atlas is that of the text, and right. It is right by the checks;
-- half of the classes tell the others in a right atlas alone.
pub record IsRead (version d : ℕ) (bytes : List ℕ) (a : model.Atlas) : Type 0 where
  pub value : Text
  pub within : length bytes ≤ input_limit d
  pub fits : TextFits value
  pub dimension : value.dimension ≡ d
  pub spelt : bytes ≡ text version value
  pub atlas : IsAtlasOf version value a
  pub right : IsRight (IsAcross a.dimension) a

-- ---- the bytes of a source

-- the source has these bytes left, where it tells them
abbrev pub HasLeft : Option (List ℕ) → List ℕ → Type 0
HasLeft None bytes = ⊤
HasLeft (Some told) bytes = told ≡ bytes

-- The source had these bytes left, and they were taken: all of them, or one more than the limit where there are more.
pub record AreTaken (old new : Option (List ℕ)) (bytes : List ℕ) (limit : ℕ) : Type 0 where
  pub left : HasLeft old bytes
  pub taken : Consumes old new (take (limit + 1) bytes)
  pub at_end : length bytes ≤ limit → IsAtEnd new

-- ---- the answers

-- the bytes that the source had left are read as the atlas
abbrev pub ReadsAtlas : ℕ → ℕ → Option (List ℕ) → Option (List ℕ) → model.Atlas → Type 0
ReadsAtlas version d old new a = (bytes : List ℕ) × AreTaken old new bytes (input_limit d) × IsRead version d bytes a

-- a fault of the source that was counted, or the first refusal of the bytes that it had left, or want of memory
abbrev pub IsWhyUnread : ℕ → ℕ → Option (List ℕ) → Option (List ℕ) → ℕ → ℕ → ReadError → Type 0
IsWhyUnread version d old new before now Failed = Rose before now
IsWhyUnread version d old new before now (Refused r) =
    (bytes : List ℕ) × AreTaken old new bytes (input_limit d) × IsFirstRefusal version d bytes r
IsWhyUnread version d old new before now Memory = ⊤
