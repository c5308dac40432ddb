-- The words of a command one by one.
use Rattle.std.specs.Prelude.{◌≡◌, ◌⊎◌, ℕ, ℤ, ◌+◌, ◌<◌, List, [], ◌++◌, length, map, get_or, codes}
use Rattle.std.specs.Fmt.{decimal, signed_decimal}
use Rattle.std.specs.List.{All}
use Rattle.lt_lattice.specs.Ranges.{IsWithin}
use Rattle.lt_words.specs.declared.words.Kind.{Kind}
use Rattle.lt_words.specs.declared.words.Kind.TheVariants as kind
use Rattle.lt_words.specs.declared.options.Part.{Part}
use Rattle.lt_words.specs.declared.options.Part.TheVariants as part
use Rattle.lt_words.specs.Grammar.{IsDimension, IsInSetting, setting_word}

-- the word that tells the kind of a command
abbrev pub kind_word : Kind → List ℕ
kind_word kind.Principal = codes "principal"
kind_word kind.Summary = codes "summary"
kind_word kind.Check = codes "check"
kind_word kind.Run = codes "run"
kind_word kind.Drill = codes "drill"
kind_word kind.Locate = codes "locate"
kind_word kind.Cover = codes "cover"
kind_word kind.Relevant = codes "relevant"
kind_word kind.Shortest = codes "shortest"
kind_word kind.Section = codes "section"
kind_word kind.Merge = codes "merge"
kind_word kind.Convert = codes "convert"

-- a command with a dimension and nothing else
abbrev pub IsAlone : Kind → Type 0
IsAlone k = (k ≡ kind.Principal) ⊎ (k ≡ kind.Check) ⊎ (k ≡ kind.Merge) ⊎ (k ≡ kind.Convert)

-- a command with the number of crossings to a form
abbrev pub IsOnForm : Kind → Type 0
IsOnForm k = (k ≡ kind.Locate) ⊎ (k ≡ kind.Cover) ⊎ (k ≡ kind.Shortest)

-- the words begin with these
abbrev pub HasFront : List (List ℕ) → List (List ℕ) → Type 0
HasFront ws front = (rest : List (List ℕ)) × (ws ≡ front ++ rest)

-- this word stands at the place
abbrev pub HasWord : List (List ℕ) → ℕ → List ℕ → Type 0
HasWord ws place w = (place < length ws) × (get_or ws place [] ≡ w)

-- these words stand from the place on
abbrev pub HasWords : List (List ℕ) → ℕ → List (List ℕ) → Type 0
HasWords ws place vs = (i : ℕ) → i < length vs → HasWord ws (place + i) (get_or vs i [])

-- Numbers stand from `start` on, but not so many: at the place stands none.
pub record IsCut (ws : List (List ℕ)) (start count most place : ℕ) : Type 0 where
  pub numbers : List ℤ
  pub few : length numbers < count
  pub within : All (IsWithin most) numbers
  pub words : HasWords ws start (map signed_decimal numbers)
  pub at : place ≡ start + length numbers
  pub none : (z : ℤ) → IsWithin most z → HasWord ws place (signed_decimal z) → ⊥

-- ---- parts

-- the word of a part
abbrev pub part_word : Part → List ℕ
part_word (part.Dimension d) = decimal d
part_word part.Resume = codes "--resume"
part_word part.Ending = codes "--"
part_word (part.Named s) = setting_word s
part_word (part.Joined s n) = setting_word s ++ codes "=" ++ decimal n

-- the number of a part is in its range
abbrev pub IsPart : Part → Type 0
IsPart (part.Dimension d) = IsDimension d
IsPart part.Resume = Unit {0}
IsPart part.Ending = Unit {0}
IsPart (part.Named s) = Unit {0}
IsPart (part.Joined s n) = IsInSetting s n
