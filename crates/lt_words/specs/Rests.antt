-- What the words behind `run` leave to come.
use Rattle.std.specs.Prelude.{◌≡◌, ℕ, ◌+◌, ◌*◌, ◌≤◌, Bool, true, false, List, [], ◌∷◌, ◌++◌, ◌⊎◌, ◌↔◌, Option, Some, None, IfSome}
use Rattle.std.specs.Fmt.{decimal}
use Rattle.lt_model.specs.Limits.{step_limit}
use Rattle.lt_words.specs.declared.words.Command.{Command}
use Rattle.lt_words.specs.declared.words.Command.TheVariants.{Run}
use Rattle.lt_words.specs.declared.options.Setting.{Setting}
use Rattle.lt_words.specs.declared.options.Setting.TheVariants.{Workers, Steps}
use Rattle.lt_words.specs.declared.options.Options.{Options}
use Rattle.lt_words.specs.declared.options.Part.{Part}
use Rattle.lt_words.specs.declared.options.Part.TheVariants as part
use Rattle.lt_words.specs.Grammar.{IsDimension, IsInSetting, Item, dimension, setting, AreSpellings, dimensions, numbers, resumes, times, IsChosen, AreEnded, Spells}

-- the number that was named for a setting
abbrev pub named : Options → Setting → Option ℕ
named o Workers = o.workers
named o Steps = o.steps

-- the number of a setting is within the limit of the dimension, where that was named
abbrev pub IsInLimit : Options → Setting → ℕ → Type 0
IsInLimit o Workers n = Unit {0}
IsInLimit o Steps n = IfSome o.d (λ d. n ≤ step_limit d)

-- the steps that were named are within the limit of this dimension
abbrev pub LeavesSteps : Options → ℕ → Type 0
LeavesSteps o d = IfSome o.steps (λ n. n ≤ step_limit d)

-- The numbers that were named are in their ranges. A setting whose number is due has none yet, and `--` didn't stand.
pub record IsSound (o : Options) : Type 0 where
  pub dimension : IfSome o.d IsDimension
  pub workers : IfSome o.workers (IsInSetting Workers)
  pub steps : IfSome o.steps (IsInSetting Steps)
  pub few : IfSome o.d (LeavesSteps o)
  pub due : IfSome o.due (λ s. (named o s ≡ None) × (o.ended ≡ false))

-- a part may come: nothing but a dimension behind `--`, nothing twice, and no more steps than the dimension allows
abbrev pub Allows : Options → Part → Type 0
Allows o (part.Dimension d) = (o.d ≡ None) × LeavesSteps o d
Allows o part.Resume = (o.ended ≡ false) × (o.resume ≡ false)
Allows o part.Ending = o.ended ≡ false
Allows o (part.Named s) = (o.ended ≡ false) × (named o s ≡ None)
Allows o (part.Joined s n) = (o.ended ≡ false) × (named o s ≡ None) × IsInLimit o s n

-- the number that stands there, as a list
abbrev pub listed : Option ℕ → List ℕ
listed None = []
listed (Some n) = n ∷ []

-- how many words behind `run` were read, at most
abbrev pub count : {A : Type 0} → Option A → ℕ
count None = 0
count (Some x) = 1

abbrev pub words_read : Options → ℕ
words_read o = count o.d + 2 * count o.workers + 2 * count o.steps + times o.resume + times o.ended + count o.due

-- the rest of the items, where `--` stood, or didn't
abbrev pub AreLast : Bool → List Item → Type 0
AreLast true items = (items ≡ []) ⊎ ((d : ℕ) × (items ≡ dimension d ∷ []))
AreLast false items = AreEnded items

-- what was read, and then these items, makes the run
pub record CompleteRun (o : Options) (d workers steps : ℕ) (resume : Bool) (items : List Item) : Type 0 where
  pub one_dimension : listed o.d ++ dimensions items ≡ d ∷ []
  pub chosen_workers : IsChosen 1 (listed o.workers ++ numbers Workers items) workers
  pub chosen_steps : IsChosen (step_limit d) (listed o.steps ++ numbers Steps items) steps
  pub few : steps ≤ step_limit d
  pub resumed : times o.resume + resumes items ≡ times resume
  pub last : AreLast o.ended items

-- what was read, and then these items, makes the command
abbrev pub Complete : Options → Command → List Item → Type 0
Complete o (Run d workers steps resume) items = CompleteRun o d workers steps resume items
Complete o _ items = ⊥

-- with this number of a setting, what was read is this
abbrev pub TakesNumber : Options → Setting → ℕ → Options → Type 0
TakesNumber o s n next = (c : Command) (items : List Item) → Complete o c (setting s n ∷ items) ↔ Complete next c items

-- these words complete the command, where the number of an option is due, or none
abbrev pub IsRestBy : Option Setting → Options → Command → List (List ℕ) → Type 0
IsRestBy None o c ws = (items : List Item) × AreSpellings items ws × Complete o c items
IsRestBy (Some s) o c ws =
    (n : ℕ) × (rest : List (List ℕ)) × (items : List Item) × (ws ≡ decimal n ∷ rest) × IsInSetting s n ×
    AreSpellings items rest × Complete o c (setting s n ∷ items)

-- these words, behind those that were read, complete the command
abbrev pub IsRest : Options → Command → List (List ℕ) → Type 0
IsRest o c ws = IsRestBy o.due o c ws

-- with this word more, the options are these
abbrev pub GoesTo : Options → List ℕ → Options → Type 0
GoesTo o w next = (c : Command) (ws : List (List ℕ)) → IsRest o c (w ∷ ws) ↔ IsRest next c ws

-- no command goes on with this word
abbrev pub StopsAt : Options → List ℕ → Type 0
StopsAt o w = (c : Command) (ws : List (List ℕ)) → IsRest o c (w ∷ ws) → ⊥

-- what the words so far leave is what the options leave
abbrev pub HasRead : List (List ℕ) → Options → Type 0
HasRead front o = (c : Command) (ws : List (List ℕ)) → Spells c (front ++ ws) ↔ IsRest o c ws
