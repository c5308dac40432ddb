-- The words of the command line.
use Rattle.std.specs.Prelude.{◌≡◌, ℕ, ℤ, suc, ◌+◌, ◌^◌, ◌<◌, ◌≤◌, Bool, true, false, cond, List, [], ◌∷◌, ◌++◌, ◌⊎◌, nat_le, length, get_or, take, map, codes}
use Rattle.std.specs.Fmt.{decimal, signed_decimal}
use Rattle.std.specs.List.{All, flat_map}
use Rattle.lt_model.specs.Forms.{numbers_of_form}
use Rattle.lt_model.specs.Limits.{most_steps, step_limit}
use Rattle.lt_lattice.specs.Ranges.{IsWithin}
use Rattle.lt_words.specs.declared.words.Command.{Command}
use Rattle.lt_words.specs.declared.words.Command.TheVariants.{Principal, Summary, Check, Run, Drill, Locate, Cover, Relevant, Shortest, Section, Merge, Convert}
use Rattle.lt_words.specs.declared.words.WordsError.{WordsError}
use Rattle.lt_words.specs.declared.words.WordsError.TheVariants.{Fault}
use Rattle.lt_words.specs.declared.options.Setting.{Setting}
use Rattle.lt_words.specs.declared.options.Setting.TheVariants.{Workers, Steps}
use denote.Ref.{Bor}

-- the bytes of each word
abbrev pub texts : List (Bor (List ℕ)) → List (List ℕ)
texts ws = map (λ w. w.now) ws

-- ---- numbers

-- a dimension that a command takes
abbrev pub IsDimension : ℕ → Type 0
IsDimension d = (2 ≤ d) × (d ≤ 6)

-- the greatest number of workers of a run
abbrev pub most_workers : ℕ
most_workers = 64

-- the greatest number of turns of a drill in dimension d
abbrev pub most_turns : ℕ → ℕ
most_turns d = cond (nat_le d 5) 1000 950

-- the greatest number of crossings of a walk
abbrev pub most_crossings : ℕ
most_crossings = 10000

-- the greatest absolute value of a number of a form
abbrev pub most_of_form : ℕ
most_of_form = 2 ^ 40

-- the greatest absolute value of a number of the forms of a section
abbrev pub most_in_section : ℕ
most_in_section = 4096

-- the greatest number of an entry
abbrev pub most_entry : ℕ
most_entry = 1000000

-- the number of crossings and the form of a walk
abbrev pub IsWalkGiven : ℕ → List ℤ → Type 0
IsWalkGiven steps q = (steps ≤ most_crossings) × All (IsWithin most_of_form) q

-- the forms of a section: one at least, in one number of variables, no more of them than a form has numbers, and with
-- small numbers
pub record AreGiven (forms : List (List ℤ)) : Type 0 where
  pub some : 0 < length forms
  pub few : length forms ≤ length (get_or forms 0 [])
  pub same : All (λ q. length q ≡ length (get_or forms 0 [])) forms
  pub within : All (All (IsWithin most_in_section)) forms

-- a number that an option of a run takes in some dimension
abbrev pub IsInSetting : Setting → ℕ → Type 0
IsInSetting Workers n = (1 ≤ n) × (n ≤ most_workers)
IsInSetting Steps n = n ≤ most_steps

-- a command's numbers are in the ranges of its words
abbrev pub InRange : Command → Type 0
InRange (Principal d) = IsDimension d
InRange (Summary d resume) = IsDimension d
InRange (Check d) = IsDimension d
InRange (Run d workers steps resume) = IsDimension d × IsInSetting Workers workers × (steps ≤ step_limit d)
InRange (Drill d seed turns) = IsDimension d × (seed < 2 ^ 64) × (turns ≤ most_turns d)
InRange (Locate steps q) = IsWalkGiven steps q
InRange (Cover steps q) = IsWalkGiven steps q
InRange (Relevant d entry) = IsDimension d × (entry ≤ most_entry)
InRange (Shortest steps q) = IsWalkGiven steps q
InRange (Section steps forms) = (steps ≤ most_crossings) × AreGiven forms.items
InRange (Merge d) = IsDimension d
InRange (Convert d) = IsDimension d

-- ---- what stands behind the word `run`

-- one thing that stands there
pub data Item : Type 0 where
  dimension : ℕ → Item
  setting : Setting → ℕ → Item
  resuming : Item
  ending : Item

-- the word of an option that takes a number
abbrev pub setting_word : Setting → List ℕ
setting_word Workers = codes "--workers"
setting_word Steps = codes "--steps"

-- the words of an option with its number, which is the next word or is joined to the option by `=`
abbrev pub IsSetting : Setting → ℕ → List (List ℕ) → Type 0
IsSetting s n ws =
    (ws ≡ setting_word s ∷ decimal n ∷ []) ⊎ (ws ≡ (setting_word s ++ codes "=" ++ decimal n) ∷ [])

-- words that spell an item
abbrev pub IsSpelling : Item → List (List ℕ) → Type 0
IsSpelling (dimension d) ws = IsDimension d × (ws ≡ decimal d ∷ [])
IsSpelling (setting s n) ws = IsInSetting s n × IsSetting s n ws
IsSpelling resuming ws = ws ≡ codes "--resume" ∷ []
IsSpelling ending ws = ws ≡ codes "--" ∷ []

-- the words spell the items, one after the other
abbrev pub AreSpellings : List Item → List (List ℕ) → Type 0
AreSpellings [] ws = ws ≡ []
AreSpellings (i ∷ items) ws =
    (own : List (List ℕ)) × (rest : List (List ℕ)) × (ws ≡ own ++ rest) × IsSpelling i own × AreSpellings items rest

-- the dimensions among the items
abbrev pub dimensions : List Item → List ℕ
dimensions [] = []
dimensions (dimension d ∷ items) = d ∷ dimensions items
dimensions (setting s n ∷ items) = dimensions items
dimensions (resuming ∷ items) = dimensions items
dimensions (ending ∷ items) = dimensions items

-- the numbers that an option has among the items
abbrev pub numbers : Setting → List Item → List ℕ
numbers s [] = []
numbers s (dimension d ∷ items) = numbers s items
numbers Workers (setting Workers n ∷ items) = n ∷ numbers Workers items
numbers Workers (setting Steps n ∷ items) = numbers Workers items
numbers Steps (setting Workers n ∷ items) = numbers Steps items
numbers Steps (setting Steps n ∷ items) = n ∷ numbers Steps items
numbers s (resuming ∷ items) = numbers s items
numbers s (ending ∷ items) = numbers s items

-- how often `--resume` stands among the items
abbrev pub resumes : List Item → ℕ
resumes [] = 0
resumes (dimension d ∷ items) = resumes items
resumes (setting s n ∷ items) = resumes items
resumes (resuming ∷ items) = suc (resumes items)
resumes (ending ∷ items) = resumes items

-- how often a flag stands, which stands at most once
abbrev pub times : Bool → ℕ
times true = 1
times false = 0

-- an option that stands once has its number, and one that doesn't stand the default
abbrev pub IsChosen : ℕ → List ℕ → ℕ → Type 0
IsChosen default named n = (named ≡ n ∷ []) ⊎ ((named ≡ []) × (n ≡ default))

-- behind each `--` stands nothing but a dimension
abbrev pub AreEnded : List Item → Type 0
AreEnded items =
    (before after : List Item) → items ≡ before ++ ending ∷ after →
    (after ≡ []) ⊎ ((d : ℕ) × (after ≡ dimension d ∷ []))

-- The items make this run: the dimension stands once, each option at most once, the steps are at most those of
-- the dimension, and behind `--`, which stands at most once then, there is nothing but the dimension.
pub record MakeRun (d workers steps : ℕ) (resume : Bool) (items : List Item) : Type 0 where
  pub one_dimension : dimensions items ≡ d ∷ []
  pub chosen_workers : IsChosen 1 (numbers Workers items) workers
  pub chosen_steps : IsChosen (step_limit d) (numbers Steps items) steps
  pub few : steps ≤ step_limit d
  pub resumed : resumes items ≡ times resume
  pub ended : AreEnded items

-- ---- commands on a form

-- the word of the command, the dimension, the number of crossings, and the numbers of the form
pub record SpellsForm (word : List ℕ) (steps : ℕ) (q : List ℤ) (ws : List (List ℕ)) : Type 0 where
  pub d : ℕ
  pub dimension : IsDimension d
  pub numbers : length q ≡ numbers_of_form d
  pub words : ws ≡ word ∷ decimal d ∷ decimal steps ∷ map signed_decimal q

-- the word of a section, the dimension, the number of crossings, the number of forms, and the numbers of the forms, one
-- form after the other
pub record SpellsForms (steps : ℕ) (forms : List (List ℤ)) (ws : List (List ℕ)) : Type 0 where
  pub d : ℕ
  pub dimension : IsDimension d
  pub numbers : All (λ q. length q ≡ numbers_of_form d) forms
  pub words : ws ≡ codes "section" ∷ decimal d ∷ decimal steps ∷ decimal (length forms) ∷ map signed_decimal
      (flat_map (λ q. q) forms)

-- ---- commands

-- the words are a spelling of the command
abbrev pub Spells : Command → List (List ℕ) → Type 0
Spells (Principal d) ws = ws ≡ codes "principal" ∷ decimal d ∷ []
Spells (Summary d resume) ws = ws ≡ codes "summary" ∷ decimal d ∷ cond resume (codes "--resume" ∷ []) []
Spells (Check d) ws = ws ≡ codes "check" ∷ decimal d ∷ []
Spells (Run d workers steps resume) ws =
    (rest : List (List ℕ)) × (items : List Item) × (ws ≡ codes "run" ∷ rest) × AreSpellings items rest ×
    MakeRun d workers steps resume items
Spells (Drill d seed turns) ws = ws ≡ codes "drill" ∷ decimal d ∷ decimal seed ∷ decimal turns ∷ []
Spells (Locate steps q) ws = SpellsForm (codes "locate") steps q ws
Spells (Cover steps q) ws = SpellsForm (codes "cover") steps q ws
Spells (Relevant d entry) ws = ws ≡ codes "relevant" ∷ decimal d ∷ decimal entry ∷ []
Spells (Shortest steps q) ws = SpellsForm (codes "shortest") steps q ws
Spells (Section steps forms) ws = SpellsForms steps forms.items ws
Spells (Merge d) ws = ws ≡ codes "merge" ∷ decimal d ∷ []
Spells (Convert d) ws = ws ≡ codes "convert" ∷ decimal d ∷ []

-- the words are those of a command
abbrev pub IsAccepted : List (List ℕ) → Type 0
IsAccepted ws = (c : Command) × InRange c × Spells c ws

-- some accepted list begins with these words
abbrev pub Begins : List (List ℕ) → Type 0
Begins ws = (c : Command) × (rest : List (List ℕ)) × InRange c × Spells c (ws ++ rest)

-- The words are outside the grammar, and the place is that of the first word at which no accepted list begins
-- with the words so far, or the number of words where only something is missing.
pub record FaultAt (ws : List (List ℕ)) (place : ℕ) : Type 0 where
  pub within : place ≤ length ws
  pub before : Begins (take place ws)
  pub here : place < length ws → Begins (take (place + 1) ws) → ⊥
  pub outside : IsAccepted ws → ⊥

-- the place that a refusal names
abbrev pub place_of : WordsError → ℕ
place_of (Fault place) = place
