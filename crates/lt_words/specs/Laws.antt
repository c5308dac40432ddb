-- Laws on the words of commands.
use Rattle.std.specs.Prelude.{◌≡◌, ℕ, ◌+◌, ◌*◌, ◌≤◌, List}
use Rattle.lt_model.specs.Limits.{step_limit}
use Rattle.lt_words.specs.declared.words.Command.{Command}
use Rattle.lt_words.specs.Grammar.{InRange, Spells, IsAccepted, FaultAt, most_turns}

-- words have a fault at one place alone
abbrev pub EveryFaultHasOnePlace : Type 0
EveryFaultHasOnePlace = (ws : List (List ℕ)) (p q : ℕ) → FaultAt ws p → FaultAt ws q → p ≡ q

-- the words of a command have none
abbrev pub NoCommandHasAFault : Type 0
NoCommandHasAFault = (ws : List (List ℕ)) (p : ℕ) → IsAccepted ws → FaultAt ws p → ⊥

-- words spell one command at most
abbrev pub WordsSpellOneCommand : Type 0
WordsSpellOneCommand = (c c' : Command) (ws : List (List ℕ)) → InRange c → InRange c' → Spells c ws → Spells c' ws
    → c ≡ c'

-- the run that ends a drill stays within the limit on steps
abbrev pub DrillsKeepTheStepLimit : Type 0
DrillsKeepTheStepLimit = (d turns : ℕ) → turns ≤ most_turns d → 2 * turns + 100 ≤ step_limit d
