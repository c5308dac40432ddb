-- Bytes that go to a sink by way of a block in which some wait.
use Rattle.std.specs.Prelude.{◌≡◌, ℕ, List, ◌++◌, Result, OnOk, OnErr}
use Rattle.std.specs.declared.option.Option.{Option}
use Rattle.std.specs.Io.KnownBytes.{Appends}
use Rattle.lt_io.specs.Bytes.{AppendsFront}

-- what the sink gained and what waits now are what waited before and the bytes
abbrev pub Gains : Option (List ℕ) → Option (List ℕ) → List ℕ → List ℕ → List ℕ → Type 0
Gains old new before after bytes = (given : List ℕ) × Appends old new given × (given ++ after ≡ before ++ bytes)

-- all the bytes at `Ok`; at `Err` the sink gained a front of what waited before and the bytes
pub record Gathered {T E : Type 0} (old new : Option (List ℕ)) (before after : List ℕ) (result : Result T E) (bytes : List ℕ) : Type 0 where
  pub whole : OnOk result (Gains old new before after bytes)
  pub front : OnErr result (AppendsFront old new (before ++ bytes))
