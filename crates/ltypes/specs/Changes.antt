-- What a call does to a source or a sink.
use Rattle.std.specs.Prelude.{◌≡◌, ℕ, List}
use Rattle.std.specs.declared.option.Option.{Option}

-- the bytes left in a source, or held by a sink, where it tells them, and its count of faults, before the call and after it
pub record Change : Type 0 where
  pub old : Option (List ℕ)
  pub new : Option (List ℕ)
  pub before : ℕ
  pub now : ℕ

abbrev pub change : Option (List ℕ) → Option (List ℕ) → ℕ → ℕ → Change
change old new before now = record { old = old; new = new; before = before; now = now }

-- nothing was taken, and no fault was counted
pub record IsUntouched (c : Change) : Type 0 where
  pub left : c.new ≡ c.old
  pub faults : c.now ≡ c.before
