-- What the refusals of a walk say.
use Rattle.std.specs.Prelude.{ℕ, ℤ, ◌≡◌, List}
use Rattle.lt_locate.specs.declared.answers.LocateError.{LocateError}
use Rattle.lt_locate.specs.declared.answers.LocateError.TheVariants.{NotPositive, OnWall, Stopped, Memory}
use Rattle.lt_locate.specs.declared.answers.WalkStop.{WalkStop}
use Rattle.lt_locate.specs.declared.answers.WalkStop.TheVariants.{Steps, Wide, Heavy}
use Rattle.lt_locate.specs.Endings.{Ending, not_positive, heavy, on_wall, out_of_steps, wide, IsReason, EndsWith}

abbrev pub ending_of : WalkStop → Ending
ending_of Steps = out_of_steps
ending_of (Wide c) = wide c
ending_of (Heavy w) = heavy w

-- the walk ends for the reason that is named; Memory says nothing
abbrev pub IsRefusal : ℕ → List ℤ → ℕ → LocateError → Type 0
IsRefusal d q steps (NotPositive x) = (i : ℕ) × (t : List (List (List ℤ))) × EndsWith d q steps i t (not_positive x)
IsRefusal d q steps (OnWall n) = (i : ℕ) × (t : List (List (List ℤ))) × EndsWith d q steps i t (on_wall n)
IsRefusal d q steps (Stopped i why) = (t : List (List (List ℤ))) × EndsWith d q steps i t (ending_of why)
IsRefusal d q steps Memory = Unit

-- the same at one triangulation
abbrev pub IsStopAt : ℕ → List ℤ → ℕ → ℕ → List (List (List ℤ)) → LocateError → Type 0
IsStopAt d q steps i t (NotPositive x) = IsReason d q steps i t (not_positive x)
IsStopAt d q steps i t (OnWall n) = IsReason d q steps i t (on_wall n)
IsStopAt d q steps i t (Stopped j why) = (j ≡ i) × IsReason d q steps i t (ending_of why)
IsStopAt d q steps i t Memory = Unit
