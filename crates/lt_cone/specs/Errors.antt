-- What the refusals say.
use Rattle.std.specs.Prelude.{◌≡◌, ℕ, ℤ, pos, ◌≤◌, List}
use Rattle.lt_model.specs.Limits.{weight, weight_limit}
use Rattle.lt_model.specs.Walls.{AreRegulators}
use Rattle.lt_cone.specs.declared.error.ConeError.{ConeError}
use Rattle.lt_cone.specs.declared.error.ConeError.TheVariants.{Heavy, Memory}

-- Heavy names the weight of the regulators of t, at the limit or above it; Memory says nothing
abbrev pub IsHeavyCone : ℕ → List (List (List ℤ)) → ConeError → Type 0
IsHeavyCone d t (Heavy w) = (ns : List (List ℤ)) × AreRegulators d t ns × (w ≡ pos (weight d ns)) × (weight_limit ≤ weight d ns)
IsHeavyCone d t Memory = Unit
