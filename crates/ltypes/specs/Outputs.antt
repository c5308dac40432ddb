-- The whole output of `principal`.
use Rattle.std.specs.Prelude.{◌≡◌, ℕ, ℤ, List}
use Rattle.lt_model.specs.Principal.{IsPrincipal, principal_numbers}
use Rattle.ltypes.specs.Texts.{type_text}

-- the principal form and the principal triangulation of dimension d
abbrev pub IsPrincipalText : ℕ → List ℕ → Type 0
IsPrincipalText d text = (t : List (List (List ℤ))) × IsPrincipal d t × (text ≡ type_text d (principal_numbers d) t)
