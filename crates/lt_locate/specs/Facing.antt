-- Normals of a list that have a wall form and a sign at a form.
use Rattle.std.specs.Prelude.{ℕ, ℤ, pos, ◌<ℤ◌, ◌<◌, ◌≡◌, List, [], length, get_or}
use Rattle.lt_model.specs.Vectors.{dot}
use Rattle.lt_model.specs.Forms.{numbers_of_form}
use Rattle.lt_lp.specs.Alternatives.{HasWallForm}
use Rattle.lt_locate.specs.declared.facing.Sign.{Sign}
use Rattle.lt_locate.specs.declared.facing.Sign.TheVariants.{Negative, Zero}

abbrev pub IsOfSign : Sign → ℤ → Type 0
IsOfSign Negative x = x <ℤ pos 0
IsOfSign Zero x = x ≡ pos 0

-- the k-th normal has the sign at q, and a wall form
abbrev pub IsMetAt : ℕ → List (List ℤ) → List ℤ → Sign → ℕ → Type 0
IsMetAt d ns q sign k = IsOfSign sign (dot (get_or ns k []) q) × HasWallForm (numbers_of_form d) ns k

-- n is the first such normal of the list
pub record IsFirstMet (d : ℕ) (ns : List (List ℤ)) (q : List ℤ) (sign : Sign) (n : List ℤ) : Type 0 where
  pub place : ℕ
  pub within : place < length ns
  pub is : n ≡ get_or ns place []
  pub met : IsMetAt d ns q sign place
  pub before : (j : ℕ) → j < place → IsMetAt d ns q sign j → ⊥
