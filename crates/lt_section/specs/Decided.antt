-- Verdicts as the program comes to them, from a list of filled normals and a list of points.
use Rattle.std.specs.Prelude.{ℕ, ℤ, pos, ◌<◌, ◌≤◌, ◌≡◌, ◌≢◌, List, [], length, take, get_or}
use Rattle.std.specs.List.{All}
use Rattle.lt_model.specs.Vectors.{combine}
use Rattle.lt_model.specs.Forms.{value, numbers_of_form}
use Rattle.lt_model.specs.Cones.{IsRightWall, IsRightCombination}
use Rattle.lt_model.specs.Limits.{weight, weight_limit}
use Rattle.lt_lattice.specs.Ranges.{IsWithin}
use Rattle.lt_lp.specs.Positive.{IsPositiveAt}
use Rattle.lt_lp.specs.Alternatives.{HasWallForm}
use Rattle.lt_tableau.specs.Errors.{AreOfDimension}
use Rattle.lt_section.specs.declared.answers.SectionRow.{SectionRow}
use Rattle.lt_section.specs.declared.answers.SectionVerdict.{SectionVerdict}
use Rattle.lt_section.specs.declared.answers.SectionVerdict.TheVariants.{Live, Dead, Combination}
use Rattle.lt_section.specs.Lowered.{IsLowered}

-- what the verdicts are made from: filled normals that some form makes positive and whose weight is below the limit,
-- forms with small numbers, and points; all of one dimension, and no more forms than a form has numbers
pub record IsInput (fs ns xs : List (List ℤ)) : Type 0 where
  pub normals : All (λ x. length x ≡ length (get_or ns 0 [])) ns
  pub positive : (form : List ℤ) × IsPositiveAt form ns
  pub light : (d : ℕ) × AreOfDimension d ns × (weight d ns < weight_limit)
  pub some : 0 < length fs
  pub few : length fs ≤ length (get_or ns 0 [])
  pub forms : All (λ q. length q ≡ length (get_or ns 0 [])) fs
  pub within : All (All (IsWithin 4096)) fs
  pub points : All (λ x. length (get_or ns 0 []) ≡ numbers_of_form (length x)) xs

-- q is not 0 at the first m points
abbrev pub AreNotZeroAt : List ℤ → List (List ℤ) → ℕ → Type 0
AreNotZeroAt q xs m = (j : ℕ) → j < m → value q (get_or xs j []) ≢ pos 0

-- x is the first point of the list at which q is 0
pub record IsFirstZero (q : List ℤ) (xs : List (List ℤ)) (x : List ℤ) : Type 0 where
  pub place : ℕ
  pub within : place < length xs
  pub is : x ≡ get_or xs place []
  pub zero_there : value q (get_or xs place []) ≡ pos 0
  pub before : AreNotZeroAt q xs place

-- s are the first numbers of the wall form, one for each form, and q is the form at them
abbrev pub IsFormAt : List (List ℤ) → List ℤ → List ℤ → List ℤ → Type 0
IsFormAt fs wall s q = IsLowered (take (length fs) wall) s × (q ≡ combine s fs)

-- the verdict for a wall form
abbrev pub IsFacetVerdict : List (List ℤ) → List (List ℤ) → List ℤ → SectionVerdict → Type 0
IsFacetVerdict fs xs wall (Live at form) = IsFormAt fs wall at.items form × AreNotZeroAt form xs (length xs)
IsFacetVerdict fs xs wall (Dead at form x) = IsFormAt fs wall at.items form × IsFirstZero form xs x
IsFacetVerdict fs xs wall (Combination factor terms) = ⊥

-- the verdict on the k-th of the filled normals
abbrev pub IsVerdictOn : ℕ → List (List ℤ) → List (List ℤ) → List (List ℤ) → ℕ → SectionVerdict → Type 0
IsVerdictOn d fs ns xs k (Live at form) =
    (wall : List ℤ) × IsRightWall d ns k wall × IsFacetVerdict fs xs wall (Live at form)
IsVerdictOn d fs ns xs k (Dead at form x) =
    (wall : List ℤ) × IsRightWall d ns k wall × IsFacetVerdict fs xs wall (Dead at form x)
IsVerdictOn d fs ns xs k (Combination factor terms) =
    IsRightCombination d ns k factor terms.items × (HasWallForm (numbers_of_form d) ns k → ⊥)

-- the rows have the verdicts on the filled normals
abbrev pub AreVerdictsOn : List (List ℤ) → List (List ℤ) → List (List ℤ) → List SectionRow → Type 0
AreVerdictsOn fs ns xs rows =
    (d : ℕ) → AreOfDimension d ns → (k : ℕ) (r : SectionRow) → k < length rows →
    IsVerdictOn d fs ns xs k (get_or rows k r).verdict
