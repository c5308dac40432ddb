-- The alternatives for a normal of a list, of any weight: a wall form, or a combination of the others.
use Rattle.std.specs.Prelude.{ℕ, ℤ, pos, ◌<ℤ◌, ◌<◌, ◌≢◌, ◌≡◌, ◌⊎◌, List, [], length, get_or}
use Rattle.std.specs.List.{All}
use Rattle.std.specs.List.Sorted.{IsStrictlySortedBy}
use Rattle.std.specs.Ordering.{nat_cmp}
use Rattle.lt_model.specs.Vectors.{scale, dot}
use Rattle.lt_model.specs.Simplices.{AllOfDimension}
use Rattle.lt_model.specs.Forms.{numbers_of_form}
use Rattle.lt_model.specs.Cones.{Verdict, wall, combination, coefficients, places, sum_of_terms}
use Rattle.lt_lp.specs.Positive.{IsPositiveAt}

-- the k-th normal is 0 at the form of n numbers, and each other one is positive
pub record IsWallForm (n : ℕ) (ns : List (List ℤ)) (k : ℕ) (w : List ℤ) : Type 0 where
  pub numbers : length w ≡ n
  pub zero_there : dot (get_or ns k []) w ≡ pos 0
  pub others : (i : ℕ) → i < length ns → i ≢ k → pos 0 <ℤ dot (get_or ns i []) w

-- a positive factor times the k-th normal is the sum of others, each once and times a positive number
pub record IsCombination (ns : List (List ℤ)) (k : ℕ) (factor : ℤ) (terms : List (ℕ × ℤ)) : Type 0 where
  pub some : pos 0 <ℤ factor
  pub ascending : IsStrictlySortedBy nat_cmp (places terms)
  pub within : All (λ i. i < length ns) (places terms)
  pub other : All (λ i. i ≢ k) (places terms)
  pub positive : All (λ x. pos 0 <ℤ x) (coefficients terms)
  pub sum : sum_of_terms ns k terms ≡ scale factor (get_or ns k [])

abbrev pub HasWallForm : ℕ → List (List ℤ) → ℕ → Type 0
HasWallForm n ns k = (w : List ℤ) × IsWallForm n ns k w

abbrev pub IsCombined : List (List ℤ) → ℕ → Type 0
IsCombined ns k = (factor : ℤ) × (terms : List (ℕ × ℤ)) × IsCombination ns k factor terms

-- where some form is positive at all normals, each has a wall form or is combined from the others, and never both
abbrev pub EveryPlaceHasOneAlternative : Type 0
EveryPlaceHasOneAlternative =
    (n : ℕ) (ns : List (List ℤ)) (k : ℕ) (form : List ℤ) → AllOfDimension n ns → k < length ns → IsPositiveAt form ns →
    (HasWallForm n ns k ⊎ IsCombined ns k) × (HasWallForm n ns k → IsCombined ns k → ⊥)

-- a combination for the k-th normal says that it has no wall form
abbrev pub IsNoWall : ℕ → List (List ℤ) → ℕ → Verdict → Type 0
IsNoWall d ns k (wall w) = Unit
IsNoWall d ns k (combination factor terms) = HasWallForm (numbers_of_form d) ns k → ⊥
