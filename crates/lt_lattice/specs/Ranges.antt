-- The ranges of the numbers of points, forms, normals and matrices.
use Rattle.std.specs.Prelude.{ℕ, ℤ, nat_abs, List, [], ◌∷◌, ◌+◌, ◌*ℤ◌, ◌≤◌, ◌<◌, ◌≡◌, ◌⊎◌}

-- the absolute value is at most the bound
abbrev pub IsWithin : ℕ → ℤ → Type 0
IsWithin bound x = nat_abs x ≤ bound

-- the absolute value is below the bound
abbrev pub IsBelow : ℕ → ℤ → Type 0
IsBelow bound x = nat_abs x < bound

-- the length of a form in 2 to 6 variables
abbrev pub IsFormLength : ℕ → Type 0
IsFormLength n = (n ≡ 3) ⊎ (n ≡ 6) ⊎ (n ≡ 10) ⊎ (n ≡ 15) ⊎ (n ≡ 21)

-- the length of a matrix of 2 to 6 rows
abbrev pub IsSquareLength : ℕ → Type 0
IsSquareLength n = (n ≡ 4) ⊎ (n ≡ 9) ⊎ (n ≡ 16) ⊎ (n ≡ 25) ⊎ (n ≡ 36)

-- the sum of the absolute values of the products of equal places
abbrev pub size_of_dot : List ℤ → List ℤ → ℕ
size_of_dot [] ys = 0
size_of_dot (x ∷ xs) [] = 0
size_of_dot (x ∷ xs) (y ∷ ys) = nat_abs (x *ℤ y) + size_of_dot xs ys
