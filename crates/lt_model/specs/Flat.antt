-- Matrices written row by row as one list of numbers.
use Rattle.std.specs.Prelude.{ℕ, zero, suc, ℤ, List, [], ◌∷◌, ◌++◌, take, drop}

-- the first n rows of d numbers each
abbrev pub first_rows : ℕ → ℕ → List ℤ → List (List ℤ)
first_rows zero d u = []
first_rows (suc n) d u = take d u ∷ first_rows n d (drop d u)

-- the d rows of a matrix of d times d numbers
abbrev pub rows : ℕ → List ℤ → List (List ℤ)
rows d u = first_rows d d u

-- the numbers of a matrix, row by row
abbrev pub flat : List (List ℤ) → List ℤ
flat [] = []
flat (r ∷ u) = r ++ flat u
