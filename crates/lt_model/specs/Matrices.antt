-- Integer matrices as lists of rows, and unimodular equivalence of triangulations.
-- Voronoi 1908; Schürmann and Vallentin 2006; Schürmann, chapter 4.
use Rattle.std.specs.Prelude.{ℕ, zero, suc, ℤ, pos, List, [], ◌∷◌, map, ◌≡◌, ◌↔◌, length}
use Rattle.std.specs.List.{Contains}
use Rattle.lt_model.specs.Vectors.{dot, zeros, combine}
use Rattle.lt_model.specs.Simplices.{AllOfDimension, IsClassOf}

-- U x
abbrev pub apply : List (List ℤ) → List ℤ → List ℤ
apply u x = map (λ row. dot row x) u

-- U V
abbrev pub times : List (List ℤ) → List (List ℤ) → List (List ℤ)
times u v = map (λ row. combine row v) u

-- the rows of the identity: the unit vectors
abbrev pub identity : ℕ → List (List ℤ)
identity zero = []
identity (suc d) = (pos 1 ∷ zeros d) ∷ map (λ v. pos 0 ∷ v) (identity d)

-- d rows of d numbers
pub record IsSquare (d : ℕ) (u : List (List ℤ)) : Type 0 where
  pub rows : length u ≡ d
  pub columns : AllOfDimension d u

-- v is the inverse of u
pub record IsInverse (d : ℕ) (u v : List (List ℤ)) : Type 0 where
  pub square : IsSquare d v
  pub right : times u v ≡ identity d
  pub left : times v u ≡ identity d

-- u has an integer inverse, and the classes of the images of the members of t are exactly the members of t'
pub record Carries (d : ℕ) (u : List (List ℤ)) (t t' : List (List (List ℤ))) : Type 0 where
  pub square : IsSquare d u
  pub inverse : List (List ℤ)
  pub is_inverse : IsInverse d u inverse
  pub members : (s' : List (List ℤ)) → Contains t' s' ↔ ((s : List (List ℤ)) × Contains t s × IsClassOf d (map (apply u) s) s')

-- some unimodular matrix carries t onto t'
abbrev pub AreEquivalent : ℕ → List (List (List ℤ)) → List (List (List ℤ)) → Type 0
AreEquivalent d t t' = (u : List (List ℤ)) × Carries d u t t'
