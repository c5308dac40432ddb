-- The worked example: the principal triangulation of dimension 2, its regulators, walls, flips and matrices.
use Rattle.std.specs.Prelude.{ℤ, pos, negsuc, ◌⊎◌, List, [], ◌∷◌, ◌≡◌, ◌↔◌}
use Rattle.lt_model.specs.Simplices.{IsClass}
use Rattle.lt_model.specs.Triangulations.{IsDelaunay}
use Rattle.lt_model.specs.Walls.{IsRegulator, IsWallForm}
use Rattle.lt_model.specs.Flips.{IsFlipOf}
use Rattle.lt_model.specs.Matrices.{Carries}
use Rattle.lt_model.specs.Principal.{IsPrincipal, principal_numbers}

-- the point (x, y)
abbrev pub point : ℤ → ℤ → List ℤ
point x y = x ∷ y ∷ []

-- the form a_11, a_12, a_22
abbrev pub numbers : ℤ → ℤ → ℤ → List ℤ
numbers a b c = a ∷ b ∷ c ∷ []

-- the classes 0 0 0 1 1 1 and 0 0 1 0 1 1
abbrev pub left_class : List (List ℤ)
left_class = point (pos 0) (pos 0) ∷ point (pos 0) (pos 1) ∷ point (pos 1) (pos 1) ∷ []

abbrev pub right_class : List (List ℤ)
right_class = point (pos 0) (pos 0) ∷ point (pos 1) (pos 0) ∷ point (pos 1) (pos 1) ∷ []

abbrev pub plane : List (List (List ℤ))
plane = left_class ∷ right_class ∷ []

-- the regulators 0 -1 0, 0 1 2 and 2 1 0
abbrev pub diagonal_normal : List ℤ
diagonal_normal = numbers (pos 0) (negsuc 0) (pos 0)

abbrev pub upright_normal : List ℤ
upright_normal = numbers (pos 0) (pos 1) (pos 2)

abbrev pub level_normal : List ℤ
level_normal = numbers (pos 2) (pos 1) (pos 0)

-- two members are classes, and the triangulation is the principal one and the Delaunay triangulation of its form
abbrev pub PlaneIsDelaunay : Type 0
PlaneIsDelaunay =
    IsClass 2 left_class × IsClass 2 right_class × IsPrincipal 2 plane
    × (principal_numbers 2 ≡ numbers (pos 2) (negsuc 1) (pos 2))
    × IsDelaunay 2 (numbers (pos 2) (negsuc 1) (pos 2)) plane

-- the three normals are regulators, and no pair of members has another
abbrev pub PlaneRegulators : Type 0
PlaneRegulators =
    (n : List ℤ) → IsRegulator 2 plane n ↔ ((n ≡ diagonal_normal) ⊎ ((n ≡ upright_normal) ⊎ (n ≡ level_normal)))

-- the wall forms 1 0 1, 2 -2 1 and 1 -2 2
abbrev pub PlaneWalls : Type 0
PlaneWalls =
    IsWallForm 2 plane diagonal_normal (numbers (pos 1) (pos 0) (pos 1))
    × IsWallForm 2 plane upright_normal (numbers (pos 2) (negsuc 1) (pos 1))
    × IsWallForm 2 plane level_normal (numbers (pos 1) (negsuc 1) (pos 2))

-- the triangulations across the three walls
abbrev pub across_diagonal : List (List (List ℤ))
across_diagonal =
    (point (pos 0) (pos 0) ∷ point (pos 0) (pos 1) ∷ point (pos 1) (pos 0) ∷ [])
    ∷ (point (pos 0) (pos 0) ∷ point (pos 1) (negsuc 0) ∷ point (pos 1) (pos 0) ∷ []) ∷ []

abbrev pub across_upright : List (List (List ℤ))
across_upright =
    (point (pos 0) (pos 0) ∷ point (pos 0) (pos 1) ∷ point (pos 1) (pos 2) ∷ [])
    ∷ (point (pos 0) (pos 0) ∷ point (pos 1) (pos 1) ∷ point (pos 1) (pos 2) ∷ []) ∷ []

abbrev pub across_level : List (List (List ℤ))
across_level =
    (point (pos 0) (pos 0) ∷ point (pos 1) (pos 0) ∷ point (pos 2) (pos 1) ∷ [])
    ∷ (point (pos 0) (pos 0) ∷ point (pos 1) (pos 1) ∷ point (pos 2) (pos 1) ∷ []) ∷ []

-- they are the flips of the triangulation
abbrev pub PlaneFlips : Type 0
PlaneFlips =
    IsFlipOf 2 plane diagonal_normal across_diagonal × IsFlipOf 2 plane upright_normal across_upright
    × IsFlipOf 2 plane level_normal across_level

-- the matrices 1 0 1 1, 1 0 -1 1 and 0 1 1 -1 carry them back
abbrev pub PlaneMatrices : Type 0
PlaneMatrices =
    Carries 2 (point (pos 1) (pos 0) ∷ point (pos 1) (pos 1) ∷ []) across_diagonal plane
    × Carries 2 (point (pos 1) (pos 0) ∷ point (negsuc 0) (pos 1) ∷ []) across_upright plane
    × Carries 2 (point (pos 0) (pos 1) ∷ point (pos 1) (negsuc 0) ∷ []) across_level plane
