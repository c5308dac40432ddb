-- Laws of the principal triangulation, and its regulators.
use Rattle.std.specs.Prelude.{ℕ, zero, suc, ℤ, pos, negsuc, ◌+ℤ◌, ◌<◌, ◌≤◌, ◌⊎◌, neg_ℤ, get_or, drop, List, ◌≡◌, ◌↔◌, length}
use Rattle.lt_model.specs.Vectors.{scale, dot, unit, ones}
use Rattle.lt_model.specs.Forms.{cross, numbers_of_form}
use Rattle.lt_model.specs.Triangulations.{IsDelaunay}
use Rattle.lt_model.specs.Walls.{IsRegulator, IsFacet, AreRegulators}
use Rattle.lt_model.specs.Principal.{IsPrincipal, principal_numbers}

-- the numbers of the normal with N(Q) = - a_ij, for different i and j
abbrev pub pair_normal : ℕ → ℕ → ℕ → List ℤ
pair_normal d i j = scale (negsuc 0) (cross (unit d i) (unit d j))

-- the numbers of the normal with N(Q) = 2 a_ii and the sum of the other coefficients that have the index i
abbrev pub own_normal : ℕ → ℕ → List ℤ
own_normal d i = cross (ones d) (unit d i)

abbrev pub IsPrincipalNormal : ℕ → List ℤ → Type 0
IsPrincipalNormal d n = ((i : ℕ) × (j : ℕ) × (i < j) × (j < d) × (n ≡ pair_normal d i j))
    ⊎ ((i : ℕ) × (i < d) × (n ≡ own_normal d i))

-- the principal triangulation is the Delaunay triangulation of the principal form
abbrev pub PrincipalIsDelaunay : Type 0
PrincipalIsDelaunay = (d : ℕ) (t : List (List (List ℤ))) → 1 ≤ d → IsPrincipal d t
    → IsDelaunay d (principal_numbers d) t

-- its regulators are the normals that are stated, and all of them are facets
abbrev pub PrincipalRegulators : Type 0
PrincipalRegulators = (d : ℕ) (t : List (List (List ℤ))) → 2 ≤ d → IsPrincipal d t → (n : List ℤ)
    → IsRegulator d t n ↔ IsPrincipalNormal d n

abbrev pub PrincipalFacets : Type 0
PrincipalFacets = (d : ℕ) (t : List (List (List ℤ))) → 2 ≤ d → IsPrincipal d t → (n : List ℤ) → IsPrincipalNormal d n
    → IsFacet d t n

-- the coefficient a_ij of a form in dimension d, where i <= j; the numbers of a form are its rows from the diagonal on
abbrev pub coefficient : ℕ → List ℤ → ℕ → ℕ → ℤ
coefficient zero q i j = pos 0
coefficient (suc d) q zero j = get_or q j (pos 0)
coefficient (suc d) q (suc i) zero = get_or q (suc i) (pos 0)
coefficient (suc d) q (suc i) (suc j) = coefficient d (drop (suc d) q) i j

-- the sum of the coefficients that have the index i, over j below n
abbrev pub row_sum : ℕ → List ℤ → ℕ → ℕ → ℤ
row_sum d q i zero = pos 0
row_sum d q i (suc n) = coefficient d q i n +ℤ row_sum d q i n

-- the normals at a form are - a_ij, and a_ii and the sum of all coefficients that have the index i
abbrev pub NormalsSay : Type 0
NormalsSay =
    ((d : ℕ) (q : List ℤ) (i j : ℕ) → i < j → j < d → dot (pair_normal d i j) q ≡ neg_ℤ (coefficient d q i j))
    × ((d : ℕ) (q : List ℤ) (i : ℕ) → i < d → dot (own_normal d i) q ≡ coefficient d q i i +ℤ row_sum d q i d)

abbrev pub PrincipalExists : Type 0
PrincipalExists = (d : ℕ) → (t : List (List (List ℤ))) × IsPrincipal d t

-- d (d + 1) / 2 regulators
abbrev pub PrincipalCount : Type 0
PrincipalCount = (d : ℕ) (t : List (List (List ℤ))) (ns : List (List ℤ)) → 2 ≤ d → IsPrincipal d t
    → AreRegulators d t ns → length ns ≡ numbers_of_form d
