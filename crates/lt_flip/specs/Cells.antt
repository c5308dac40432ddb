-- Cells of a regulator: the points of two members that have it at their common facet, and their affine dependency.
-- Voronoi 1908; Schürmann, chapter 4 ("repartitioning polytopes").
use Rattle.std.specs.Prelude.{ℕ, ℤ, ◌<◌, ◌≡◌, ◌↔◌, ◌⊎◌, List, [], ◌∷◌, length, get_or, map}
use Rattle.std.specs.List.{Contains, All}
use Rattle.std.specs.List.Sorted.{IsStrictlySortedBy}
use Rattle.lt_model.specs.Order.{simplex_cmp}
use Rattle.lt_model.specs.Simplices.{translate}
use Rattle.lt_model.specs.Walls.{IsPair}
use Rattle.lt_triang.specs.Flat.{IsFlat}
use Rattle.lt_flip.specs.Ascending.{AreAscending}
use Rattle.lt_flip.specs.Outers.{HasNoFacet}

-- the points of a cell, and a number for each of them
pub record Cell : Type 0 where
  pub points : List (List ℤ)
  pub terms : List ℤ

-- they are a translate of the points
pub record IsMovedFrom (d : ℕ) (points ps : List (List ℤ)) : Type 0 where
  pub shape : AreAscending d ps
  pub shift : List ℤ
  pub shifted : length shift ≡ d
  pub same : (x : List ℤ) → Contains points x ↔ Contains (translate shift ps) x

-- they are a translate of the points of a pair with the regulator n
pub record AreCellPoints (d : ℕ) (t : List (List (List ℤ))) (n : List ℤ) (ps : List (List ℤ)) : Type 0 where
  pub base : List (List ℤ)
  pub vertex : List ℤ
  pub c : ℤ
  pub b : List ℤ
  pub pair : IsPair d t n base vertex c b
  pub moved : IsMovedFrom d (vertex ∷ base) ps

-- the list holds the points of a cell in which the member s stands, or none of the facets of s has the regulator
abbrev pub HasCellOf : ℕ → List (List (List ℤ)) → List ℤ → List (List ℤ) → List (List (List ℤ)) → Type 0
HasCellOf d t n s all = HasNoFacet d t s n ⊎ ((ps : List (List ℤ)) × Contains all ps × ((w : List ℤ) (c : ℤ) (b : List ℤ) → IsPair d t n s w c b → IsMovedFrom d (w ∷ s) ps))

-- the list holds only points of cells, and those in which the first m members stand
pub record AreCellPointsBelow (d : ℕ) (t : List (List (List ℤ))) (n : List ℤ) (m : ℕ) (all : List (List (List ℤ))) : Type 0 where
  pub only : (ps : List (List ℤ)) → Contains all ps → AreCellPoints d t n ps
  pub each : (i : ℕ) → i < m → HasCellOf d t n (get_or t i []) all

-- the list holds the points of each cell, and no others
abbrev pub AreAllCellPoints : ℕ → List (List (List ℤ)) → List ℤ → List (List (List ℤ)) → Type 0
AreAllCellPoints d t n all = (ps : List (List ℤ)) → Contains all ps ↔ AreCellPoints d t n ps

abbrev pub points_of : List Cell → List (List (List ℤ))
points_of cells = map (λ c. c.points) cells

-- the cells of n, each once and in ascending order of their points, each with its dependency
pub record AreCells (d : ℕ) (t : List (List (List ℤ))) (n : List ℤ) (cells : List Cell) : Type 0 where
  pub ascending : IsStrictlySortedBy simplex_cmp (points_of cells)
  pub members : AreAllCellPoints d t n (points_of cells)
  pub dependencies : All (λ c. IsFlat d c.points c.terms) cells
