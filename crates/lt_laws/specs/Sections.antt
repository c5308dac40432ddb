-- Linear sections of secondary cones: the forms that are sums of multiples of given forms, and the facets of what of
-- the cone they meet.
use Rattle.std.specs.Prelude.{ℕ, ℤ, pos, ◌<ℤ◌, ◌<◌, ◌≢◌, ◌⊎◌, List, map, length, ◌≡◌}
use Rattle.lt_model.specs.Vectors.{scale, dot, combine, IsPrimitive}
use Rattle.lt_model.specs.Forms.{value, numbers_of_form, IsPositiveDefinite}
use Rattle.lt_model.specs.Simplices.{AllOfDimension}
use Rattle.lt_model.specs.Triangulations.{IsDelaunay}
use Rattle.lt_model.specs.Walls.{IsRegulator}
use Rattle.lt_laws.specs.Edges.{IsEdge}

-- the values of a normal at the forms; its value at the form with the numbers s is the product with s
abbrev pub restricted : List (List ℤ) → List ℤ → List ℤ
restricted fs n = map (dot n) fs

-- r is the primitive list of which the values of a regulator at the forms are a positive multiple
pub record IsSectionNormal (d : ℕ) (t : List (List (List ℤ))) (fs : List (List ℤ)) (r : List ℤ) : Type 0 where
  pub regulator : List ℤ
  pub is_regulator : IsRegulator d t regulator
  pub primitive : IsPrimitive r
  pub factor : ℕ
  pub some : 0 < factor
  pub multiple : restricted fs regulator ≡ scale (pos factor) r

-- r is 0 at the numbers s, and every other normal of the section is positive there; r is a facet of the section where
-- it has such numbers
pub record IsSectionWall (d : ℕ) (t : List (List (List ℤ))) (fs : List (List ℤ)) (r s : List ℤ) : Type 0 where
  pub normal : IsSectionNormal d t fs r
  pub numbers : length s ≡ length fs
  pub zero_there : dot r s ≡ pos 0
  pub others : (m : List ℤ) → IsSectionNormal d t fs m → m ≢ r → pos 0 <ℤ dot m s

-- the triangulation is that of a form of the section
pub record IsSection (d : ℕ) (t : List (List (List ℤ))) (fs : List (List ℤ)) : Type 0 where
  pub forms : AllOfDimension (numbers_of_form d) fs
  pub inside : List ℤ
  pub numbers : length inside ≡ length fs
  pub delaunay : IsDelaunay d (combine inside fs) t

-- the form at each wall of r is positive definite
abbrev pub IsLive : ℕ → List (List (List ℤ)) → List (List ℤ) → List ℤ → Type 0
IsLive d t fs r = (s : List ℤ) → IsSectionWall d t fs r s → IsPositiveDefinite d (combine s fs)

-- one edge has the value 0 at the form of each wall of r
abbrev pub IsDead : ℕ → List (List (List ℤ)) → List (List ℤ) → List ℤ → Type 0
IsDead d t fs r = (u : List ℤ) × IsEdge d t u × ((s : List ℤ) → IsSectionWall d t fs r s
    → value (combine s fs) u ≡ pos 0)

-- a facet of a section is live or dead, and not both
abbrev pub SectionFacetsAreLiveOrDead : Type 0
SectionFacetsAreLiveOrDead =
    (d : ℕ) (t : List (List (List ℤ))) (fs : List (List ℤ)) (r s : List ℤ) → IsSection d t fs → IsSectionWall d t fs r s
    → (IsLive d t fs r ⊎ IsDead d t fs r) × (IsLive d t fs r → IsDead d t fs r → ⊥)

-- the edges at the form of one wall tell which: an edge with the value 0 has it at all walls, and if there is none, the
-- facet is live
abbrev pub OneWallTells : Type 0
OneWallTells =
    (d : ℕ) (t : List (List (List ℤ))) (fs : List (List ℤ)) (r s : List ℤ) → IsSection d t fs → IsSectionWall d t fs r s
    →
    ((u : List ℤ) → IsEdge d t u → value (combine s fs) u ≡ pos 0 → (s' : List ℤ) → IsSectionWall d t fs r s'
    → value (combine s' fs) u ≡ pos 0)
    × (((u : List ℤ) → IsEdge d t u → pos 0 <ℤ value (combine s fs) u) → IsLive d t fs r)
