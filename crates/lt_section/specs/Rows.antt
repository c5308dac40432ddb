-- Right rows of a section.
use Rattle.std.specs.Prelude.{ℕ, ℤ, pos, ◌<◌, ◌≡◌, ◌≢◌, ◌⊎◌, List, [], length, map, get_or}
use Rattle.lt_model.specs.Vectors.{combine, zeros, IsPrimitive}
use Rattle.lt_model.specs.Forms.{value}
use Rattle.lt_model.specs.Cones.{IsRightCombination}
use Rattle.lt_laws.specs.Edges.{IsEdge}
use Rattle.lt_laws.specs.Sections.{IsSectionWall, IsLive}
use Rattle.lt_locate.specs.Firsts.{IsFirst}
use Rattle.lt_section.specs.declared.answers.SectionRow.{SectionRow}
use Rattle.lt_section.specs.declared.answers.SectionVerdict.{SectionVerdict}
use Rattle.lt_section.specs.declared.answers.SectionVerdict.TheVariants.{Live, Dead, Combination}

abbrev pub normals_of : List SectionRow → List (List ℤ)
normals_of rows = map (λ r. r.normal.items) rows

-- r is a facet of the section: it has a wall
abbrev pub IsSectionFacet : ℕ → List (List (List ℤ)) → List (List ℤ) → List ℤ → Type 0
IsSectionFacet d t fs r = (s : List ℤ) × IsSectionWall d t fs r s

-- s is a wall of r, divided by the greatest common divisor of its numbers unless all are 0, and q is the form at it
pub record IsWallAt (d : ℕ) (t : List (List (List ℤ))) (fs : List (List ℤ)) (r s q : List ℤ) : Type 0 where
  pub wall : IsSectionWall d t fs r s
  pub lowest : IsPrimitive s ⊎ (s ≡ zeros (length s))
  pub form : q ≡ combine s fs

-- x isn't 0, and the form at each wall of r is 0 at x
pub record IsDeadBy (d : ℕ) (t : List (List (List ℤ))) (fs : List (List ℤ)) (r x : List ℤ) : Type 0 where
  pub dimension : length x ≡ d
  pub some : x ≢ zeros d
  pub zero_there : (s : List ℤ) → IsSectionWall d t fs r s → value (combine s fs) x ≡ pos 0

-- an edge at which q is 0
abbrev pub IsZeroEdge : ℕ → List (List (List ℤ)) → List ℤ → List ℤ → Type 0
IsZeroEdge d t q x = IsEdge d t x × (value q x ≡ pos 0)

-- Live names a wall of the k-th normal and the form at it, and the forms at all walls are positive definite; Dead names
-- a wall, the form at it and the first edge at which this form is 0, by which the facet is dead; Combination says that
-- the normal is no facet
abbrev pub IsRightVerdict : ℕ → List (List (List ℤ)) → List (List ℤ) → List (List ℤ) → ℕ → SectionVerdict → Type 0
IsRightVerdict d t fs rs k (Live at form) =
    IsWallAt d t fs (get_or rs k []) at.items form × IsLive d t fs (get_or rs k [])
IsRightVerdict d t fs rs k (Dead at form x) =
    IsWallAt d t fs (get_or rs k []) at.items form × IsFirst (IsZeroEdge d t form) x
    × IsDeadBy d t fs (get_or rs k []) x
IsRightVerdict d t fs rs k (Combination factor terms) =
    IsRightCombination d rs k factor terms.items × (IsSectionFacet d t fs (get_or rs k []) → ⊥)

-- each row has a right verdict on its normal
abbrev pub AreRightRows : ℕ → List (List (List ℤ)) → List (List ℤ) → List SectionRow → Type 0
AreRightRows d t fs rows =
    (k : ℕ) (r : SectionRow) → k < length rows → IsRightVerdict d t fs (normals_of rows) k (get_or rows k r).verdict
