-- The restricted normals of a triangulation as a list, and their weight.
use Rattle.std.specs.Prelude.{ℕ, ℤ, pos, ◌<◌, ◌≤◌, ◌≡◌, ◌↔◌, List, map}
use Rattle.std.specs.List.{Contains}
use Rattle.std.specs.List.Sorted.{IsStrictlySortedBy}
use Rattle.lt_model.specs.Order.{number_list_cmp}
use Rattle.lt_model.specs.Forms.{numbers_of_form}
use Rattle.lt_model.specs.Limits.{weight, weight_limit}
use Rattle.lt_model.specs.Walls.{AreRegulators}
use Rattle.lt_laws.specs.Sections.{IsSectionNormal}
use Rattle.lt_section.specs.declared.answers.SectionError.{SectionError}
use Rattle.lt_section.specs.declared.answers.SectionError.TheVariants.{Heavy, Memory}
use Rattle.lt_section.specs.Filled.{filled}

-- the weight of the triangulation is below the limit
abbrev pub HasLightRegulators : ℕ → List (List (List ℤ)) → Type 0
HasLightRegulators d t = (ns : List (List ℤ)) → AreRegulators d t ns → weight d ns < weight_limit

-- exactly the restricted normals of the regulators, in ascending order
pub record AreSectionNormals (d : ℕ) (t : List (List (List ℤ))) (fs rs : List (List ℤ)) : Type 0 where
  pub ascending : IsStrictlySortedBy number_list_cmp rs
  pub members : (r : List ℤ) → Contains rs r ↔ IsSectionNormal d t fs r

-- the weight of the lists once they are filled up to the numbers of a form
abbrev pub filled_weight : ℕ → List (List ℤ) → ℕ
filled_weight d rs = weight d (map (filled (numbers_of_form d)) rs)

-- Heavy names the weight of the restricted normals, at the limit or above it; Memory says nothing
abbrev pub IsHeavySection : ℕ → List (List (List ℤ)) → List (List ℤ) → SectionError → Type 0
IsHeavySection d t fs (Heavy w) =
    (rs : List (List ℤ)) × AreSectionNormals d t fs rs × (w ≡ pos (filled_weight d rs))
    × (weight_limit ≤ filled_weight d rs)
IsHeavySection d t fs Memory = Unit
