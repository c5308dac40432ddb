-- Restricted normals filled up with zeros to normals of forms.
use Rattle.std.specs.Prelude.{ℕ, ℤ, pos, ◌-◌, ◌++◌, ◌<◌, ◌≡◌, ◌↔◌, List, [], length, get_or}
use Rattle.std.specs.List.{Contains}
use Rattle.std.specs.List.Sorted.{IsStrictlySortedBy}
use Rattle.lt_model.specs.Order.{number_list_cmp}
use Rattle.lt_model.specs.Vectors.{scale, zeros, IsPrimitive}
use Rattle.lt_model.specs.Forms.{numbers_of_form}
use Rattle.lt_laws.specs.Sections.{restricted, IsSectionNormal}

-- the numbers, and zeros until there are n of them
abbrev pub filled : ℕ → List ℤ → List ℤ
filled n r = r ++ zeros (n - length r)

-- x is the primitive list of which the values of the normal at the forms are a positive multiple, filled up to as many
-- numbers as the normal has
pub record IsFilledOf (fs : List (List ℤ)) (normal x : List ℤ) : Type 0 where
  pub short : List ℤ
  pub primitive : IsPrimitive short
  pub factor : ℕ
  pub some : 0 < factor
  pub multiple : restricted fs normal ≡ scale (pos factor) short
  pub is : x ≡ filled (length normal) short

-- the list for each of the normals, in their order
pub record AreFilledOf (fs normals xs : List (List ℤ)) (m : ℕ) : Type 0 where
  pub count : length xs ≡ m
  pub each : (k : ℕ) → k < m → IsFilledOf fs (get_or normals k []) (get_or xs k [])

-- x is a restricted normal of the triangulation, filled up
abbrev pub IsFilledNormal : ℕ → List (List (List ℤ)) → List (List ℤ) → List ℤ → Type 0
IsFilledNormal d t fs x = (r : List ℤ) × IsSectionNormal d t fs r × (x ≡ filled (numbers_of_form d) r)

-- exactly these, in ascending order
pub record AreFilledNormals (d : ℕ) (t : List (List (List ℤ))) (fs ns : List (List ℤ)) : Type 0 where
  pub ascending : IsStrictlySortedBy number_list_cmp ns
  pub members : (x : List ℤ) → Contains ns x ↔ IsFilledNormal d t fs x
