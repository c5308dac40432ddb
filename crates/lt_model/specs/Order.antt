-- The orders of lists of numbers and of places: lexicographic, number by number.
use Rattle.std.specs.Prelude.{ℕ, ℤ, List, ◌<◌, ◌≡◌, ◌⊎◌}
use Rattle.std.specs.declared.cmp.Ordering.{Ordering}
use Rattle.std.specs.Ordering.{int_cmp}
use Rattle.std.specs.Cmp.Lexicographic.{slice_cmp}

-- lists of numbers compared number by number: points, forms, normals
abbrev pub number_list_cmp : List ℤ → List ℤ → Ordering
number_list_cmp = slice_cmp int_cmp

-- simplices compared vertex by vertex
abbrev pub simplex_cmp : List (List ℤ) → List (List ℤ) → Ordering
simplex_cmp = slice_cmp number_list_cmp

-- triangulations compared class by class
abbrev pub triangulation_cmp : List (List (List ℤ)) → List (List (List ℤ)) → Ordering
triangulation_cmp = slice_cmp simplex_cmp

-- the place p comes before the place q: facets of entries, or of classes
abbrev pub IsBefore : ℕ × ℕ → ℕ × ℕ → Type 0
IsBefore p q = (p.0 < q.0) ⊎ ((p.0 ≡ q.0) × (p.1 < q.1))
