-- The shape of the points of a cell.
use Rattle.std.specs.Prelude.{ℕ, suc, ℤ, ◌≡◌, List, [], length, get_or}
use Rattle.std.specs.List.Sorted.{IsStrictlySortedBy}
use Rattle.lt_model.specs.Order.{number_list_cmp}
use Rattle.lt_model.specs.Vectors.{zeros}
use Rattle.lt_model.specs.Simplices.{AllOfDimension}

-- d + 2 points of d coordinates in ascending order, the first of them 0
pub record AreAscending (d : ℕ) (ps : List (List ℤ)) : Type 0 where
  pub count : length ps ≡ suc (suc d)
  pub dimension : AllOfDimension d ps
  pub ascending : IsStrictlySortedBy number_list_cmp ps
  pub first : get_or ps 0 [] ≡ zeros d
