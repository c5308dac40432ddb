-- Classes that pave space for a form.
use Rattle.std.specs.Prelude.{ℕ, ℤ, List}
use Rattle.std.specs.List.{Contains}
use Rattle.lt_model.specs.Simplices.{IsClass, IsStrictlyEmpty}
use Rattle.lt_model.specs.Facets.{IsClosed}

-- classes that are strictly empty for q and closed under facets
pub record IsPaving (d : ℕ) (q : List ℤ) (t : List (List (List ℤ))) : Type 0 where
  pub classes : (s : List (List ℤ)) → Contains t s → IsClass d s
  pub empty : (s : List (List ℤ)) → Contains t s → IsStrictlyEmpty d q s
  pub closed : IsClosed d t
