-- The first of lists of numbers.
use Rattle.std.specs.Prelude.{ℤ, ◌≡◌, ◌⊎◌, List}
use Rattle.std.specs.declared.cmp.Ordering.TheVariants.{Less}
use Rattle.lt_model.specs.Order.{number_list_cmp}

-- x is one of those that are meant, and each other one is greater
pub record IsFirst (IsMeant : List ℤ → Type 0) (x : List ℤ) : Type 0 where
  pub is : IsMeant x
  pub least : (y : List ℤ) → IsMeant y → (x ≡ y) ⊎ (number_list_cmp x y ≡ Less)
