-- Two ascending lists of classes that are merged into one.
use Rattle.std.specs.Prelude.{ℕ, ℤ, ◌<◌, ◌≤◌, ◌≡◌, ◌⊎◌, ◌↔◌, List, [], length, get_or, take, map}
use Rattle.std.specs.declared.cmp.Ordering.TheVariants.{Less}
use Rattle.std.specs.List.{Contains}
use Rattle.std.specs.List.Sorted.{IsStrictlySortedBy}
use Rattle.lt_model.specs.Order.{simplex_cmp}

-- the members at the places
abbrev pub classes_at : List (List (List ℤ)) → List ℕ → List (List (List ℤ))
classes_at t places = map (λ k. get_or t k []) places

-- all comes before the members of xs from place m on
abbrev pub AreBefore : List (List (List ℤ)) → List (List (List ℤ)) → ℕ → Type 0
AreBefore all xs m = (s : List (List ℤ)) (i : ℕ) → Contains all s → m ≤ i → i < length xs → simplex_cmp s (get_or xs i []) ≡ Less

-- all holds the first m members of xs and the first k of ys, in ascending order and each once, and comes before the others
pub record AreMergedBelow (xs ys : List (List (List ℤ))) (m k : ℕ) (all : List (List (List ℤ))) : Type 0 where
  pub first : m ≤ length xs
  pub second : k ≤ length ys
  pub ascending : IsStrictlySortedBy simplex_cmp all
  pub members : (s : List (List ℤ)) → Contains all s ↔ (Contains (take m xs) s ⊎ Contains (take k ys) s)
  pub before_first : AreBefore all xs m
  pub before_second : AreBefore all ys k

-- all holds the members of both, in ascending order and each once
pub record AreMerged (xs ys all : List (List (List ℤ))) : Type 0 where
  pub ascending : IsStrictlySortedBy simplex_cmp all
  pub members : (s : List (List ℤ)) → Contains all s ↔ (Contains xs s ⊎ Contains ys s)
