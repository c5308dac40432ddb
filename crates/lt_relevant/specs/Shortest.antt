-- The least value of a form at integer points other than 0, and the points that have it.
use Rattle.std.specs.Prelude.{ℕ, ℤ, negsuc, ◌<◌, ◌≤ℤ◌, ◌≡◌, ◌≢◌, ◌⊎◌, List, [], length, get_or}
use Rattle.std.specs.List.{Contains}
use Rattle.std.specs.List.Sorted.{IsStrictlySortedBy}
use Rattle.std.specs.declared.cmp.Ordering.TheVariants.{Less}
use Rattle.lt_model.specs.Order.{number_list_cmp}
use Rattle.lt_model.specs.Vectors.{scale, zeros}
use Rattle.lt_model.specs.Forms.{value}

-- least is the value of q at each listed point, no point but 0 has a smaller one, and each point with this value is
-- listed or the negative of a listed one; the points ascend, there is one at least, and the first coordinate of each
-- that is not 0 is positive
pub record IsShortest (d : ℕ) (q : List ℤ) (least : ℤ) (vectors : List (List ℤ)) : Type 0 where
  pub occupied : 0 < length vectors
  pub ascending : IsStrictlySortedBy number_list_cmp vectors
  pub dimension : (x : List ℤ) → Contains vectors x → length x ≡ d
  pub positive : (x : List ℤ) → Contains vectors x → number_list_cmp (zeros d) x ≡ Less
  pub value_is : (x : List ℤ) → Contains vectors x → value q x ≡ least
  pub none_below : (x : List ℤ) → length x ≡ d → x ≢ zeros d → least ≤ℤ value q x
  pub all : (x : List ℤ) → length x ≡ d → value q x ≡ least → Contains vectors x ⊎ Contains vectors (scale (negsuc 0) x)

-- the least of the values of q at the first m points
pub record IsLeastOf (q : List ℤ) (points : List (List ℤ)) (m : ℕ) (least : ℤ) : Type 0 where
  pub place : ℕ
  pub within : place < m
  pub is : least ≡ value q (get_or points place [])
  pub below : (k : ℕ) → k < m → least ≤ℤ value q (get_or points k [])
