-- The pivot rule over tableaux.
use Rattle.std.specs.Prelude.{List, [], ◌∷◌, neg_ℤ, ◌≡◌, ◌≢◌, ℕ, zero, suc, ◌+◌, ◌-◌, ◌≤◌, ◌<◌, ℤ, pos, ◌*ℤ◌, ◌<ℤ◌, ◌≤ℤ◌, ◌⊎◌, cond, nat_le, set, ◌*◌, ◌/◌, ◌^◌, ◌+ℤ◌, nat_abs}
use Rattle.lt_tableau.specs.Numbers.{sum_below, IsPivoted}
use Rattle.lt_tableau.specs.Table.{Table, IsTableau, entry_of, right_of, basic_of, count_of, units_of}
use Rattle.lt_tableau.specs.Numbers.{column_at}

-- the number where the row's basic column is a unit column, else 0
abbrev pub at_unit : Table → ℕ → ℤ → ℤ
at_unit t row x = cond (nat_le (units_of t) (basic_of t row)) x (pos 0)

-- the sum over the rows whose basic column is a unit column
abbrev pub unit_sum : Table → (ℕ → ℤ) → ℤ
unit_sum t f = sum_below t.rows (λ (row : ℕ). at_unit t row (f row))

abbrev pub objective_of : Table → ℤ
objective_of t = unit_sum t (right_of t)

-- the reduced cost with its sign changed
abbrev pub gain_of : Table → ℕ → ℤ
gain_of t column = unit_sum t (λ (row : ℕ). entry_of t row column)

-- the number in the row and the unit column at the place q among the unit columns
abbrev pub unit_entry : Table → ℕ → ℕ → ℤ
unit_entry t row q = entry_of t row (units_of t + q)

-- the row's list: the right side, then the unit columns from the last to the first
abbrev pub number_of : Table → ℕ → ℕ → ℤ
number_of t row m = entry_of t row (count_of t - m)

-- the first number of the list that is not 0 is positive
pub record IsLexPositive (t : Table) (row : ℕ) : Type 0 where
  pub at : ℕ
  pub at_in : at ≤ t.rows
  pub positive : pos 0 <ℤ number_of t row at
  pub before : (m : ℕ) → m < at → number_of t row m ≡ pos 0

-- the list of the row a, over its number in the column, is lexicographically less than that of the row b
pub record IsBefore (t : Table) (column a b : ℕ) : Type 0 where
  pub at : ℕ
  pub at_in : at ≤ t.rows
  pub less : (number_of t a at *ℤ entry_of t b column) <ℤ (number_of t b at *ℤ entry_of t a column)
  pub before : (m : ℕ) → m < at → number_of t a m *ℤ entry_of t b column ≡ number_of t b m *ℤ entry_of t a column

-- the row that the rule takes for the column
pub record IsLeaving (t : Table) (column row : ℕ) : Type 0 where
  pub row_in : row < t.rows
  pub positive : pos 0 <ℤ entry_of t row column
  pub least : (r : ℕ) → r < t.rows → r ≢ row → pos 0 <ℤ entry_of t r column → IsBefore t column row r

-- what a pivot does
pub record IsPivotOf (t new : Table) (row column : ℕ) : Type 0 where
  pub rows : new.rows ≡ t.rows
  pub system : new.system ≡ t.system
  pub den : new.den ≡ entry_of t row column
  pub basic : new.basic ≡ set t.basic row column
  pub numbers : (j : ℕ) → IsPivoted t.den row (column_at t.columns column) (column_at t.columns j) (column_at new.columns j)

pub record IsReady (t : Table) : Type 0 where
  pub tableau : IsTableau t
  pub positive : (row : ℕ) → row < t.rows → IsLexPositive t row

-- the objective is 0, or no reduced cost is negative
abbrev pub IsStopped : Table → Type 0
IsStopped t = (objective_of t ≡ pos 0) ⊎ ((column : ℕ) → column < units_of t → gain_of t column ≤ℤ pos 0)

-- ---- the measure
abbrev pub power : ℕ → ℕ → ℕ
power b zero = 1
power b (suc n) = b * power b n

-- g 0, .. , g n as digits, the first the highest
abbrev pub digits : ℕ → ℕ → (ℕ → ℕ) → ℕ
digits b zero g = g zero
digits b (suc n) g = g zero * power b (suc n) + digits b n (λ (m : ℕ). g (suc m))

-- the sum of the lists of the rows with a unit variable
abbrev pub total_of : Table → ℕ → ℤ
total_of t m = unit_sum t (λ (row : ℕ). number_of t row m)

abbrev pub digit_of : Table → ℕ → ℕ
digit_of t m = nat_abs (total_of t m +ℤ pos (22 * 2 ^ 56) *ℤ t.den) * 2 ^ 112 / nat_abs t.den

-- it falls in each pivot of the rule
unfoldable pub measure_of : Table → ℕ
measure_of t = digits (2 ^ 240) t.rows (digit_of t)

-- the better of two rows
pub record IsEarlier (t : Table) (column row best result : ℕ) : Type 0 where
  pub inside : result < t.rows
  pub positive : pos 0 <ℤ entry_of t result column
  pub over_row : row ≢ result → pos 0 <ℤ entry_of t row column → IsBefore t column result row
  pub over_best : best ≢ result → IsBefore t column result best

-- y 0, .. , m numbers
abbrev pub listed : ℕ → (ℕ → ℤ) → List ℤ
listed zero y = []
listed (suc m) y = y zero ∷ listed m (λ (q : ℕ). y (suc q))

-- the gains of the first m unit columns, with their signs changed
abbrev pub turned_gains : ℕ → Table → List ℤ
turned_gains m t = listed m (λ (q : ℕ). neg_ℤ (gain_of t (units_of t + q)))
