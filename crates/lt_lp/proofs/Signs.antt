-- What a stopped tableau says: the wall form's signs, and the values where the objective is 0.
use Rattle.std.proofs.Common.{subst, ◌≡◌, refl, sym, ◌∙◌, ap, ℕ, zero, suc, ◌+◌, ◌≤◌, ◌<◌, ℤ, pos, ◌+ℤ◌, ◌*ℤ◌, ◌≤ℤ◌, ◌<ℤ◌, arith, List, [], ◌∷◌, ◌++◌, length, cond, nat_le, Bool, true, false}
use Rattle.std.proofs.lemmas.Int.{ints}
use Rattle.lt_model.specs.Padded.{lookup}
use Rattle.lt_model.specs.Vectors.{unit}
use Rattle.lt_tableau.specs.Numbers.{sum_below}
use Rattle.lt_tableau.specs.Table.{Table, IsTableau, entry_of, basic_of, count_of, units_of}
use Rattle.lt_tableau.specs.Numbers.{column_at}
use Rattle.lt_lp.specs.Rule.{at_unit, objective_of, gain_of, number_of, IsLexPositive}
use Rattle.lt_model.proofs.Integers.{mul_zero_z, zero_mul_z, mul_one_z}
use Rattle.lt_model.proofs.Ring.{ring_by, var, num, ◌⊕◌, ◌⊗◌}
use Rattle.lt_lp.proofs.Columns.{sum_below_swap}
use Rattle.lt_tableau.proofs.Sums.{sum_own, sum_same, sum_zero, unit_same, unit_other}

unit_part : (b : Bool) (m : ℕ) (f x : ℕ → ℤ) → cond b (sum_below m (λ (q : ℕ). f q *ℤ x q)) (pos 0) ≡ sum_below m (λ (q : ℕ). cond b (f q) (pos 0) *ℤ x q)
unit_part true m f x = refl
unit_part false m f x = sym (sum_zero m (λ (q : ℕ). pos 0 *ℤ x q) (λ q l. zero_mul_z (x q)))

sum_times : (m : ℕ) (k : ℤ) (f : ℕ → ℤ) → sum_below m (λ (r : ℕ). f r *ℤ k) ≡ sum_below m f *ℤ k
sum_times zero k f = sym (zero_mul_z k)
sum_times (suc m) k f =
    let e = sum_times m k (λ (r : ℕ). f (suc r)) in
    ring_by (k ∷ f 0 ∷ sum_below m (λ (r : ℕ). f (suc r)) ∷ sum_below m (λ (r : ℕ). f (suc r) *ℤ k) ∷ []) (var 1 ⊗ var 0 ⊕ var 3) ((var 1 ⊕ var 2) ⊗ var 0) (num (pos 1)) (var 3) (var 2 ⊗ var 0) tt e

-- the sum over the unit rows of a column is the pairing of the column with the sums y of the unit columns
pub gain_law : (t : Table) → IsTableau t → (c : ℕ) → gain_of t c ≡ sum_below t.rows (λ (q : ℕ). gain_of t (units_of t + q) *ℤ lookup (column_at t.system c) q)
gain_law t w c =
    let x : ℕ → ℤ = lookup (column_at t.system c) in
    let e : ℕ → ℕ → ℤ = λ (row q : ℕ). entry_of t row (units_of t + q) in
    let a : gain_of t c ≡ sum_below t.rows (λ (row : ℕ). sum_below t.rows (λ (q : ℕ). at_unit t row (e row q) *ℤ x q)) =
    sum_same t.rows (λ (row : ℕ). at_unit t row (entry_of t row c)) (λ (row : ℕ). sum_below t.rows (λ (q : ℕ). at_unit t row (e row q) *ℤ x q))
    (λ row l. ap (at_unit t row) (w.row_law row c l) ∙ unit_part (nat_le (units_of t) (basic_of t row)) t.rows (e row) x) in
    let b = sum_below_swap t.rows t.rows (λ (row q : ℕ). at_unit t row (e row q) *ℤ x q) in
    a ∙ b ∙ sum_same t.rows (λ (q : ℕ). sum_below t.rows (λ (row : ℕ). at_unit t row (e row q) *ℤ x q)) (λ (q : ℕ). gain_of t (units_of t + q) *ℤ x q)
    (λ q l. sum_times t.rows (x q) (λ (row : ℕ). at_unit t row (e row q)))

picked : (m n : ℕ) (f : ℕ → ℤ) → n < m → m ≤ 22 → sum_below m (λ (q : ℕ). f q *ℤ lookup (unit 22 n) q) ≡ f n
picked m n f h w =
    sum_own m n (λ (q : ℕ). f q *ℤ lookup (unit 22 n) q) h (λ q k. ap (λ (z : ℤ). f q *ℤ z) (unit_other 22 n q k) ∙ mul_zero_z (f q))
    ∙ ap (λ (z : ℤ). f n *ℤ z) (unit_same 22 n (omega arith)) ∙ mul_one_z (f n)

-- the objective is the sum of the last unit column, where the right side is that column
pub objective_last : (t : Table) (n : ℕ) → IsTableau t → n < t.rows → ((q : ℕ) → q < t.rows → lookup (column_at t.system (count_of t)) q ≡ lookup (unit 22 n) q) → objective_of t ≡ gain_of t (units_of t + n)
objective_last t n w h r =
    gain_law t w (count_of t)
    ∙ sum_same t.rows (λ (q : ℕ). gain_of t (units_of t + q) *ℤ lookup (column_at t.system (count_of t)) q) (λ (q : ℕ). gain_of t (units_of t + q) *ℤ lookup (unit 22 n) q) (λ q l. ap (λ (z : ℤ). gain_of t (units_of t + q) *ℤ z) (r q l))
    ∙ picked t.rows n (λ (q : ℕ). gain_of t (units_of t + q)) h w.few_rows

-- ---- pairings with lists
pub pairing : (m : ℕ) (y : ℕ → ℤ) (x : List ℤ) (z : ℤ) → length x ≡ m → sum_below (suc m) (λ (q : ℕ). y q *ℤ lookup (x ++ z ∷ []) q) ≡ sum_below m (λ (q : ℕ). y q *ℤ lookup x q) +ℤ y m *ℤ z
pairing zero y [] z h = omega (arith, ints)
pairing zero y (a ∷ x) z h = absurd (omega arith)
pairing (suc m) y [] z h = absurd (omega arith)
pairing (suc m) y (a ∷ x) z h = let e = pairing m (λ (q : ℕ). y (suc q)) x z (omega arith) in omega (arith, ints)

-- ---- no column enters, and the objective is positive: strictly positive on the other normals, 0 on the k-th
pub wall_others : (t : Table) (m c : ℕ) (x : List ℤ) → IsTableau t → t.rows ≡ suc m → length x ≡ m → ((q : ℕ) → q < t.rows → lookup (column_at t.system c) q ≡ lookup (x ++ pos 1 ∷ []) q) →
    gain_of t c ≤ℤ pos 0 → pos 0 <ℤ gain_of t (units_of t + m) → sum_below m (λ (q : ℕ). gain_of t (units_of t + q) *ℤ lookup x q) <ℤ pos 0
wall_others t m c x w r l s g o =
    let y : ℕ → ℤ = λ (q : ℕ). gain_of t (units_of t + q) in
    let a = gain_law t w c ∙ sum_same t.rows (λ (q : ℕ). y q *ℤ lookup (column_at t.system c) q) (λ (q : ℕ). y q *ℤ lookup (x ++ pos 1 ∷ []) q) (λ q h. ap (λ (z : ℤ). y q *ℤ z) (s q h)) in
    let b : gain_of t c ≡ sum_below (suc m) (λ (q : ℕ). y q *ℤ lookup (x ++ pos 1 ∷ []) q) = a ∙ ap (λ (n : ℕ). sum_below n (λ (q : ℕ). y q *ℤ lookup (x ++ pos 1 ∷ []) q)) r in
    let d = pairing m y x (pos 1) l in
    let f = mul_one_z (y m) in
    omega (arith, ints)

-- ---- the objective is 0: the unit variables are 0
pub right_not_negative : (t : Table) (row : ℕ) → IsLexPositive t row → pos 0 ≤ℤ number_of t row 0
right_not_negative t row p = pick p.at refl
  where
    pick : (a : ℕ) → p.at ≡ a → pos 0 ≤ℤ number_of t row 0
    pick zero e = let f = subst (λ (m : ℕ). pos 0 <ℤ number_of t row m) e p.positive in omega (arith, ints)
    pick (suc a) e = rw (p.before 0 (omega arith)) (omega (arith, ints))

pub sum_not_negative : (n : ℕ) (f : ℕ → ℤ) → ((q : ℕ) → q < n → pos 0 ≤ℤ f q) → pos 0 ≤ℤ sum_below n f
sum_not_negative zero f h = omega (arith, ints)
sum_not_negative (suc n) f h =
    let a = h 0 (omega arith) in
    let r = sum_not_negative n (λ (q : ℕ). f (suc q)) (λ q l. h (suc q) (omega arith)) in
    omega (arith, ints)

pub each_zero : (n : ℕ) (f : ℕ → ℤ) → ((q : ℕ) → q < n → pos 0 ≤ℤ f q) → sum_below n f ≡ pos 0 → (q : ℕ) → q < n → f q ≡ pos 0
each_zero zero f h e q l = absurd (omega arith)
each_zero (suc n) f h e zero l =
    let a = h 0 (omega arith) in
    let r = sum_not_negative n (λ (q : ℕ). f (suc q)) (λ q l. h (suc q) (omega arith)) in
    omega (arith, ints)
each_zero (suc n) f h e (suc q) l =
    let a = h 0 (omega arith) in
    let r = sum_not_negative n (λ (q : ℕ). f (suc q)) (λ q l. h (suc q) (omega arith)) in
    each_zero n (λ (q : ℕ). f (suc q)) (λ q l. h (suc q) (omega arith)) (omega (arith, ints)) q (omega arith)
