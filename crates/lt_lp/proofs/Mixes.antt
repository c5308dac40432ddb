-- A tableau whose objective is 0 gives a combination: the values of the columns.
use Rattle.std.proofs.Common.{◌≡◌, ◌≢◌, refl, sym, ◌∙◌, ap, ℕ, zero, suc, ◌+◌, ◌-◌, ◌*◌, ◌^◌, ◌≤◌, ◌<◌, ℤ, pos, negsuc, ◌+ℤ◌, ◌-ℤ◌, ◌*ℤ◌, ◌≤ℤ◌, ◌<ℤ◌, arith, List, [], ◌∷◌, ◌++◌, map, length, cond, nat_eq, Bool, true, false, nat_abs}
use Rattle.std.specs.Prelude.{remove}
use Rattle.std.proofs.lemmas.Int.{ints}
use Rattle.std.proofs.lemmas.Bool.Decides.{nat_tests}
use Rattle.std.proofs.lemmas.List.{length-map, get_or-append-add}
use Rattle.std.proofs.lemmas.List.Edits.{length-remove, get_or-remove_above, get_or-remove_below}
use native.Mathlib.Decide.{ℕ_discrete, dec_le}
use Rattle.lt_model.specs.Padded.{lookup}
use Rattle.lt_model.specs.Vectors.{scale, dot}
use Rattle.lt_model.proofs.Integers.{mul_comm_z, mul_zero_z, zero_mul_z, mul_one_z}
use Rattle.lt_model.proofs.Ring.{ring, ring_by, var, num, ◌⊕◌, ◌⊖◌, ◌⊗◌}
use Rattle.lt_model.proofs.Inequalities.{mul_pos_z, mul_nonneg_z, mul_le_mul_z}
use Rattle.lt_tableau.specs.Numbers.{sum_below, column_at}
use Rattle.lt_tableau.specs.System.{system_of, counted, normal_column, turned_column, plain_column, unit_column}
use Rattle.lt_tableau.specs.Table.{Table, IsTableau, right_of, basic_of, count_of, units_of}
use Rattle.lt_tableau.proofs.Sums.{sum_more, sum_same, sum_zero, sum_own, lookup_none, lookup_scale, unit_same, unit_other}
use Rattle.lt_tableau.proofs.Starts.{length-system, removed_length, system_right, lookup_past}
use Rattle.lt_lp.specs.Rule.{objective_of, IsReady}
use Rattle.lt_lp.specs.Terms.{value_of}
use Rattle.lt_lp.proofs.Falls.{sum_small}
use Rattle.lt_lp.proofs.Columns.{sum_below_swap, sum_below_scale, filled_in}
use Rattle.lt_lp.proofs.Values.{value_law, values_not_negative, unit_values}
use Rattle.lt_lp.proofs.WallSigns.{append_zero, at_normals}
use Rattle.lt_lp.proofs.Signs.{sum_not_negative}

pub value_small : (t : Table) → IsTableau t → (c : ℕ) → nat_abs (value_of t c) ≤ 22 * 2 ^ 56
value_small t w c = at_most t.rows (sum_small t.rows (2 ^ 56) (λ (row : ℕ). cond (nat_eq (basic_of t row) c) (right_of t row) (pos 0)) (λ q. pick (nat_eq (basic_of t q) c) (right_of t q) (w.small q (count_of t)))) w.few_rows
  where
    at_most : (n : ℕ) {x : ℕ} → x ≤ n * 2 ^ 56 → n ≤ 22 → x ≤ 22 * 2 ^ 56
    at_most n h l = omega arith

    pick : (b : Bool) (x : ℤ) → nat_abs x < 2 ^ 56 → nat_abs (cond b x (pos 0)) ≤ 2 ^ 56
    pick true x h = omega arith
    pick false x h = omega arith

-- 1 where the row's basic column is the column
abbrev pub occurs_of : Table → ℕ → ℤ
occurs_of t column = sum_below t.rows (λ (row : ℕ). cond (nat_eq (basic_of t row) column) (pos 1) (pos 0))

nat_eq_same : (a : ℕ) → nat_eq a a ≡ true
nat_eq_same a = pick (nat_eq a a) refl
  where
    pick : (b : Bool) → nat_eq a a ≡ b → nat_eq a a ≡ true
    pick true e = e
    pick false e = let n : a ≢ a = grind (arith, nat_tests) in absurd (n refl)

nat_eq_other : (a b : ℕ) → b ≢ a → nat_eq a b ≡ false
nat_eq_other a b h = pick (nat_eq a b) refl
  where
    pick : (c : Bool) → nat_eq a b ≡ c → nat_eq a b ≡ false
    pick false e = e
    pick true e = let n : a ≡ b = grind (arith, nat_tests) in absurd (h (sym n))

sum_at_most : (m : ℕ) (f : ℕ → ℤ) → ((q : ℕ) → q < m → f q ≤ℤ pos 1) → sum_below m f ≤ℤ pos m
sum_at_most zero f h = omega (arith, ints)
sum_at_most (suc m) f h =
    let a = h 0 (omega arith) in
    let r = sum_at_most m (λ (q : ℕ). f (suc q)) (λ q l. h (suc q) (omega arith)) in
    omega (arith, ints)

-- ---- values
pub value_nonneg : (t : Table) → IsReady t → (c : ℕ) → pos 0 ≤ℤ value_of t c
value_nonneg t w c = sum_not_negative t.rows (λ (row : ℕ). cond (nat_eq (basic_of t row) c) (right_of t row) (pos 0)) (λ q l. pick (nat_eq (basic_of t q) c) (right_of t q) (values_not_negative t w q l))
  where
    pick : (b : Bool) (x : ℤ) → pos 0 ≤ℤ x → pos 0 ≤ℤ cond b x (pos 0)
    pick true x h = h
    pick false x h = omega (arith, ints)

pub occurs_nonneg : (t : Table) (c : ℕ) → pos 0 ≤ℤ occurs_of t c
occurs_nonneg t c = sum_not_negative t.rows (λ (row : ℕ). cond (nat_eq (basic_of t row) c) (pos 1) (pos 0)) (λ q l. pick (nat_eq (basic_of t q) c))
  where
    pick : (b : Bool) → pos 0 ≤ℤ cond b (pos 1) (pos 0)
    pick true = omega (arith, ints)
    pick false = omega (arith, ints)

occurs_step : (m : ℕ) (b : ℕ → Bool) (x : ℕ → ℤ) → sum_below m (λ (r : ℕ). cond (b r) (x r) (pos 0)) ≢ pos 0 → pos 1 ≤ℤ sum_below m (λ (r : ℕ). cond (b r) (pos 1) (pos 0))
occurs_step zero b x n = absurd (n refl)
occurs_step (suc m) b x n = pick (b 0) refl (occurs_step m (λ (r : ℕ). b (suc r)) (λ (r : ℕ). x (suc r)))
  where
    nonneg : (c : Bool) → pos 0 ≤ℤ cond c (pos 1) (pos 0)
    nonneg true = omega (arith, ints)
    nonneg false = omega (arith, ints)

    pick : (c : Bool) → b 0 ≡ c → (sum_below m (λ (r : ℕ). cond (b (suc r)) (x (suc r)) (pos 0)) ≢ pos 0 → pos 1 ≤ℤ sum_below m (λ (r : ℕ). cond (b (suc r)) (pos 1) (pos 0))) → pos 1 ≤ℤ (cond (b 0) (pos 1) (pos 0) +ℤ sum_below m (λ (r : ℕ). cond (b (suc r)) (pos 1) (pos 0)))
    pick true e f =
        let r = sum_not_negative m (λ (r : ℕ). cond (b (suc r)) (pos 1) (pos 0)) (λ q l. nonneg (b (suc q))) in
        rw e (omega (arith, ints, r))
    pick false e f =
        let r = f (λ z. n (ap (λ (c : Bool). cond c (x 0) (pos 0) +ℤ sum_below m (λ (r : ℕ). cond (b (suc r)) (x (suc r)) (pos 0))) e ∙ ap (λ (y : ℤ). pos 0 +ℤ y) z)) in
        rw e (omega (arith, ints, r))

pub occurs_some : (t : Table) (c : ℕ) → value_of t c ≢ pos 0 → pos 1 ≤ℤ occurs_of t c
occurs_some t c n = occurs_step t.rows (λ (r : ℕ). nat_eq (basic_of t r) c) (right_of t) n

-- each row has one basic column at most
pub occurs_few : (t : Table) (m : ℕ) → sum_below m (occurs_of t) ≤ℤ pos t.rows
occurs_few t m = rw (sum_below_swap m t.rows (λ (c r : ℕ). cond (nat_eq (basic_of t r) c) (pos 1) (pos 0))) (sum_at_most t.rows (λ (r : ℕ). sum_below m (λ (c : ℕ). cond (nat_eq (basic_of t r) c) (pos 1) (pos 0))) (λ r l. once m (basic_of t r)))
  where
    once : (m a : ℕ) → sum_below m (λ (c : ℕ). cond (nat_eq a c) (pos 1) (pos 0)) ≤ℤ pos 1
    once m a = pick (dec_le (suc a) m)
      where
        pick : Dec (suc a ≤ m) → sum_below m (λ (c : ℕ). cond (nat_eq a c) (pos 1) (pos 0)) ≤ℤ pos 1
        pick (yes h) =
            let e = sum_own m a (λ (c : ℕ). cond (nat_eq a c) (pos 1) (pos 0)) h (λ q n. ap (λ (b : Bool). cond b (pos 1) (pos 0)) (nat_eq_other a q n)) in
            let f : cond (nat_eq a a) (pos 1) (pos 0) ≡ pos 1 = ap (λ (b : Bool). cond b (pos 1) (pos 0)) (nat_eq_same a) in
            omega (arith, ints, e, f)
        pick (no h) =
            let e = sum_zero m (λ (c : ℕ). cond (nat_eq a c) (pos 1) (pos 0)) (λ q l. ap (λ (b : Bool). cond b (pos 1) (pos 0)) (nat_eq_other a q (λ z. absurd (omega arith)))) in
            omega (arith, ints, e)

-- the sum over rows as a sum over columns
times_cond : (b : Bool) (x y : ℤ) → cond b x (pos 0) *ℤ y ≡ cond b (x *ℤ y) (pos 0)
times_cond true x y = refl
times_cond false x y = zero_mul_z y

sum_times : (m : ℕ) (k : ℤ) (f : ℕ → ℤ) → sum_below m f *ℤ k ≡ sum_below m (λ (r : ℕ). f r *ℤ k)
sum_times zero k f = zero_mul_z k
sum_times (suc m) k f = rw (sym (sum_times m k (λ (r : ℕ). f (suc r)))) (ring (f 0 ∷ k ∷ sum_below m (λ (r : ℕ). f (suc r)) ∷ []) ((var 0 ⊕ var 2) ⊗ var 1) (var 0 ⊗ var 1 ⊕ var 2 ⊗ var 1) tt)

rows_as_columns : (t : Table) (x : ℕ → ℤ) → IsTableau t → sum_below t.rows (λ (r : ℕ). right_of t r *ℤ x (basic_of t r)) ≡ sum_below (count_of t) (λ (c : ℕ). value_of t c *ℤ x c)
rows_as_columns t x w =
    sum_same t.rows (λ (r : ℕ). right_of t r *ℤ x (basic_of t r)) (λ (r : ℕ). sum_below (count_of t) (λ (c : ℕ). cond (nat_eq (basic_of t r) c) (right_of t r *ℤ x c) (pos 0))) (λ r l. one r (w.basic_in r l))
    ∙ sum_below_swap t.rows (count_of t) (λ (r c : ℕ). cond (nat_eq (basic_of t r) c) (right_of t r *ℤ x c) (pos 0))
    ∙ sum_same (count_of t) (λ (c : ℕ). sum_below t.rows (λ (r : ℕ). cond (nat_eq (basic_of t r) c) (right_of t r *ℤ x c) (pos 0))) (λ (c : ℕ). value_of t c *ℤ x c) (λ c l. sym (sum_times t.rows (x c) (λ (r : ℕ). cond (nat_eq (basic_of t r) c) (right_of t r) (pos 0)) ∙ sum_same t.rows (λ (r : ℕ). cond (nat_eq (basic_of t r) c) (right_of t r) (pos 0) *ℤ x c) (λ (r : ℕ). cond (nat_eq (basic_of t r) c) (right_of t r *ℤ x c) (pos 0)) (λ r k. times_cond (nat_eq (basic_of t r) c) (right_of t r) (x c))))
  where
    one : (r : ℕ) → basic_of t r < count_of t → right_of t r *ℤ x (basic_of t r) ≡ sum_below (count_of t) (λ (c : ℕ). cond (nat_eq (basic_of t r) c) (right_of t r *ℤ x c) (pos 0))
    one r h = sym (sum_own (count_of t) (basic_of t r) (λ (c : ℕ). cond (nat_eq (basic_of t r) c) (right_of t r *ℤ x c) (pos 0)) h (λ q n. ap (λ (b : Bool). cond b (right_of t r *ℤ x q) (pos 0)) (nat_eq_other (basic_of t r) q n))
        ∙ ap (λ (b : Bool). cond b (right_of t r *ℤ x (basic_of t r)) (pos 0)) (nat_eq_same (basic_of t r)))

-- the values of unit columns are 0
unit_value : (t : Table) → IsReady t → objective_of t ≡ pos 0 → (c : ℕ) → units_of t ≤ c → value_of t c ≡ pos 0
unit_value t w o c h = sum_zero t.rows (λ (r : ℕ). cond (nat_eq (basic_of t r) c) (right_of t r) (pos 0)) (λ r l. pick r l (ℕ_discrete c (basic_of t r)))
  where
    same : (b : Bool) (x : ℤ) → x ≡ pos 0 → cond b x (pos 0) ≡ pos 0
    same true x e = e
    same false x e = refl

    pick : (r : ℕ) → r < t.rows → Dec (c ≡ basic_of t r) → cond (nat_eq (basic_of t r) c) (right_of t r) (pos 0) ≡ pos 0
    pick r l (yes e) = same (nat_eq (basic_of t r) c) (right_of t r) (unit_values t w o r l (rw (sym e) h))
    pick r l (no n) = ap (λ (b : Bool). cond b (right_of t r) (pos 0)) (nat_eq_other (basic_of t r) c n)

-- the sum of the first of two parts, where the second is 0
sum_cut : (m n : ℕ) (f : ℕ → ℤ) → ((q : ℕ) → m ≤ q → f q ≡ pos 0) → sum_below (m + n) f ≡ sum_below m f
sum_cut zero n f h = (let e : 0 + n ≡ n = omega arith in rw e (sum_zero n f (λ q l. h q (omega arith))))
sum_cut (suc m) n f h =
    let e : suc m + n ≡ suc (m + n) = omega arith in
    rw e (ap (λ (x : ℤ). f 0 +ℤ x) (sum_cut m n (λ (q : ℕ). f (suc q)) (λ q l. h (suc q) (omega arith))))

sum_two : (m : ℕ) (f : ℕ → ℤ) → sum_below (m + 2) f ≡ sum_below m f +ℤ (f m +ℤ f (suc m))
sum_two zero f = omega (arith, ints)
sum_two (suc m) f =
    let e : suc m + 2 ≡ suc (m + 2) = omega arith in
    let r = sum_two m (λ (q : ℕ). f (suc q)) in
    rw e (omega (arith, ints, r))

-- ---- the combination
-- the values of the first columns combine the other normals to a multiple of the k-th, and they sum up to the denominator
pub record IsMix (t : Table) (normals : List (List ℤ)) (k n : ℕ) : Type 0 where
  pub sum : (q : ℕ) → q < n → sum_below (length normals - 1) (λ (c : ℕ). value_of t c *ℤ lookup (column_at (remove normals k) c) q) ≡ (value_of t (length normals - 1) -ℤ value_of t (length normals)) *ℤ lookup (column_at normals k) q
  pub whole : sum_below (length normals - 1) (value_of t) ≡ t.den

lookup_at_length : (x : List ℤ) (v : ℤ) (n : ℕ) → length x ≡ n → lookup (x ++ v ∷ []) n ≡ v
lookup_at_length [] v zero h = refl
lookup_at_length [] v (suc n) h = absurd (omega arith)
lookup_at_length (a ∷ x) v zero h = absurd (omega arith)
lookup_at_length (a ∷ x) v (suc n) h = lookup_at_length x v n (omega arith)

lookup_below_length : (x : List ℤ) (v : ℤ) (q : ℕ) → q < length x → lookup (x ++ v ∷ []) q ≡ lookup x q
lookup_below_length [] v q h = absurd (omega arith)
lookup_below_length (a ∷ x) v zero h = refl
lookup_below_length (a ∷ x) v (suc q) h = lookup_below_length x v q (omega arith)

pub mixed : (t : Table) (normals : List (List ℤ)) (k n : ℕ) → IsReady t → t.system ≡ system_of normals k → t.rows ≡ suc n → k < length normals → n ≤ 21 → ((j : ℕ) → j < length normals → length (column_at normals j) ≡ n) → objective_of t ≡ pos 0 → IsMix t normals k n
mixed t normals k n w es er h b s o = record {
  sum = λ q l. solved q (all q (omega arith)) l;
  whole = last (all n (omega arith));
}
  where
    x : List ℤ
    x = column_at normals k

    z : length x ≡ n
    z = s k h

    m : ℕ
    m = length normals - 1

    us : List (List ℤ)
    us = map unit_column (counted 0 (suc (length x))) ++ unit_column (length x) ∷ []

    xs : List (List ℤ)
    xs = remove normals k

    lx : length xs ≡ m
    lx = let e = length-remove normals k h in omega arith

    f : length (map normal_column xs) ≡ m
    f = length-map xs normal_column ∙ lx

    width : count_of t ≡ (m + 2) + suc n
    width = let l = length-system normals k h in let e : length t.system ≡ suc (suc (length normals) + suc (length x)) = ap (length {A = List ℤ}) es ∙ l in omega arith

    first : units_of t ≡ m + 2
    first = let e = width in omega arith

    col : (c : ℕ) → c < m → column_at t.system c ≡ normal_column (column_at xs c)
    col c l = rw es (at_normals xs (turned_column x ∷ plain_column x ∷ us) c (rw lx l))

    cp : column_at t.system m ≡ turned_column x
    cp = let e : m + 0 ≡ m = omega arith in rw es (rw (f, e) at (get_or-append-add (map normal_column xs) (turned_column x ∷ plain_column x ∷ us) 0 []))

    cq : column_at t.system (suc m) ≡ plain_column x
    cq = let e : m + 1 ≡ suc m = omega arith in rw es (rw (f, e) at (get_or-append-add (map normal_column xs) (turned_column x ∷ plain_column x ∷ us) 1 []))

    cr : column_at t.system (count_of t) ≡ unit_column n
    cr =
        let c : count_of t ≡ suc (length normals) + suc (length x) = (let e = width in omega arith) in
        rw (c, es) (system_right normals k h ∙ ap unit_column z)

    -- all columns at a row of the system
    all : (q : ℕ) → q < 22 → sum_below m (λ (c : ℕ). value_of t c *ℤ lookup (column_at t.system c) q) +ℤ (value_of t m *ℤ lookup (column_at t.system m) q +ℤ value_of t (suc m) *ℤ lookup (column_at t.system (suc m)) q) ≡ t.den *ℤ lookup (unit_column n) q
    all q l =
        let y = λ (c : ℕ). lookup (column_at t.system c) q in
        sym (ap (λ (u : ℕ). sum_below u (λ (c : ℕ). value_of t c *ℤ y c)) width
        ∙ sum_cut (m + 2) (suc n) (λ (c : ℕ). value_of t c *ℤ y c) (λ c v. ap (λ (a : ℤ). a *ℤ y c) (unit_value t w o c (rw first v)) ∙ zero_mul_z (y c))
        ∙ sum_two m (λ (c : ℕ). value_of t c *ℤ y c))
        ∙ sym (rows_as_columns t y w.tableau) ∙ value_law t w.tableau q ∙ ap (λ (v : List ℤ). t.den *ℤ lookup v q) cr

    part : (q : ℕ) → q < 22 → sum_below m (λ (c : ℕ). value_of t c *ℤ lookup (column_at t.system c) q) ≡ sum_below m (λ (c : ℕ). value_of t c *ℤ lookup (column_at xs c ++ pos 1 ∷ []) q)
    part q l = sum_same m (λ (c : ℕ). value_of t c *ℤ lookup (column_at t.system c) q) (λ (c : ℕ). value_of t c *ℤ lookup (column_at xs c ++ pos 1 ∷ []) q) (λ c v. ap (λ (a : ℤ). value_of t c *ℤ a) (ap (λ (u : List ℤ). lookup u q) (col c v) ∙ filled_in 22 (column_at xs c ++ pos 1 ∷ []) q l))

    at_p : (q : ℕ) → q < 22 → lookup (column_at t.system m) q ≡ negsuc 0 *ℤ lookup x q
    at_p q l = ap (λ (u : List ℤ). lookup u q) cp ∙ filled_in 22 (scale (negsuc 0) x) q l ∙ lookup_scale (negsuc 0) x q

    at_q : (q : ℕ) → q < 22 → lookup (column_at t.system (suc m)) q ≡ lookup x q
    at_q q l = ap (λ (u : List ℤ). lookup u q) cq ∙ filled_in 22 (x ++ pos 0 ∷ []) q l ∙ append_zero x q

    len : (c : ℕ) → c < m → length (column_at xs c) ≡ n
    len c l = removed_length normals k n h s c (rw lx l)

    next : suc m ≡ length normals
    next = omega arith

    solved : (q : ℕ) → sum_below m (λ (c : ℕ). value_of t c *ℤ lookup (column_at t.system c) q) +ℤ (value_of t m *ℤ lookup (column_at t.system m) q +ℤ value_of t (suc m) *ℤ lookup (column_at t.system (suc m)) q) ≡ t.den *ℤ lookup (unit_column n) q → q < n →
        sum_below m (λ (c : ℕ). value_of t c *ℤ lookup (column_at xs c) q) ≡ (value_of t m -ℤ value_of t (length normals)) *ℤ lookup x q
    solved q e l =
        let a = part q (omega arith) ∙ sum_same m (λ (c : ℕ). value_of t c *ℤ lookup (column_at xs c ++ pos 1 ∷ []) q) (λ (c : ℕ). value_of t c *ℤ lookup (column_at xs c) q) (λ c v. ap (λ (a : ℤ). value_of t c *ℤ a) (lookup_below_length (column_at xs c) (pos 1) q (rw (len c v) l))) in
        let u = unit_other 22 n q (λ g. absurd (omega arith)) in
        let g = rw (a, at_p q (omega arith), at_q q (omega arith), u, next) at e in
        ring_by (sum_below m (λ (c : ℕ). value_of t c *ℤ lookup (column_at xs c) q) ∷ value_of t m ∷ value_of t (length normals) ∷ lookup x q ∷ t.den ∷ [])
        (var 0) ((var 1 ⊖ var 2) ⊗ var 3) (num (pos 1)) (var 0 ⊕ (var 1 ⊗ (num (negsuc 0) ⊗ var 3) ⊕ var 2 ⊗ var 3)) (var 4 ⊗ num (pos 0)) tt g

    last : sum_below m (λ (c : ℕ). value_of t c *ℤ lookup (column_at t.system c) n) +ℤ (value_of t m *ℤ lookup (column_at t.system m) n +ℤ value_of t (suc m) *ℤ lookup (column_at t.system (suc m)) n) ≡ t.den *ℤ lookup (unit_column n) n →
        sum_below m (value_of t) ≡ t.den
    last e =
        let a = part n (omega arith) ∙ sum_same m (λ (c : ℕ). value_of t c *ℤ lookup (column_at xs c ++ pos 1 ∷ []) n) (value_of t) (λ c v. ap (λ (a : ℤ). value_of t c *ℤ a) (lookup_at_length (column_at xs c) (pos 1) n (len c v)) ∙ mul_one_z (value_of t c)) in
        let p = lookup_past x n (omega arith) in
        let u = unit_same 22 n (omega arith) in
        let g = rw (a, at_p n (omega arith), at_q n (omega arith), p, u) at e in
        ring_by (sum_below m (value_of t) ∷ value_of t m ∷ value_of t (suc m) ∷ t.den ∷ [])
        (var 0) (var 3) (num (pos 1)) (var 0 ⊕ (var 1 ⊗ (num (negsuc 0) ⊗ num (pos 0)) ⊕ var 2 ⊗ num (pos 0))) (var 3 ⊗ num (pos 1)) tt g

-- ---- the sign of the multiple
pub dot_sum : (x y : List ℤ) → dot x y ≡ sum_below (length x) (λ (q : ℕ). lookup x q *ℤ lookup y q)
dot_sum [] y = refl
dot_sum (a ∷ x) [] = sym (sum_zero (suc (length x)) (λ (q : ℕ). lookup (a ∷ x) q *ℤ lookup [] q) (λ q l. ap (λ (z : ℤ). lookup (a ∷ x) q *ℤ z) (lookup_none q) ∙ mul_zero_z (lookup (a ∷ x) q)))
dot_sum (a ∷ x) (b ∷ y) = ap (λ (z : ℤ). a *ℤ b +ℤ z) (dot_sum x y)

some_positive : (m : ℕ) (f d : ℕ → ℤ) → ((q : ℕ) → pos 0 ≤ℤ f q) → ((q : ℕ) → q < m → pos 0 <ℤ d q) → pos 0 <ℤ sum_below m f → pos 0 <ℤ sum_below m (λ (q : ℕ). f q *ℤ d q)
some_positive zero f d h g p = absurd (omega (arith, ints))
some_positive (suc m) f d h g p = pick (f 0) refl (some_positive m (λ (q : ℕ). f (suc q)) (λ (q : ℕ). d (suc q)) (λ q. h (suc q)) (λ q l. g (suc q) (omega arith)))
  where
    weak : (x : ℤ) → pos 0 <ℤ x → pos 0 ≤ℤ x
    weak x l = omega (arith, ints)

    pick : (x : ℤ) → f 0 ≡ x → (pos 0 <ℤ sum_below m (λ (q : ℕ). f (suc q)) → pos 0 <ℤ sum_below m (λ (q : ℕ). f (suc q) *ℤ d (suc q))) → pos 0 <ℤ (f 0 *ℤ d 0 +ℤ sum_below m (λ (q : ℕ). f (suc q) *ℤ d (suc q)))
    pick (pos zero) e r =
        let z : f 0 *ℤ d 0 ≡ pos 0 = rw e (zero_mul_z (d 0)) in
        let a = r (omega (arith, ints, p, e)) in
        omega (arith, ints, z, a)
    pick (pos (suc n)) e r =
        let a = sum_not_negative m (λ (q : ℕ). f (suc q) *ℤ d (suc q)) (λ q l. mul_nonneg_z (f (suc q)) (d (suc q)) (h (suc q)) (weak (d (suc q)) (g (suc q) (omega arith)))) in
        let b = mul_pos_z (f 0) (d 0) (rw e (omega (arith, ints))) (g 0 (omega arith)) in
        omega (arith, ints, a, b)
    pick (negsuc n) e r = let a = h 0 in absurd (omega (arith, ints, a, e))

sum_of_products : (m n : ℕ) (f : ℕ → ℤ) (x : ℕ → ℕ → ℤ) (w : ℕ → ℤ) → sum_below n (λ (q : ℕ). sum_below m (λ (c : ℕ). f c *ℤ x c q) *ℤ w q) ≡ sum_below m (λ (c : ℕ). f c *ℤ sum_below n (λ (q : ℕ). x c q *ℤ w q))
sum_of_products m n f x w =
    sum_same n (λ (q : ℕ). sum_below m (λ (c : ℕ). f c *ℤ x c q) *ℤ w q) (λ (q : ℕ). sum_below m (λ (c : ℕ). f c *ℤ x c q *ℤ w q)) (λ q l. sum_times m (w q) (λ (c : ℕ). f c *ℤ x c q))
    ∙ sum_below_swap n m (λ (q c : ℕ). f c *ℤ x c q *ℤ w q)
    ∙ sum_same m (λ (c : ℕ). sum_below n (λ (q : ℕ). f c *ℤ x c q *ℤ w q)) (λ (c : ℕ). f c *ℤ sum_below n (λ (q : ℕ). x c q *ℤ w q)) (λ c l. sum_same n (λ (q : ℕ). f c *ℤ x c q *ℤ w q) (λ (q : ℕ). f c *ℤ (x c q *ℤ w q)) (λ q k. ring (f c ∷ x c q ∷ w q ∷ []) (var 0 ⊗ var 1 ⊗ var 2) (var 0 ⊗ (var 1 ⊗ var 2)) tt) ∙ sum_below_scale n (f c) (λ (q : ℕ). x c q *ℤ w q))

pub positive_first : (a b : ℤ) → pos 0 <ℤ (a *ℤ b) → pos 0 <ℤ b → pos 0 <ℤ a
positive_first (pos (suc n)) b h k = omega (arith, ints)
positive_first (pos zero) b h k = let e = zero_mul_z b in absurd (omega (arith, ints))
positive_first (negsuc n) b h k =
    let m = mul_le_mul_z b (negsuc n) (pos 0) (omega (arith, ints)) (omega (arith, ints)) in
    let e = mul_zero_z b in
    let f = mul_comm_z b (negsuc n) in
    absurd (omega (arith, ints))

pub mix_positive : (t : Table) (normals : List (List ℤ)) (k n : ℕ) (form : List ℤ) → IsReady t → k < length normals → ((j : ℕ) → j < length normals → length (column_at normals j) ≡ n) → ((j : ℕ) → j < length normals → pos 0 <ℤ dot (column_at normals j) form) → IsMix t normals k n →
    pos 0 <ℤ (value_of t (length normals - 1) -ℤ value_of t (length normals))
mix_positive t normals k n form w h s g x = positive_first scale_is (dot (column_at normals k) form) (rw both left) (g k h)
  where
    m : ℕ
    m = length normals - 1

    xs : List (List ℤ)
    xs = remove normals k

    lx : length xs ≡ m
    lx = let e = length-remove normals k h in omega arith

    scale_is : ℤ
    scale_is = value_of t m -ℤ value_of t (length normals)

    at : (v : List ℤ) → length v ≡ n → dot v form ≡ sum_below n (λ (q : ℕ). lookup v q *ℤ lookup form q)
    at v e = dot_sum v form ∙ ap (λ (u : ℕ). sum_below u (λ (q : ℕ). lookup v q *ℤ lookup form q)) e

    other : (c : ℕ) → c < m → pos 0 <ℤ sum_below n (λ (q : ℕ). lookup (column_at xs c) q *ℤ lookup form q)
    other c l = rw (sym (at (column_at xs c) (removed_length normals k n h s c (rw lx l)))) (pick (dec_le k c))
      where
        pick : Dec (k ≤ c) → pos 0 <ℤ dot (column_at xs c) form
        pick (yes p) = rw (get_or-remove_above normals k [] c p h) (g (c + 1) (omega arith))
        pick (no p) = rw (get_or-remove_below normals k [] c (omega arith) h) (g c (omega arith))

    left : pos 0 <ℤ sum_below m (λ (c : ℕ). value_of t c *ℤ sum_below n (λ (q : ℕ). lookup (column_at xs c) q *ℤ lookup form q))
    left = some_positive m (value_of t) (λ (c : ℕ). sum_below n (λ (q : ℕ). lookup (column_at xs c) q *ℤ lookup form q)) (value_nonneg t w) other (rw x.whole w.tableau.positive)

    both : scale_is *ℤ dot (column_at normals k) form ≡ sum_below m (λ (c : ℕ). value_of t c *ℤ sum_below n (λ (q : ℕ). lookup (column_at xs c) q *ℤ lookup form q))
    both =
        ap (λ (z : ℤ). scale_is *ℤ z) (at (column_at normals k) (s k h))
        ∙ sym (sum_below_scale n scale_is (λ (q : ℕ). lookup (column_at normals k) q *ℤ lookup form q))
        ∙ sum_same n (λ (q : ℕ). scale_is *ℤ (lookup (column_at normals k) q *ℤ lookup form q)) (λ (q : ℕ). sum_below m (λ (c : ℕ). value_of t c *ℤ lookup (column_at xs c) q) *ℤ lookup form q) (λ q l. ring (scale_is ∷ lookup (column_at normals k) q ∷ lookup form q ∷ []) (var 0 ⊗ (var 1 ⊗ var 2)) (var 0 ⊗ var 1 ⊗ var 2) tt ∙ ap (λ (z : ℤ). z *ℤ lookup form q) (sym (x.sum q l)))
        ∙ sum_of_products m n (value_of t) (λ (c q : ℕ). lookup (column_at xs c) q) (lookup form)

-- at most n of the first columns have a value, since p has one
pub mix_few : (t : Table) (normals : List (List ℤ)) (n : ℕ) → 1 ≤ length normals → IsReady t → t.rows ≡ suc n → pos 0 <ℤ (value_of t (length normals - 1) -ℤ value_of t (length normals)) → sum_below (length normals - 1) (occurs_of t) ≤ℤ pos n
mix_few t normals n h w e p =
    let m = length normals - 1 in
    let a = occurs_few t (m + 1) in
    let b : sum_below (m + 1) (occurs_of t) ≡ sum_below m (occurs_of t) +ℤ occurs_of t m = sum_more m (occurs_of t) in
    let c = value_nonneg t w (length normals) in
    let d = occurs_some t m (λ z. absurd (apart (value_of t m) (value_of t (length normals)) p c z)) in
    omega (arith, ints, a, b, d, e)
  where
    apart : (x y : ℤ) → pos 0 <ℤ (x -ℤ y) → pos 0 ≤ℤ y → x ≡ pos 0 → ⊥
    apart x y h k z = omega (arith, ints)
