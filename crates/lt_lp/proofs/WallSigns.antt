-- The wall form of a stopped tableau, before it is made primitive: minus the sums of the unit columns.
use Rattle.std.proofs.Common.{◌≡◌, ◌≢◌, refl, sym, ◌∙◌, ap, ℕ, zero, suc, ◌+◌, ◌-◌, ◌≤◌, ◌<◌, ℤ, pos, negsuc, ◌+ℤ◌, ◌*ℤ◌, ◌≤ℤ◌, ◌<ℤ◌, arith, List, [], ◌∷◌, ◌++◌, map, length}
use Rattle.std.specs.Prelude.{remove}
use Rattle.std.proofs.lemmas.Int.{ints}
use Rattle.std.proofs.lemmas.List.{length-map, get_or-append-add}
use Rattle.std.proofs.lemmas.List.Edits.{length-remove, get_or-remove_above, get_or-remove_below}
use native.Mathlib.Decide.{dec_le}
use Rattle.lt_model.specs.Padded.{lookup, head_z, tail_z}
use Rattle.lt_model.specs.Vectors.{dot, scale}
use Rattle.lt_tableau.specs.Numbers.{sum_below}
use Rattle.lt_tableau.specs.System.{system_of, counted, normal_column, turned_column, plain_column, unit_column}
use Rattle.lt_tableau.specs.Table.{Table, IsTableau, count_of, units_of}
use Rattle.lt_tableau.specs.Numbers.{column_at}
use Rattle.lt_lp.specs.Rule.{objective_of, gain_of, listed}
use Rattle.lt_model.proofs.Integers.{mul_zero_z}
use Rattle.lt_model.proofs.Ring.{ring_by, var, num, ◌⊕◌, ◌⊗◌}
use Rattle.lt_tableau.proofs.Sums.{lookup_scale}
use Rattle.lt_tableau.proofs.Sums.{sum_same, sum_zero, lookup_none}
use Rattle.lt_lp.proofs.Columns.{filled_in}
use Rattle.lt_model.proofs.Squares.{length-scale}
use Rattle.lt_tableau.proofs.Starts.{length-system, system_right}
use Rattle.lt_lp.proofs.Signs.{gain_law, objective_last, pairing, wall_others}

pub dot_listed : (m : ℕ) (y : ℕ → ℤ) (x : List ℤ) → dot (listed m y) x ≡ sum_below m (λ (q : ℕ). y q *ℤ lookup x q)
dot_listed zero y x = refl
dot_listed (suc m) y [] = sym (sum_zero (suc m) (λ (q : ℕ). y q *ℤ lookup [] q) (λ q l. rw (lookup_none q) (mul_zero_z (y q))))
dot_listed (suc m) y (a ∷ x) = ap (λ (z : ℤ). y zero *ℤ a +ℤ z) (dot_listed m (λ (q : ℕ). y (suc q)) x)

sum_turned_signs : (m : ℕ) (y : ℕ → ℤ) (x : List ℤ) → sum_below m (λ (q : ℕ). y q *ℤ (negsuc 0 *ℤ lookup x q)) ≡ negsuc 0 *ℤ sum_below m (λ (q : ℕ). y q *ℤ lookup x q)
sum_turned_signs zero y x = refl
sum_turned_signs (suc m) y x =
    let e = sum_turned_signs m (λ (q : ℕ). y (suc q)) (tail_z x) in
    ring_by (y zero ∷ head_z x ∷ sum_below m (λ (q : ℕ). y (suc q) *ℤ lookup (tail_z x) q) ∷ sum_below m (λ (q : ℕ). y (suc q) *ℤ (negsuc 0 *ℤ lookup (tail_z x) q)) ∷ [])
    (var 0 ⊗ (num (negsuc 0) ⊗ var 1) ⊕ var 3) (num (negsuc 0) ⊗ (var 0 ⊗ var 1 ⊕ var 2)) (num (pos 1)) (var 3) (num (negsuc 0) ⊗ var 2) tt e

-- the gain of a column whose numbers are those of a list with one more
gain_of_list : (t : Table) (m c : ℕ) (x : List ℤ) (z : ℤ) → IsTableau t → t.rows ≡ suc m → length x ≡ m → ((q : ℕ) → q < t.rows → lookup (column_at t.system c) q ≡ lookup (x ++ z ∷ []) q) →
    gain_of t c ≡ sum_below m (λ (q : ℕ). gain_of t (units_of t + q) *ℤ lookup x q) +ℤ gain_of t (units_of t + m) *ℤ z
gain_of_list t m c x z w r l s =
    let y : ℕ → ℤ = λ (q : ℕ). gain_of t (units_of t + q) in
    gain_law t w c
    ∙ sum_same t.rows (λ (q : ℕ). y q *ℤ lookup (column_at t.system c) q) (λ (q : ℕ). y q *ℤ lookup (x ++ z ∷ []) q) (λ q h. ap (λ (v : ℤ). y q *ℤ v) (s q h))
    ∙ ap (λ (n : ℕ). sum_below n (λ (q : ℕ). y q *ℤ lookup (x ++ z ∷ []) q)) r
    ∙ pairing m y x z l

-- p and q: neither gain is positive, so the pairing is 0
pub wall_own : (t : Table) (m p : ℕ) (x : List ℤ) → IsTableau t → t.rows ≡ suc m → length x ≡ m →
    ((q : ℕ) → q < t.rows → lookup (column_at t.system p) q ≡ lookup (scale (negsuc 0) x ++ pos 0 ∷ []) q) → ((q : ℕ) → q < t.rows → lookup (column_at t.system (suc p)) q ≡ lookup (x ++ pos 0 ∷ []) q) →
    gain_of t p ≤ℤ pos 0 → gain_of t (suc p) ≤ℤ pos 0 → sum_below m (λ (q : ℕ). gain_of t (units_of t + q) *ℤ lookup x q) ≡ pos 0
wall_own t m p x w r l sp sq gp gq =
    let y : ℕ → ℤ = λ (q : ℕ). gain_of t (units_of t + q) in
    let a = gain_of_list t m p (scale (negsuc 0) x) (pos 0) w r (length-scale (negsuc 0) x ∙ l) sp in
    let b = gain_of_list t m (suc p) x (pos 0) w r l sq in
    let d : sum_below m (λ (q : ℕ). y q *ℤ lookup (scale (negsuc 0) x) q) ≡ negsuc 0 *ℤ sum_below m (λ (q : ℕ). y q *ℤ lookup x q) =
    sum_same m (λ (q : ℕ). y q *ℤ lookup (scale (negsuc 0) x) q) (λ (q : ℕ). y q *ℤ (negsuc 0 *ℤ lookup x q)) (λ q h. ap (λ (v : ℤ). y q *ℤ v) (lookup_scale (negsuc 0) x q)) ∙ sum_turned_signs m y x in
    let z = mul_zero_z (y m) in
    omega (arith, ints)

-- ---- which column is which normal
pub at_normals : (xs cs : List (List ℤ)) (c : ℕ) → c < length xs → column_at (map normal_column xs ++ cs) c ≡ normal_column (column_at xs c)
at_normals [] cs c h = absurd (omega arith)
at_normals (x ∷ xs) cs zero h = refl
at_normals (x ∷ xs) cs (suc c) h = at_normals xs cs c (omega arith)

-- the column of the place i
pub column_of_place : (normals : List (List ℤ)) (k i : ℕ) → k < length normals → i < length normals → i ≢ k → (c : ℕ) × (suc c < length normals) × (column_at (system_of normals k) c ≡ normal_column (column_at normals i))
column_of_place normals k i h l n = pick (dec_le k i)
  where
    pick : Dec (k ≤ i) → (c : ℕ) × (suc c < length normals) × (column_at (system_of normals k) c ≡ normal_column (column_at normals i))
    pick (yes q) =
        let e = length-remove normals k h in
        let j : (i - 1) + 1 ≡ i = omega arith in
        let g = get_or-remove_above normals k [] (i - 1) (omega arith) h in
        let f : column_at (remove normals k) (i - 1) ≡ column_at normals i = g ∙ ap (column_at normals) j in
        (i - 1, omega arith, at_normals (remove normals k) _ (i - 1) (omega arith) ∙ ap normal_column f)
    pick (no q) =
        let e = length-remove normals k h in
        let f = get_or-remove_below normals k [] i (omega arith) h in
        (i, omega arith, at_normals (remove normals k) _ i (omega arith) ∙ ap normal_column f)

pub append_zero : (x : List ℤ) (q : ℕ) → lookup (x ++ pos 0 ∷ []) q ≡ lookup x q
append_zero [] zero = refl
append_zero [] (suc q) = refl
append_zero (a ∷ x) zero = refl
append_zero (a ∷ x) (suc q) = append_zero x q

-- y on the k-th normal is 0, on each other one it is negative, and its last number is positive
pub record WallSigns (t : Table) (normals : List (List ℤ)) (k n : ℕ) : Type 0 where
  pub last : pos 0 <ℤ gain_of t (units_of t + n)
  pub own : dot (listed n (λ (q : ℕ). gain_of t (units_of t + q))) (column_at normals k) ≡ pos 0
  pub others : (i : ℕ) → i < length normals → i ≢ k → dot (listed n (λ (q : ℕ). gain_of t (units_of t + q))) (column_at normals i) <ℤ pos 0

pub wall_signs : (t : Table) (normals : List (List ℤ)) (k n : ℕ) → IsTableau t → t.system ≡ system_of normals k → t.rows ≡ suc n → k < length normals → n ≤ 21 → ((j : ℕ) → j < length normals → length (column_at normals j) ≡ n) →
    ((c : ℕ) → c < units_of t → gain_of t c ≤ℤ pos 0) → pos 0 <ℤ objective_of t → WallSigns t normals k n
wall_signs t normals k n w es er h b s g o =
    let x = column_at normals k in
    let z : length x ≡ n = s k h in
    let xs = remove normals k in
    let e = length-remove normals k h in
    let l : length t.system ≡ suc (suc (length normals) + suc (length x)) = ap (length {A = List ℤ}) es ∙ length-system normals k h in
    let u : units_of t ≡ suc (length normals) = omega arith in
    let us = map unit_column (counted 0 (suc (length x))) ++ unit_column (length x) ∷ [] in
    let f : length (map normal_column xs) ≡ length xs = length-map xs normal_column in
    let cp : column_at t.system (length xs + 0) ≡ turned_column x = rw es (rw f at (get_or-append-add (map normal_column xs) (turned_column x ∷ plain_column x ∷ us) 0 [])) in
    let cq : column_at t.system (length xs + 1) ≡ plain_column x = rw es (rw f at (get_or-append-add (map normal_column xs) (turned_column x ∷ plain_column x ∷ us) 1 [])) in
    let p0 : length xs + 0 ≡ length xs = omega arith in
    let p1 : length xs + 1 ≡ suc (length xs) = omega arith in
    let cp' : column_at t.system (length xs) ≡ turned_column x = rw p0 at cp in
    let cq' : column_at t.system (suc (length xs)) ≡ plain_column x = rw p1 at cq in
    let c : count_of t ≡ suc (length normals) + suc (length x) = omega arith in
    let cr : column_at t.system (count_of t) ≡ unit_column (length x) = rw (c, es) (system_right normals k h) in
    let last : pos 0 <ℤ gain_of t (units_of t + n) =
    rw (← objective_last t n w (omega arith) (λ q a. rw (cr, z) refl)) o in
    record {
      last = last;
      own = dot_listed n (λ (q : ℕ). gain_of t (units_of t + q)) x ∙ wall_own t n (length xs) x w er z
          (λ q a. rw cp' (filled_in 22 (scale (negsuc 0) x) q (omega arith) ∙ sym (append_zero (scale (negsuc 0) x) q)))
          (λ q a. rw cq' (filled_in 22 (x ++ pos 0 ∷ []) q (omega arith)))
          (g (length xs) (omega arith)) (g (suc (length xs)) (omega arith));
      others = λ i a m. other i a m last u;
    }
  where
    other : (i : ℕ) → i < length normals → i ≢ k → pos 0 <ℤ gain_of t (units_of t + n) → units_of t ≡ suc (length normals) → dot (listed n (λ (q : ℕ). gain_of t (units_of t + q))) (column_at normals i) <ℤ pos 0
    other i a m last u =
        let v = column_of_place normals k i h a m in
        let r : t.rows ≤ 22 = w.few_rows in
        let d : column_at t.system v.0 ≡ normal_column (column_at normals i) = rw es v.2 in
        let bound : v.0 < units_of t = (let y : suc v.0 < length normals = v.1 in omega arith) in
        rw (dot_listed n (λ (q : ℕ). gain_of t (units_of t + q)) (column_at normals i))
        (wall_others t n v.0 (column_at normals i) w er (s i a) (λ q j. rw d (filled_in 22 (column_at normals i ++ pos 1 ∷ []) q (omega arith))) (g v.0 bound) last)
