-- The wall form of a stopped tableau is not 0, also where the list has one normal.
use Rattle.std.proofs.Common.{◌≡◌, ◌≢◌, ◌⊎◌, inl, inr, refl, sym, ◌∙◌, ap, ap₂, ℕ, zero, suc, ◌+◌, ◌-◌, ◌≤◌, ◌<◌, ℤ, pos, negsuc, ◌+ℤ◌, ◌*ℤ◌, arith, List, [], ◌∷◌, ◌++◌, map, length, cond, nat_le, Bool, true, false}
use Rattle.std.specs.Prelude.{remove}
use Rattle.std.proofs.lemmas.Int.{ints}
use Rattle.std.proofs.lemmas.List.{length-map, get_or-append-add}
use Rattle.std.proofs.lemmas.List.Edits.{length-remove}
use native.Mathlib.Decide.{dec_le, ℕ_discrete}
use Rattle.lt_model.specs.Padded.{lookup}
use Rattle.lt_model.specs.Vectors.{dot, scale}
use Rattle.lt_tableau.specs.Numbers.{sum_below}
use Rattle.lt_tableau.specs.System.{system_of, counted, normal_column, turned_column, plain_column, unit_column}
use Rattle.lt_tableau.specs.Table.{Table, IsTableau, entry_of, basic_of, units_of}
use Rattle.lt_tableau.specs.Numbers.{column_at}
use Rattle.lt_lp.specs.Rule.{at_unit, gain_of, listed}
use Rattle.lt_model.proofs.Integers.{add_zero_z, zero_mul_z}
use Rattle.lt_model.proofs.Ring.{ring, var, num, ◌⊗◌}
use Rattle.lt_tableau.proofs.Sums.{lookup_scale}
use Rattle.lt_tableau.proofs.Sums.{sum_same, sum_zero}
use Rattle.lt_lp.proofs.Columns.{sum_below_scale}
use Rattle.lt_lp.proofs.Loops.{nat_le_true}
use Rattle.lt_lp.proofs.Columns.{filled_in}
use Rattle.lt_tableau.proofs.Starts.{length-system}
use Rattle.lt_lp.proofs.WallSigns.{WallSigns, append_zero}

sum_one : (m i : ℕ) (f : ℕ → ℤ) → i < m → ((q : ℕ) → q < m → q ≢ i → f q ≡ pos 0) → sum_below m f ≡ f i
sum_one zero i f h z = absurd (omega arith)
sum_one (suc m) zero f h z = ap (λ (x : ℤ). f 0 +ℤ x) (sum_zero m (λ (q : ℕ). f (suc q)) (λ q l. z (suc q) (omega arith) (λ e. omega arith))) ∙ add_zero_z (f 0)
sum_one (suc m) (suc i) f h z =
    let e = sum_one m i (λ (q : ℕ). f (suc q)) (omega arith) (λ q l n. z (suc q) (omega arith) (λ e. n (omega arith))) in
    let d = z 0 (omega arith) (λ e. omega arith) in
    omega (arith, ints)

-- the gain of a basic unit column is the denominator
gain_at_basic : (t : Table) → IsTableau t → (row : ℕ) → row < t.rows → units_of t ≤ basic_of t row → gain_of t (basic_of t row) ≡ t.den
gain_at_basic t w row l h =
    sum_one t.rows row (λ (r : ℕ). at_unit t r (entry_of t r (basic_of t row))) l (λ r a n. part (nat_le (units_of t) (basic_of t r)) (entry_of t r (basic_of t row)) (w.other row r l a n))
    ∙ ap (λ (b : Bool). cond b (entry_of t row (basic_of t row)) (pos 0)) (nat_le_true (units_of t) (basic_of t row) h) ∙ w.own row l
  where
    part : (b : Bool) (x : ℤ) → x ≡ pos 0 → cond b x (pos 0) ≡ pos 0
    part true x e = e
    part false x e = refl

pub basic_different : (t : Table) → IsTableau t → (a b : ℕ) → a < t.rows → b < t.rows → a ≢ b → basic_of t a ≢ basic_of t b
basic_different t w a b h k n e =
    let o = w.own a h in
    let z : entry_of t a (basic_of t a) ≡ pos 0 = ap (entry_of t a) e ∙ w.other b a k h n in
    let p = w.positive in
    omega (arith, ints)

-- a column and the one after it, with the sign changed, are not both basic
twin_different : (t : Table) → IsTableau t → (p : ℕ) → ((q : ℕ) → q < t.rows → lookup (column_at t.system (suc p)) q ≡ negsuc 0 *ℤ lookup (column_at t.system p) q) → (a b : ℕ) → a < t.rows → b < t.rows → a ≢ b → basic_of t a ≡ p → basic_of t b ≡ suc p → ⊥
twin_different t w p tw a b h k n ea eb =
    let f : ℕ → ℤ = λ (q : ℕ). entry_of t a (units_of t + q) in
    let r : entry_of t a (suc p) ≡ negsuc 0 *ℤ entry_of t a p =
    w.row_law a (suc p) h
    ∙ sum_same t.rows (λ (q : ℕ). f q *ℤ lookup (column_at t.system (suc p)) q) (λ (q : ℕ). negsuc 0 *ℤ (f q *ℤ lookup (column_at t.system p) q))
    (λ q l. ap (λ (z : ℤ). f q *ℤ z) (tw q l) ∙ ring (f q ∷ lookup (column_at t.system p) q ∷ []) (var 0 ⊗ (num (negsuc 0) ⊗ var 1)) (num (negsuc 0) ⊗ (var 0 ⊗ var 1)) tt)
    ∙ sum_below_scale t.rows (negsuc 0) (λ (q : ℕ). f q *ℤ lookup (column_at t.system p) q)
    ∙ ap (λ (z : ℤ). negsuc 0 *ℤ z) (sym (w.row_law a p h)) in
    let o : entry_of t a p ≡ t.den = ap (entry_of t a) (sym ea) ∙ w.own a h in
    let z : entry_of t a (suc p) ≡ pos 0 = ap (entry_of t a) (sym eb) ∙ w.other b a k h n in
    let d = w.positive in
    omega (arith, ints)

some_of_dot : (m : ℕ) (y : ℕ → ℤ) (x : List ℤ) → dot (listed m y) x ≢ pos 0 → (q : ℕ) × (q < m) × (y q ≢ pos 0)
some_of_dot zero y x n = absurd (n refl)
some_of_dot (suc m) y [] n = absurd (n refl)
some_of_dot (suc m) y (a ∷ x) n = pick (y 0) refl (some_of_dot m (λ (q : ℕ). y (suc q)) x)
  where
    later : y 0 ≡ pos 0 → (dot (listed m (λ (q : ℕ). y (suc q))) x ≢ pos 0 → (q : ℕ) × (q < m) × (y (suc q) ≢ pos 0)) → (q : ℕ) × (q < suc m) × (y q ≢ pos 0)
    later e f =
        let r = f (λ z. n (ap (λ (v : ℤ). v *ℤ a +ℤ dot (listed m (λ (q : ℕ). y (suc q))) x) e ∙ ap₂ (λ (u v : ℤ). u +ℤ v) (zero_mul_z a) z)) in
        let l = r.1 in
        (suc r.0, omega arith, r.2)

    pick : (z : ℤ) → y 0 ≡ z → (dot (listed m (λ (q : ℕ). y (suc q))) x ≢ pos 0 → (q : ℕ) × (q < m) × (y (suc q) ≢ pos 0)) → (q : ℕ) × (q < suc m) × (y q ≢ pos 0)
    pick (pos zero) e f = later e f
    pick (pos (suc b)) e f = (0, omega arith, λ z. omega (arith, ints))
    pick (negsuc b) e f = (0, omega arith, λ z. omega (arith, ints))

-- two unit columns, and no two of p and q, among three rows
lone : (t : Table) (n : ℕ) → IsTableau t → t.rows ≡ suc n → 2 ≤ n → units_of t ≡ 2 → ((q : ℕ) → q < t.rows → lookup (column_at t.system 1) q ≡ negsuc 0 *ℤ lookup (column_at t.system 0) q) → (q : ℕ) × (q < n) × (gain_of t (units_of t + q) ≢ pos 0)
lone t n w er h u tw = three (kind 0 (omega arith)) (kind 1 (omega arith)) (kind 2 (omega arith))
  where
    kind : (r : ℕ) → r < t.rows → ((q : ℕ) × (q < n) × (gain_of t (units_of t + q) ≢ pos 0)) ⊎ ((basic_of t r < 2) ⊎ (basic_of t r ≡ 2 + n))
    kind r l = pick (dec_le 2 (basic_of t r)) (ℕ_discrete (basic_of t r) (2 + n))
      where
        pick : Dec (2 ≤ basic_of t r) → Dec (basic_of t r ≡ 2 + n) → ((q : ℕ) × (q < n) × (gain_of t (units_of t + q) ≢ pos 0)) ⊎ ((basic_of t r < 2) ⊎ (basic_of t r ≡ 2 + n))
        pick (no a) y = inr (inl (omega arith))
        pick (yes a) (yes b) = inr (inr b)
        pick (yes a) (no b) =
            let i = w.basic_in r l in
            let wide = w.wide in
            let e : units_of t + (basic_of t r - 2) ≡ basic_of t r = omega arith in
            let g : gain_of t (units_of t + (basic_of t r - 2)) ≡ t.den = ap (gain_of t) e ∙ gain_at_basic t w r l (omega arith) in
            let p = w.positive in
            let m : basic_of t r ≢ 2 + n = b in
            inl (basic_of t r - 2, omega arith, λ z. omega (arith, ints))

    low : (a b : ℕ) → a < t.rows → b < t.rows → a ≢ b → basic_of t a < 2 → basic_of t b < 2 → ⊥
    low a b h k n x y = pick (ℕ_discrete (basic_of t a) 0) (ℕ_discrete (basic_of t b) 0)
      where
        pick : Dec (basic_of t a ≡ 0) → Dec (basic_of t b ≡ 0) → ⊥
        pick (yes p) (yes q) = basic_different t w a b h k n (p ∙ sym q)
        pick (yes p) (no q) = twin_different t w 0 tw a b h k n p (omega arith)
        pick (no p) (yes q) = twin_different t w 0 tw b a k h (λ e. n (sym e)) q (omega arith)
        pick (no p) (no q) = basic_different t w a b h k n (omega arith)

    top : (a b : ℕ) → a < t.rows → b < t.rows → a ≢ b → basic_of t a ≡ 2 + n → basic_of t b ≡ 2 + n → ⊥
    top a b h k m x y = basic_different t w a b h k m (x ∙ sym y)

    three : ((q : ℕ) × (q < n) × (gain_of t (units_of t + q) ≢ pos 0)) ⊎ ((basic_of t 0 < 2) ⊎ (basic_of t 0 ≡ 2 + n)) → ((q : ℕ) × (q < n) × (gain_of t (units_of t + q) ≢ pos 0)) ⊎ ((basic_of t 1 < 2) ⊎ (basic_of t 1 ≡ 2 + n)) → ((q : ℕ) × (q < n) × (gain_of t (units_of t + q) ≢ pos 0)) ⊎ ((basic_of t 2 < 2) ⊎ (basic_of t 2 ≡ 2 + n)) → ((q : ℕ) × (q < n) × (gain_of t (units_of t + q) ≢ pos 0))
    three (inl f) y z = f
    three (inr x) (inl f) z = f
    three (inr x) (inr y) (inl f) = f
    three (inr (inl x)) (inr (inl y)) (inr z) = absurd (low 0 1 (omega arith) (omega arith) (λ e. omega arith) x y)
    three (inr (inl x)) (inr (inr y)) (inr (inl z)) = absurd (low 0 2 (omega arith) (omega arith) (λ e. omega arith) x z)
    three (inr (inl x)) (inr (inr y)) (inr (inr z)) = absurd (top 1 2 (omega arith) (omega arith) (λ e. omega arith) y z)
    three (inr (inr x)) (inr (inl y)) (inr (inl z)) = absurd (low 1 2 (omega arith) (omega arith) (λ e. omega arith) y z)
    three (inr (inr x)) (inr (inl y)) (inr (inr z)) = absurd (top 0 2 (omega arith) (omega arith) (λ e. omega arith) x z)
    three (inr (inr x)) (inr (inr y)) (inr z) = absurd (top 0 1 (omega arith) (omega arith) (λ e. omega arith) x y)

-- one of the first n sums of the unit columns is not 0
pub wall_some : (t : Table) (normals : List (List ℤ)) (k n : ℕ) → IsTableau t → t.system ≡ system_of normals k → t.rows ≡ suc n → k < length normals → 2 ≤ n → n ≤ 21 → ((j : ℕ) → j < length normals → length (column_at normals j) ≡ n) → WallSigns t normals k n → ((q : ℕ) × (q < n) × (gain_of t (units_of t + q) ≢ pos 0))
wall_some t normals k n w es er h two b s g = pick (dec_le 2 (length normals)) (ℕ_discrete k 0)
  where
    from : (i : ℕ) → i < length normals → i ≢ k → ((q : ℕ) × (q < n) × (gain_of t (units_of t + q) ≢ pos 0))
    from i l m = let o = g.others i l m in some_of_dot n (λ (q : ℕ). gain_of t (units_of t + q)) (column_at normals i) (λ z. omega (arith, ints))

    pick : Dec (2 ≤ length normals) → Dec (k ≡ 0) → ((q : ℕ) × (q < n) × (gain_of t (units_of t + q) ≢ pos 0))
    pick (yes a) (yes z) = from 1 (omega arith) (λ e. omega arith)
    pick (yes a) (no z) = from 0 (omega arith) (λ e. z (sym e))
    pick (no a) y =
        let x = column_at normals k in
        let z : length x ≡ n = s k h in
        let xs = remove normals k in
        let e = length-remove normals k h in
        let l : length t.system ≡ suc (suc (length normals) + suc (length x)) = ap (length {A = List ℤ}) es ∙ length-system normals k h in
        let us = map unit_column (counted 0 (suc (length x))) ++ unit_column (length x) ∷ [] in
        let f : length (map normal_column xs) ≡ length xs = length-map xs normal_column in
        let cp : column_at t.system (length xs + 0) ≡ turned_column x = rw es (rw f at (get_or-append-add (map normal_column xs) (turned_column x ∷ plain_column x ∷ us) 0 [])) in
        let cq : column_at t.system (length xs + 1) ≡ plain_column x = rw es (rw f at (get_or-append-add (map normal_column xs) (turned_column x ∷ plain_column x ∷ us) 1 [])) in
        let p0 : length xs + 0 ≡ 0 = omega arith in
        let p1 : length xs + 1 ≡ 1 = omega arith in
        let cp' : column_at t.system 0 ≡ turned_column x = rw p0 at cp in
        let cq' : column_at t.system 1 ≡ plain_column x = rw p1 at cq in
        lone t n w er two (omega arith) (λ q a.
        ap (λ (v : List ℤ). lookup v q) cq' ∙ filled_in 22 (x ++ pos 0 ∷ []) q (omega arith) ∙ append_zero x q
        ∙ ring (lookup x q ∷ []) (var 0) (num (negsuc 0) ⊗ (num (negsuc 0) ⊗ var 0)) tt
        ∙ ap (λ (v : ℤ). negsuc 0 *ℤ v) (sym (lookup_scale (negsuc 0) x q) ∙ sym (filled_in 22 (scale (negsuc 0) x) q (omega arith)) ∙ ap (λ (v : List ℤ). lookup v q) (sym cp')))
