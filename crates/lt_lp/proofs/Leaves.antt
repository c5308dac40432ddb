-- The row that leaves: there is one, and no two are equal. The first tableau is ready.
use Rattle.std.proofs.Common.{subst, ◌≡◌, ◌≢◌, sym, ◌∙◌, ap, ℕ, zero, suc, ◌+◌, ◌-◌, ◌≤◌, ◌<◌, ℤ, pos, negsuc, ◌*ℤ◌, ◌≤ℤ◌, ◌<ℤ◌, arith, [], ◌∷◌, cond, nat_le, Bool, true, false}
use Rattle.std.proofs.lemmas.Int.{ints, by_lt_z}
use native.Mathlib.Decide.{ℕ_discrete, dec_le}
use Rattle.lt_model.specs.Padded.{lookup}
use Rattle.lt_model.specs.Vectors.{unit}
use Rattle.lt_tableau.specs.Numbers.{sum_below}
use Rattle.lt_tableau.specs.Table.{Table, IsTableau, entry_of, basic_of, count_of, units_of}
use Rattle.lt_tableau.specs.Numbers.{column_at}
use Rattle.lt_tableau.specs.Kept.{IsStart}
use Rattle.lt_lp.specs.Rule.{at_unit, unit_sum, number_of, IsLexPositive, IsBefore, IsLeaving, IsPivotOf, IsReady}
use Rattle.lt_model.proofs.Integers.{zero_mul_z}
use Rattle.lt_model.proofs.Ring.{ring, ring_by, ring_by_two, var, num, ◌⊕◌, ◌⊗◌}
use Rattle.lt_model.proofs.Inequalities.{mul_pos_z, mul_lt_mul_z, mul_le_mul_z, cancel_z}
use Rattle.lt_tableau.proofs.Sums.{unit_same, unit_other}
use Rattle.lt_lp.proofs.Falls.{positive_step}

sum_scaled : (n : ℕ) (p s : ℤ) (f g x : ℕ → ℤ) → ((q : ℕ) → q < n → f q *ℤ p ≡ g q *ℤ s) → sum_below n (λ (q : ℕ). f q *ℤ x q) *ℤ p ≡ sum_below n (λ (q : ℕ). g q *ℤ x q) *ℤ s
sum_scaled zero p s f g x e = ring (p ∷ s ∷ []) (num (pos 0) ⊗ var 0) (num (pos 0) ⊗ var 1) tt
sum_scaled (suc n) p s f g x e =
    let r = sum_scaled n p s (λ (q : ℕ). f (suc q)) (λ (q : ℕ). g (suc q)) (λ (q : ℕ). x (suc q)) (λ q l. e (suc q) (omega arith)) in
    let h = e 0 (omega arith) in
    ring_by_two (p ∷ s ∷ f 0 ∷ g 0 ∷ x 0 ∷ sum_below n (λ (q : ℕ). f (suc q) *ℤ x (suc q)) ∷ sum_below n (λ (q : ℕ). g (suc q) *ℤ x (suc q)) ∷ [])
    ((var 2 ⊗ var 4 ⊕ var 5) ⊗ var 0) ((var 3 ⊗ var 4 ⊕ var 6) ⊗ var 1)
    (var 4) (var 2 ⊗ var 0) (var 3 ⊗ var 1)
    (num (pos 1)) (var 5 ⊗ var 0) (var 6 ⊗ var 1)
    tt h r

-- two rows with equal lists over their numbers in a column: that can't be
pub no_tie : (t : Table) (e a b : ℕ) → IsTableau t → a < t.rows → b < t.rows → a ≢ b → pos 0 <ℤ entry_of t b e → ((m : ℕ) → m ≤ t.rows → number_of t a m *ℤ entry_of t b e ≡ number_of t b m *ℤ entry_of t a e) → ⊥
no_tie t e a b w ha hb n p h =
    let c = basic_of t a in
    let r = w.row_law a c ha in
    let s = w.row_law b c hb in
    let v = w.wide in
    let u : (q : ℕ) → q < t.rows → entry_of t a (units_of t + q) *ℤ entry_of t b e ≡ entry_of t b (units_of t + q) *ℤ entry_of t a e =
    λ q l. (let i : units_of t + q ≡ count_of t - (t.rows - q) = omega arith in rw i (h (t.rows - q) (omega arith))) in
    let x = sum_scaled t.rows (entry_of t b e) (entry_of t a e) (λ (q : ℕ). entry_of t a (units_of t + q)) (λ (q : ℕ). entry_of t b (units_of t + q)) (λ (q : ℕ). lookup (column_at t.system c) q) u in
    let y : entry_of t a c *ℤ entry_of t b e ≡ entry_of t b c *ℤ entry_of t a e = rw (r, s) x in
    let o = w.own a ha in
    let z = w.other a b ha hb (λ q. n (sym q)) in
    let k : t.den *ℤ entry_of t b e ≡ pos 0 = ap (λ (i : ℤ). i *ℤ entry_of t b e) (sym o) ∙ y ∙ ap (λ (i : ℤ). i *ℤ entry_of t a e) z ∙ zero_mul_z (entry_of t a e) in
    let d = mul_pos_z t.den (entry_of t b e) w.positive p in
    omega (arith, ints)

sum_not_positive : (n : ℕ) (f : ℕ → ℤ) → ((q : ℕ) → q < n → f q ≤ℤ pos 0) → sum_below n f ≤ℤ pos 0
sum_not_positive zero f h = omega (arith, ints)
sum_not_positive (suc n) f h =
    let a = h 0 (omega arith) in
    let r = sum_not_positive n (λ (q : ℕ). f (suc q)) (λ q l. h (suc q) (omega arith)) in
    omega (arith, ints)

pub none_positive : (t : Table) (f : ℕ → ℤ) → ((row : ℕ) → row < t.rows → f row ≤ℤ pos 0) → unit_sum t f ≤ℤ pos 0
none_positive t f h = sum_not_positive t.rows (λ (row : ℕ). at_unit t row (f row)) (λ q l. pick (nat_le (units_of t) (basic_of t q)) (h q l))
  where
    pick : (b : Bool) {x : ℤ} → x ≤ℤ pos 0 → cond b x (pos 0) ≤ℤ pos 0
    pick true l = l
    pick false l = omega (arith, ints)

-- ---- the order of the rows
pub before_before : (t : Table) (e a b c : ℕ) → pos 0 <ℤ entry_of t a e → pos 0 <ℤ entry_of t b e → pos 0 <ℤ entry_of t c e → IsBefore t e a b → IsBefore t e b c → IsBefore t e a c
before_before t e a b c pa pb pc x y = pick (dec_le x.at y.at)
  where
    both : (u v w p q r : ℤ) → pos 0 <ℤ q → u *ℤ q ≡ v *ℤ p → v *ℤ r ≡ w *ℤ q → u *ℤ r ≡ w *ℤ p
    both u v w p q r h f g = cancel_z q (u *ℤ r) (w *ℤ p) h (ring_by_two (u ∷ v ∷ w ∷ p ∷ q ∷ r ∷ []) (var 4 ⊗ (var 0 ⊗ var 5)) (var 4 ⊗ (var 2 ⊗ var 3)) (var 5) (var 0 ⊗ var 4) (var 1 ⊗ var 3) (var 3) (var 1 ⊗ var 5) (var 2 ⊗ var 4) tt f g)

    lesser : (q x y : ℤ) → pos 0 <ℤ q → (q *ℤ x) <ℤ (q *ℤ y) → x <ℤ y
    lesser q x y h l = by_lt_z x y (λ k. k) (λ k. absurd (under q x y h l k))
      where
        under : (q x y : ℤ) → pos 0 <ℤ q → (q *ℤ x) <ℤ (q *ℤ y) → y ≤ℤ x → ⊥
        under q x y h l k = let m = mul_le q y x h k in omega (arith, ints)
          where
            mul_le : (q y x : ℤ) → pos 0 <ℤ q → y ≤ℤ x → (q *ℤ y) ≤ℤ (q *ℤ x)
            mul_le q y x h k = mul_le_mul_z q y x (omega (arith, ints)) k

    -- u q < v p and v r = w q
    left : (u v w p q r : ℤ) → pos 0 <ℤ q → pos 0 <ℤ r → (u *ℤ q) <ℤ (v *ℤ p) → v *ℤ r ≡ w *ℤ q → (u *ℤ r) <ℤ (w *ℤ p)
    left u v w p q r h k f g =
        let m = mul_lt_mul_z r (u *ℤ q) (v *ℤ p) k f in
        let i : r *ℤ (u *ℤ q) ≡ q *ℤ (u *ℤ r) = ring (u ∷ q ∷ r ∷ []) (var 2 ⊗ (var 0 ⊗ var 1)) (var 1 ⊗ (var 0 ⊗ var 2)) tt in
        let j : r *ℤ (v *ℤ p) ≡ q *ℤ (w *ℤ p) = ring_by (v ∷ w ∷ p ∷ q ∷ r ∷ []) (var 4 ⊗ (var 0 ⊗ var 2)) (var 3 ⊗ (var 1 ⊗ var 2)) (var 2) (var 0 ⊗ var 4) (var 1 ⊗ var 3) tt g in
        lesser q (u *ℤ r) (w *ℤ p) h (rw (i, j) at m)

    -- u q = v p and v r < w q
    right : (u v w p q r : ℤ) → pos 0 <ℤ q → pos 0 <ℤ p → u *ℤ q ≡ v *ℤ p → (v *ℤ r) <ℤ (w *ℤ q) → (u *ℤ r) <ℤ (w *ℤ p)
    right u v w p q r h k f g =
        let m = mul_lt_mul_z p (v *ℤ r) (w *ℤ q) k g in
        let i : p *ℤ (v *ℤ r) ≡ q *ℤ (u *ℤ r) = ring_by (u ∷ v ∷ p ∷ q ∷ r ∷ []) (var 2 ⊗ (var 1 ⊗ var 4)) (var 3 ⊗ (var 0 ⊗ var 4)) (num (negsuc 0) ⊗ var 4) (var 0 ⊗ var 3) (var 1 ⊗ var 2) tt f in
        let j : p *ℤ (w *ℤ q) ≡ q *ℤ (w *ℤ p) = ring (w ∷ p ∷ q ∷ []) (var 1 ⊗ (var 0 ⊗ var 2)) (var 2 ⊗ (var 0 ⊗ var 1)) tt in
        lesser q (u *ℤ r) (w *ℤ p) h (rw (i, j) at m)

    -- both less
    strict : (u v w p q r : ℤ) → pos 0 <ℤ q → pos 0 <ℤ r → pos 0 <ℤ p → (u *ℤ q) <ℤ (v *ℤ p) → (v *ℤ r) <ℤ (w *ℤ q) → (u *ℤ r) <ℤ (w *ℤ p)
    strict u v w p q r h k l f g =
        let m = mul_lt_mul_z r (u *ℤ q) (v *ℤ p) k f in
        let o = mul_lt_mul_z p (v *ℤ r) (w *ℤ q) l g in
        let i : r *ℤ (u *ℤ q) ≡ q *ℤ (u *ℤ r) = ring (u ∷ q ∷ r ∷ []) (var 2 ⊗ (var 0 ⊗ var 1)) (var 1 ⊗ (var 0 ⊗ var 2)) tt in
        let s : r *ℤ (v *ℤ p) ≡ p *ℤ (v *ℤ r) = ring (v ∷ p ∷ r ∷ []) (var 2 ⊗ (var 0 ⊗ var 1)) (var 1 ⊗ (var 0 ⊗ var 2)) tt in
        let j : p *ℤ (w *ℤ q) ≡ q *ℤ (w *ℤ p) = ring (w ∷ p ∷ q ∷ []) (var 1 ⊗ (var 0 ⊗ var 2)) (var 2 ⊗ (var 0 ⊗ var 1)) tt in
        lesser q (u *ℤ r) (w *ℤ p) h (omega (arith, ints))

    level : (m : ℕ) → m < x.at → m < y.at → number_of t a m *ℤ entry_of t c e ≡ number_of t c m *ℤ entry_of t a e
    level m l k = both (number_of t a m) (number_of t b m) (number_of t c m) (entry_of t a e) (entry_of t b e) (entry_of t c e) pb (x.before m l) (y.before m k)

    pick : Dec (x.at ≤ y.at) → IsBefore t e a c
    pick (yes l) = record {
      at = x.at;
      at_in = x.at_in;
      less = first (dec_le y.at x.at);
      before = λ m k. level m k (omega arith);
    }
      where
        first : Dec (y.at ≤ x.at) → (number_of t a x.at *ℤ entry_of t c e) <ℤ (number_of t c x.at *ℤ entry_of t a e)
        first (yes k) =
            let s : y.at ≡ x.at = omega arith in
            strict (number_of t a x.at) (number_of t b x.at) (number_of t c x.at) (entry_of t a e) (entry_of t b e) (entry_of t c e) pb pc pa x.less (subst (λ (m : ℕ). (number_of t b m *ℤ entry_of t c e) <ℤ (number_of t c m *ℤ entry_of t b e)) s y.less)
        first (no k) = left (number_of t a x.at) (number_of t b x.at) (number_of t c x.at) (entry_of t a e) (entry_of t b e) (entry_of t c e) pb pc x.less (y.before x.at (omega arith))
    pick (no l) = record {
      at = y.at;
      at_in = y.at_in;
      less = right (number_of t a y.at) (number_of t b y.at) (number_of t c y.at) (entry_of t a e) (entry_of t b e) (entry_of t c e) pb pa (x.before y.at (omega arith)) y.less;
      before = λ m k. level m (omega arith) k;
    }

-- ---- a pivot keeps the tableau ready, and the first one is
pub ready_step : (t new : Table) (p e : ℕ) → IsReady t → IsTableau new → IsLeaving t e p → IsPivotOf t new p e → IsReady new
ready_step t new p e r w h v = record {
  tableau = w;
  positive = λ row l. (let k : row < t.rows = rw (← v.rows) l in positive_step t new p e row r.tableau h v k (r.positive row k) (r.positive p h.row_in));
}

pub ready_start : (t : Table) (first n : ℕ) → IsTableau t → IsStart t.rows first t.system → t.rows ≡ suc n → ((row column : ℕ) → entry_of t row column ≡ lookup (column_at t.system column) row) → ((i : ℕ) → i < t.rows → lookup (column_at t.system (first + t.rows)) i ≡ lookup (unit 22 n) i) → IsReady t
ready_start t first n w s r c f = record {
  tableau = w;
  positive = λ row l. pick row l (ℕ_discrete row n);
}
  where
    unit_number : (row m q : ℕ) → q + m ≡ t.rows → q < t.rows → row < t.rows → number_of t row m ≡ lookup (unit 22 q) row
    unit_number row m q e l k =
        let v = s.wide in
        let i : count_of t - m ≡ first + q = omega arith in
        rw i (c row (first + q) ∙ s.units q row l)

    right_number : (row : ℕ) → row < t.rows → number_of t row 0 ≡ lookup (unit 22 n) row
    right_number row l =
        let v = s.wide in
        let i : count_of t - 0 ≡ first + t.rows = omega arith in
        rw i (c row (first + t.rows) ∙ f row l)

    pick : (row : ℕ) → row < t.rows → Dec (row ≡ n) → IsLexPositive t row
    pick row l (yes e) = record {
      at = 0;
      at_in = omega arith;
      positive = rw (right_number row l, e, unit_same 22 n (let x = w.few_rows in omega arith)) (omega (arith, ints));
      before = λ m k. absurd (omega arith);
    }
    pick row l (no e) = record {
      at = t.rows - row;
      at_in = omega arith;
      positive = rw (unit_number row (t.rows - row) row (omega arith) l l, unit_same 22 row (let x = w.few_rows in omega arith)) (omega (arith, ints));
      before = λ m k. early m k;
    }
      where
        early : (m : ℕ) → m < t.rows - row → number_of t row m ≡ pos 0
        early zero k = right_number row l ∙ unit_other 22 n row e
        early (suc m) k =
            let d : row ≢ t.rows - suc m = λ q. absurd (omega arith) in
            unit_number row (suc m) (t.rows - suc m) (omega arith) (omega arith) l ∙ unit_other 22 (t.rows - suc m) row d
