-- The steps of the loops of the rule.
use Rattle.std.proofs.Common.{◌≡◌, ◌≢◌, refl, sym, ◌∙◌, ap, ℕ, ◌+◌, ◌*◌, ◌≤◌, ◌<◌, ◌^◌, ℤ, pos, ◌+ℤ◌, ◌*ℤ◌, ◌<ℤ◌, arith, cond, nat_le, Bool, true, false, nat_abs, add-one, FitsSigned}
use Rattle.std.specs.Int.{w128}
use Rattle.std.proofs.lemmas.Int.{ints, fits_signed_from_abs}
use Rattle.std.proofs.lemmas.Bool.Decides.{nat_tests}
use native.Mathlib.Decide.{ℕ_discrete}
use Rattle.lt_tableau.specs.Numbers.{sum_below}
use Rattle.lt_tableau.specs.Table.{Table, entry_of, basic_of, units_of}
use Rattle.lt_tableau.proofs.Sums.{sum_next}
use Rattle.lt_lp.specs.Rule.{at_unit, IsBefore, IsLeaving, IsEarlier, number_of}
use Rattle.lt_lp.proofs.Leaves.{before_before}
use Rattle.lt_lp.proofs.Falls.{not_unit}

-- the sum over the rows below `row`
abbrev pub part_sum : Table → (ℕ → ℤ) → ℕ → ℤ
part_sum t f row = sum_below row (λ (r : ℕ). at_unit t r (f r))

pub record SumSoFar (t : Table) (f : ℕ → ℤ) (row : ℕ) (sum : ℤ) : Type 0 where
  pub is : sum ≡ part_sum t f row
  pub small : nat_abs sum ≤ row * 2 ^ 56

pub nat_le_true : (a b : ℕ) → a ≤ b → nat_le a b ≡ true
nat_le_true a b h = pick (nat_le a b) refl
  where
    pick : (c : Bool) → nat_le a b ≡ c → nat_le a b ≡ true
    pick true e = e
    pick false e = let l : b < a = grind (arith, nat_tests) in absurd (omega arith)

pub sum_more : (t : Table) (f : ℕ → ℤ) (row : ℕ) (sum : ℤ) → nat_abs (f row) < 2 ^ 56 → units_of t ≤ basic_of t row → SumSoFar t f row sum → SumSoFar t f (row + 1) (sum +ℤ f row)
sum_more t f row sum h l s = record {
  is = let e = sum_next row (λ (r : ℕ). at_unit t r (f r)) in
      let g : at_unit t row (f row) ≡ f row = ap (λ (b : Bool). cond b (f row) (pos 0)) (nat_le_true (units_of t) (basic_of t row) l) in
      let i = s.is in
      rw (add-one, e, g) (ap (λ (x : ℤ). x +ℤ f row) i);
  small = let k = s.small in omega (arith, ints);
}

pub sum_skip : (t : Table) (f : ℕ → ℤ) (row : ℕ) (sum : ℤ) → basic_of t row < units_of t → SumSoFar t f row sum → SumSoFar t f (row + 1) sum
sum_skip t f row sum l s = record {
  is = let e = sum_next row (λ (r : ℕ). at_unit t r (f r)) in
      let g : at_unit t row (f row) ≡ pos 0 = ap (λ (b : Bool). cond b (f row) (pos 0)) (not_unit (units_of t) (basic_of t row) l) in
      let i = s.is in
      rw (add-one, e, g) (i ∙ sym (add_zero (part_sum t f row)));
  small = let k = s.small in omega arith;
}
  where
    add_zero : (x : ℤ) → x +ℤ pos 0 ≡ x
    add_zero x = omega (arith, ints)

-- the best of the rows below `row`
pub record IsBest (t : Table) (column best row : ℕ) : Type 0 where
  pub inside : best < t.rows
  pub positive : pos 0 <ℤ entry_of t best column
  pub least : (r : ℕ) → r < row → r ≢ best → pos 0 <ℤ entry_of t r column → IsBefore t column best r

pub best_more : (t : Table) (column best row result : ℕ) → IsBest t column best row → IsEarlier t column row best result → IsBest t column result (row + 1)
best_more t column best row result b e = record {
  inside = e.inside;
  positive = e.positive;
  least = λ r l n p. pick r l n p (ℕ_discrete r row) (ℕ_discrete r best) (ℕ_discrete best result);
}
  where
    pick : (r : ℕ) → r < row + 1 → r ≢ result → pos 0 <ℤ entry_of t r column → Dec (r ≡ row) → Dec (r ≡ best) → Dec (best ≡ result) → IsBefore t column result r
    pick r l n p (yes q) x y = rw q (e.over_row (λ z. n (q ∙ z)) (rw q at p))
    pick r l n p (no q) (yes x) y = rw x (e.over_best (λ z. n (x ∙ z)))
    pick r l n p (no q) (no x) (yes y) = rw (← y) (b.least r (omega arith) x p)
    pick r l n p (no q) (no x) (no y) = before_before t column result best r e.positive b.positive p (e.over_best y) (b.least r (omega arith) x p)

pub best_leaves : (t : Table) (column best row : ℕ) → t.rows ≤ row → IsBest t column best row → IsLeaving t column best
best_leaves t column best row h b = record {
  row_in = b.inside;
  positive = b.positive;
  least = λ r l n p. b.least r (omega arith) n p;
}

pub sum_fits_row : (s x : ℤ) (row : ℕ) → nat_abs s ≤ row * 2 ^ 56 → row < 22 → nat_abs x < 2 ^ 56 → FitsSigned w128 (s +ℤ x)
sum_fits_row s x row h l k = fits_signed_from_abs w128 (s +ℤ x) (omega (arith, ints))

pub tied_more : (t : Table) (column a b place : ℕ) → ((m : ℕ) → m < place → number_of t a m *ℤ entry_of t b column ≡ number_of t b m *ℤ entry_of t a column) → number_of t a place *ℤ entry_of t b column ≡ number_of t b place *ℤ entry_of t a column →
    (m : ℕ) → m < place + 1 → number_of t a m *ℤ entry_of t b column ≡ number_of t b m *ℤ entry_of t a column
tied_more t column a b place h e m l = pick (ℕ_discrete m place)
  where
    pick : Dec (m ≡ place) → number_of t a m *ℤ entry_of t b column ≡ number_of t b m *ℤ entry_of t a column
    pick (yes q) = rw q e
    pick (no n) = h m (omega arith)
