-- The pivot rule: lists stay positive, and the measure falls.
use Rattle.std.proofs.Common.{subst, ◌≡◌, ◌≢◌, refl, sym, ◌∙◌, ap, ap₂, ℕ, zero, suc, ◌-◌, ◌*◌, ◌/◌, ◌≤◌, ◌<◌, ◌^◌, ℤ, pos, negsuc, ◌+ℤ◌, ◌-ℤ◌, ◌*ℤ◌, ◌≤ℤ◌, ◌<ℤ◌, neg_ℤ, arith, [], ◌∷◌, length, cond, nat_le, Bool, true, false, nat_abs, get_or-set_same, get_or-set_other, lit≤, mul-le-mul}
use Rattle.std.proofs.lemmas.Int.{ints, by_lt_z}
use Rattle.std.proofs.lemmas.Bool.Decides.{nat_tests}
use native.Mathlib.Decide.{ℕ_discrete, dec_le}
use Rattle.lt_tableau.specs.Numbers.{sum_below}
use Rattle.lt_tableau.specs.Table.{Table, IsTableau, entry_of, basic_of, count_of, units_of}
use Rattle.lt_lp.specs.Rule.{at_unit, unit_sum, gain_of, number_of, total_of, digit_of, measure_of, digits, IsLexPositive, IsLeaving, IsPivotOf}
use Rattle.lt_model.proofs.Integers.{mul_zero_z}
use Rattle.lt_model.proofs.Ring.{ring, ring_by, ring_by_two, var, num, neg, ◌⊕◌, ◌⊖◌, ◌⊗◌}
use Rattle.lt_model.proofs.Inequalities.{mul_pos_z, mul_le_mul_z, mul_nonneg_z, cancel_z}
use Rattle.lt_lp.proofs.Digits.{fraction_less, fraction_same, digits_less}

-- ---- the numbers of a row after a pivot
number_kept : (t new : Table) (p e : ℕ) → IsPivotOf t new p e → (m : ℕ) → number_of new p m ≡ number_of t p m
number_kept t new p e h m = rw h.system (h.numbers (count_of t - m)).kept

number_turned : (t new : Table) (p e : ℕ) → IsPivotOf t new p e → (r m : ℕ) → r ≢ p → t.den *ℤ number_of new r m ≡ entry_of t p e *ℤ number_of t r m -ℤ entry_of t r e *ℤ number_of t p m
number_turned t new p e h r m n = rw h.system ((h.numbers (count_of t - m)).divided r n)

from_product : (d x y : ℤ) → pos 0 <ℤ d → pos 0 <ℤ y → d *ℤ x ≡ y → pos 0 <ℤ x
from_product d x y h k e = by_lt_z (pos 0) x (λ l. l) (λ l. let f = mul_le_mul_z d x (pos 0) (omega (arith, ints)) l in let z = mul_zero_z d in absurd (omega (arith, ints)))

from_zero : (d x : ℤ) → pos 0 <ℤ d → d *ℤ x ≡ pos 0 → x ≡ pos 0
from_zero d x h e = cancel_z d x (pos 0) h (e ∙ sym (mul_zero_z d))

-- ---- the lists stay positive
pub positive_step : (t new : Table) (p e r : ℕ) → IsTableau t → IsLeaving t e p → IsPivotOf t new p e → r < t.rows → IsLexPositive t r → IsLexPositive t p → IsLexPositive new r
positive_step t new p e r w h v l a b = pick (ℕ_discrete r p)
  where
    first_of_r : r ≢ p → entry_of t r e ≡ pos 0 → IsLexPositive new r
    first_of_r n z = record {
      at = a.at;
      at_in = rw v.rows a.at_in;
      positive = from_product t.den _ _ w.positive (mul_pos_z _ _ h.positive a.positive) (number_turned t new p e v r a.at n ∙ rw z (ring (entry_of t p e ∷ number_of t r a.at ∷ number_of t p a.at ∷ []) (var 0 ⊗ var 1 ⊖ num (pos 0) ⊗ var 2) (var 0 ⊗ var 1) tt));
      before = λ m k. from_zero t.den _ w.positive (number_turned t new p e v r m n ∙ rw (a.before m k, z) (ring (entry_of t p e ∷ number_of t p m ∷ []) (var 0 ⊗ num (pos 0) ⊖ num (pos 0) ⊗ var 1) (num (pos 0)) tt));
    }

    negative : r ≢ p → entry_of t r e <ℤ pos 0 → Dec (b.at ≤ a.at) → IsLexPositive new r
    negative n z (yes q) = record {
      at = b.at;
      at_in = rw v.rows b.at_in;
      positive =
          let f : pos 0 ≤ℤ number_of t r b.at = upto (dec_le a.at b.at) in
          let g = mul_nonneg_z (entry_of t p e) (number_of t r b.at) (omega (arith, ints, h.positive)) f in
          let i : pos 0 <ℤ (neg_ℤ (entry_of t r e) *ℤ number_of t p b.at) = mul_pos_z (neg_ℤ (entry_of t r e)) (number_of t p b.at) (omega (arith, ints)) b.positive in
          let j : entry_of t p e *ℤ number_of t r b.at -ℤ entry_of t r e *ℤ number_of t p b.at ≡ entry_of t p e *ℤ number_of t r b.at +ℤ neg_ℤ (entry_of t r e) *ℤ number_of t p b.at =
          ring (entry_of t p e ∷ number_of t r b.at ∷ entry_of t r e ∷ number_of t p b.at ∷ []) (var 0 ⊗ var 1 ⊖ var 2 ⊗ var 3) (var 0 ⊗ var 1 ⊕ neg (var 2) ⊗ var 3) tt in
          from_product t.den _ _ w.positive (positive_sum _ _ g i) (number_turned t new p e v r b.at n ∙ j);
      before = λ m k. from_zero t.den _ w.positive (number_turned t new p e v r m n ∙ rw (a.before m (omega arith), b.before m k) (ring (entry_of t p e ∷ entry_of t r e ∷ []) (var 0 ⊗ num (pos 0) ⊖ var 1 ⊗ num (pos 0)) (num (pos 0)) tt));
    }
      where
        positive_sum : (x y : ℤ) → pos 0 ≤ℤ x → pos 0 <ℤ y → pos 0 <ℤ (x +ℤ y)
        positive_sum x y f g = omega (arith, ints)

        upto : Dec (a.at ≤ b.at) → pos 0 ≤ℤ number_of t r b.at
        upto (yes o) = let s : a.at ≡ b.at = omega arith in let f = a.positive in rw (← s) (omega (arith, ints))
        upto (no o) = rw (a.before b.at (omega arith)) (omega (arith, ints))
    negative n z (no q) = record {
      at = a.at;
      at_in = rw v.rows a.at_in;
      positive = from_product t.den _ _ w.positive (mul_pos_z _ _ h.positive a.positive) (number_turned t new p e v r a.at n ∙ rw (b.before a.at (omega arith)) (ring (entry_of t p e ∷ number_of t r a.at ∷ entry_of t r e ∷ []) (var 0 ⊗ var 1 ⊖ var 2 ⊗ num (pos 0)) (var 0 ⊗ var 1) tt));
      before = λ m k. from_zero t.den _ w.positive (number_turned t new p e v r m n ∙ rw (a.before m k, b.before m (omega arith)) (ring (entry_of t p e ∷ entry_of t r e ∷ []) (var 0 ⊗ num (pos 0) ⊖ var 1 ⊗ num (pos 0)) (num (pos 0)) tt));
    }

    least : r ≢ p → pos 0 <ℤ entry_of t r e → IsLexPositive new r
    least n z =
        let c = h.least r l n z in
        record {
          at = c.at;
          at_in = rw v.rows c.at_in;
          positive = from_product t.den _ _ w.positive (difference_positive _ _ c.less)
              (number_turned t new p e v r c.at n ∙ ring (entry_of t p e ∷ number_of t r c.at ∷ entry_of t r e ∷ number_of t p c.at ∷ []) (var 0 ⊗ var 1 ⊖ var 2 ⊗ var 3) (var 1 ⊗ var 0 ⊖ var 3 ⊗ var 2) tt);
          before = λ m k. from_zero t.den _ w.positive (number_turned t new p e v r m n ∙ no_difference (entry_of t p e) (number_of t r m) (entry_of t r e) (number_of t p m) (c.before m k));
        }
      where
        difference_positive : (x y : ℤ) → x <ℤ y → pos 0 <ℤ (y -ℤ x)
        difference_positive x y f = omega (arith, ints)

        no_difference : (u x s y : ℤ) → y *ℤ s ≡ x *ℤ u → u *ℤ x -ℤ s *ℤ y ≡ pos 0
        no_difference u x s y f = ring_by (u ∷ x ∷ s ∷ y ∷ []) (var 0 ⊗ var 1 ⊖ var 2 ⊗ var 3) (num (pos 0)) (num (negsuc 0)) (var 3 ⊗ var 2) (var 1 ⊗ var 0) tt f

    pick : Dec (r ≡ p) → IsLexPositive new r
    pick (yes q) = rw q record {
      at = b.at;
      at_in = rw v.rows b.at_in;
      positive = rw (number_kept t new p e v b.at) b.positive;
      before = λ m k. number_kept t new p e v m ∙ b.before m k;
    }
    pick (no n) = by_lt_z (pos 0) (entry_of t r e) (λ z. least n z) (λ z. by_lt_z (entry_of t r e) (pos 0) (λ y. negative n y (dec_le b.at a.at)) (λ y. first_of_r n (omega (arith, ints))))

-- ---- the sum of the lists
sum_linear : (n : ℕ) (d p w : ℤ) (f g h : ℕ → ℤ) → ((q : ℕ) → q < n → d *ℤ h q ≡ p *ℤ f q -ℤ g q *ℤ w) → d *ℤ sum_below n h ≡ p *ℤ sum_below n f -ℤ sum_below n g *ℤ w
sum_linear zero d p w f g h e = ring (d ∷ p ∷ w ∷ []) (var 0 ⊗ num (pos 0)) (var 1 ⊗ num (pos 0) ⊖ num (pos 0) ⊗ var 2) tt
sum_linear (suc n) d p w f g h e =
    let r = sum_linear n d p w (λ (q : ℕ). f (suc q)) (λ (q : ℕ). g (suc q)) (λ (q : ℕ). h (suc q)) (λ q l. e (suc q) (omega arith)) in
    let s = e 0 (omega arith) in
    ring_by_two (d ∷ p ∷ w ∷ f 0 ∷ g 0 ∷ h 0 ∷ sum_below n (λ (q : ℕ). f (suc q)) ∷ sum_below n (λ (q : ℕ). g (suc q)) ∷ sum_below n (λ (q : ℕ). h (suc q)) ∷ [])
    (var 0 ⊗ (var 5 ⊕ var 8)) (var 1 ⊗ (var 3 ⊕ var 6) ⊖ (var 4 ⊕ var 7) ⊗ var 2)
    (num (pos 1)) (var 0 ⊗ var 5) (var 1 ⊗ var 3 ⊖ var 4 ⊗ var 2)
    (num (pos 1)) (var 0 ⊗ var 8) (var 1 ⊗ var 6 ⊖ var 7 ⊗ var 2)
    tt s r

units_same : (t new : Table) (p e : ℕ) → IsPivotOf t new p e → units_of new ≡ units_of t
units_same t new p e v = rw (v.system, v.rows) refl

pub not_unit : (u e : ℕ) → e < u → nat_le u e ≡ false
not_unit u e h = pick (nat_le u e) refl
  where
    pick : (b : Bool) → nat_le u e ≡ b → nat_le u e ≡ false
    pick true f = let l : u ≤ e = grind (arith, nat_tests) in absurd (omega arith)
    pick false f = f

total_row : (t new : Table) (p e : ℕ) → IsTableau t → IsLeaving t e p → e < units_of t → IsPivotOf t new p e → (m r : ℕ) → r < t.rows →
    t.den *ℤ at_unit new r (number_of new r m) ≡ entry_of t p e *ℤ at_unit t r (number_of t r m) -ℤ at_unit t r (entry_of t r e) *ℤ number_of t p m
total_row t new p e w h l v m r k = pick (ℕ_discrete r p)
  where
    own : basic_of new p ≡ e
    own = let b : p < length t.basic = rw w.basic_count h.row_in in rw (v.basic) (get_or-set_same t.basic p e 0 b)

    in_own : (b : Bool) → t.den *ℤ pos 0 ≡ entry_of t p e *ℤ cond b (number_of t p m) (pos 0) -ℤ cond b (entry_of t p e) (pos 0) *ℤ number_of t p m
    in_own true = ring (t.den ∷ entry_of t p e ∷ number_of t p m ∷ []) (var 0 ⊗ num (pos 0)) (var 1 ⊗ var 2 ⊖ var 1 ⊗ var 2) tt
    in_own false = ring (t.den ∷ entry_of t p e ∷ number_of t p m ∷ []) (var 0 ⊗ num (pos 0)) (var 1 ⊗ num (pos 0) ⊖ num (pos 0) ⊗ var 2) tt

    in_other : r ≢ p → (b : Bool) → t.den *ℤ cond b (number_of new r m) (pos 0) ≡ entry_of t p e *ℤ cond b (number_of t r m) (pos 0) -ℤ cond b (entry_of t r e) (pos 0) *ℤ number_of t p m
    in_other n true = number_turned t new p e v r m n
    in_other n false = ring (t.den ∷ entry_of t p e ∷ number_of t p m ∷ []) (var 0 ⊗ num (pos 0)) (var 1 ⊗ num (pos 0) ⊖ num (pos 0) ⊗ var 2) tt

    pick : Dec (r ≡ p) → t.den *ℤ at_unit new r (number_of new r m) ≡ entry_of t p e *ℤ at_unit t r (number_of t r m) -ℤ at_unit t r (entry_of t r e) *ℤ number_of t p m
    pick (yes q) =
        let f : at_unit new p (number_of new p m) ≡ pos 0 = ap₂ (λ (u b : ℕ). cond (nat_le u b) (number_of new p m) (pos 0)) (units_same t new p e v) own ∙ ap (λ (b : Bool). cond b (number_of new p m) (pos 0)) (not_unit (units_of t) e l) in
        rw (q, f) (in_own (nat_le (units_of t) (basic_of t p)))
    pick (no n) =
        let s : basic_of new r ≡ basic_of t r = rw v.basic (get_or-set_other t.basic p r e 0 n) in
        let f : at_unit new r (number_of new r m) ≡ at_unit t r (number_of new r m) = ap₂ (λ (u b : ℕ). cond (nat_le u b) (number_of new r m) (pos 0)) (units_same t new p e v) s in
        rw f (in_other n (nat_le (units_of t) (basic_of t r)))

total_turned : (t new : Table) (p e : ℕ) → IsTableau t → IsLeaving t e p → e < units_of t → IsPivotOf t new p e → (m : ℕ) → t.den *ℤ total_of new m ≡ entry_of t p e *ℤ total_of t m -ℤ gain_of t e *ℤ number_of t p m
total_turned t new p e w h l v m =
    let s = sum_linear t.rows t.den (entry_of t p e) (number_of t p m) (λ (r : ℕ). at_unit t r (number_of t r m)) (λ (r : ℕ). at_unit t r (entry_of t r e)) (λ (r : ℕ). at_unit new r (number_of new r m)) (total_row t new p e w h l v m) in
    ap (λ (n : ℕ). t.den *ℤ sum_below n (λ (r : ℕ). at_unit new r (number_of new r m))) v.rows ∙ s

-- ---- sizes
at_unit_small : (b : Bool) (x : ℤ) → nat_abs x < 2 ^ 56 → nat_abs (cond b x (pos 0)) ≤ 2 ^ 56
at_unit_small true x h = omega arith
at_unit_small false x h = lit≤ tt

pub sum_small : (n c : ℕ) (f : ℕ → ℤ) → ((q : ℕ) → nat_abs (f q) ≤ c) → nat_abs (sum_below n f) ≤ n * c
sum_small zero c f h = omega (arith, ints)
sum_small (suc n) c f h =
    let r = sum_small n c (λ (q : ℕ). f (suc q)) (λ q. h (suc q)) in
    let s = h 0 in
    omega (arith, ints)

pub unit_sum_small : (t : Table) (f : ℕ → ℤ) → ((q : ℕ) → nat_abs (f q) < 2 ^ 56) → t.rows ≤ 22 → nat_abs (unit_sum t f) ≤ 22 * 2 ^ 56
unit_sum_small t f h l = let s = sum_small t.rows (2 ^ 56) (λ (q : ℕ). at_unit t q (f q)) (λ q. at_unit_small (nat_le (units_of t) (basic_of t q)) (f q) (h q)) in omega arith

-- ---- whole digits
nat_product : (x d : ℤ) → pos 0 ≤ℤ x → pos 0 ≤ℤ d → pos (nat_abs x * nat_abs d) ≡ x *ℤ d
nat_product (pos m) (pos n) h k = omega (arith, ints)
nat_product (pos m) (negsuc n) h k = absurd (omega (arith, ints))
nat_product (negsuc m) d h k = absurd (omega (arith, ints))

nat_less : (x y d e : ℤ) → pos 0 ≤ℤ x → pos 0 ≤ℤ y → pos 0 ≤ℤ d → pos 0 ≤ℤ e → (x *ℤ d) <ℤ (y *ℤ e) → nat_abs x * nat_abs d < nat_abs y * nat_abs e
nat_less x y d e hx hy hd he l = let a = nat_product x d hx hd in let b = nat_product y e hy he in omega (arith, ints)

nat_same : (x y d e : ℤ) → pos 0 ≤ℤ x → pos 0 ≤ℤ y → pos 0 ≤ℤ d → pos 0 ≤ℤ e → x *ℤ d ≡ y *ℤ e → nat_abs x * nat_abs d ≡ nat_abs y * nat_abs e
nat_same x y d e hx hy hd he l = let a = nat_product x d hx hd in let b = nat_product y e hy he in omega (arith, ints)

raised : (s d : ℤ) → nat_abs s ≤ 22 * 2 ^ 56 → pos 0 <ℤ d → pos 0 ≤ℤ (s +ℤ pos (22 * 2 ^ 56) *ℤ d)
raised s d h k = omega (arith, ints)

digit_small : (s d : ℤ) → nat_abs s ≤ 22 * 2 ^ 56 → nat_abs d < 2 ^ 56 → pos 0 <ℤ d → nat_abs (s +ℤ pos (22 * 2 ^ 56) *ℤ d) * 2 ^ 112 / nat_abs d < 2 ^ 240
digit_small s d h k l =
    let n = nat_abs (s +ℤ pos (22 * 2 ^ 56) *ℤ d) in
    let a : n < 2 ^ 120 = omega (arith, ints) in
    let b : 0 < nat_abs d = omega (arith, ints) in
    let c = quotient_below (n * 2 ^ 112) (nat_abs d) b in
    omega arith
  where
    quotient_below : (n d : ℕ) → 0 < d → n / d ≤ n
    quotient_below n zero h = absurd (omega arith)
    quotient_below n (suc d) h = let e : (n / suc d) * suc d ≤ n = omega arith in omega arith

product_small : (a b : ℕ) → a < 2 ^ 56 → b < 2 ^ 56 → a * b ≤ 2 ^ 112
product_small a b h k = let p : a ≤ 2 ^ 56 = omega arith in let q : b ≤ 2 ^ 56 = omega arith in let m : a * b ≤ 2 ^ 56 * 2 ^ 56 = mul-le-mul p q in omega arith

-- the digits of one place, from the two sums there
digit_less : (s s' d d' : ℤ) → nat_abs s ≤ 22 * 2 ^ 56 → nat_abs s' ≤ 22 * 2 ^ 56 → pos 0 <ℤ d → pos 0 <ℤ d' → nat_abs d < 2 ^ 56 → nat_abs d' < 2 ^ 56 → (s' *ℤ d) <ℤ (s *ℤ d') →
    nat_abs (s' +ℤ pos (22 * 2 ^ 56) *ℤ d') * 2 ^ 112 / nat_abs d' < nat_abs (s +ℤ pos (22 * 2 ^ 56) *ℤ d) * 2 ^ 112 / nat_abs d
digit_less s s' d d' h h' k k' l l' e =
    let y = s +ℤ pos (22 * 2 ^ 56) *ℤ d in
    let x = s' +ℤ pos (22 * 2 ^ 56) *ℤ d' in
    let f : x *ℤ d ≡ s' *ℤ d +ℤ pos (22 * 2 ^ 56) *ℤ (d *ℤ d') = ring (s' ∷ d ∷ d' ∷ pos (22 * 2 ^ 56) ∷ []) ((var 0 ⊕ var 3 ⊗ var 2) ⊗ var 1) (var 0 ⊗ var 1 ⊕ var 3 ⊗ (var 1 ⊗ var 2)) tt in
    let g : y *ℤ d' ≡ s *ℤ d' +ℤ pos (22 * 2 ^ 56) *ℤ (d *ℤ d') = ring (s ∷ d ∷ d' ∷ pos (22 * 2 ^ 56) ∷ []) ((var 0 ⊕ var 3 ⊗ var 1) ⊗ var 2) (var 0 ⊗ var 2 ⊕ var 3 ⊗ (var 1 ⊗ var 2)) tt in
    let o : (x *ℤ d) <ℤ (y *ℤ d') = rw (f, g) (shifted (s' *ℤ d) (s *ℤ d') (pos (22 * 2 ^ 56) *ℤ (d *ℤ d')) e) in
    let n = nat_less x y d d' (raised s' d' h' k') (raised s d h k) (omega (arith, ints)) (omega (arith, ints)) o in
    fraction_less (nat_abs x) (nat_abs d') (nat_abs y) (nat_abs d) (2 ^ 112) (omega (arith, ints)) (omega (arith, ints)) (product_small (nat_abs d') (nat_abs d) l' l) n
  where
    shifted : (a b c : ℤ) → a <ℤ b → (a +ℤ c) <ℤ (b +ℤ c)
    shifted a b c h = omega (arith, ints)

digit_same : (s s' d d' : ℤ) → nat_abs s ≤ 22 * 2 ^ 56 → nat_abs s' ≤ 22 * 2 ^ 56 → pos 0 <ℤ d → pos 0 <ℤ d' → s' *ℤ d ≡ s *ℤ d' →
    nat_abs (s' +ℤ pos (22 * 2 ^ 56) *ℤ d') * 2 ^ 112 / nat_abs d' ≡ nat_abs (s +ℤ pos (22 * 2 ^ 56) *ℤ d) * 2 ^ 112 / nat_abs d
digit_same s s' d d' h h' k k' e =
    let y = s +ℤ pos (22 * 2 ^ 56) *ℤ d in
    let x = s' +ℤ pos (22 * 2 ^ 56) *ℤ d' in
    let f : x *ℤ d ≡ y *ℤ d' = ring_by (s' ∷ d ∷ d' ∷ pos (22 * 2 ^ 56) ∷ s ∷ []) ((var 0 ⊕ var 3 ⊗ var 2) ⊗ var 1) ((var 4 ⊕ var 3 ⊗ var 1) ⊗ var 2) (num (pos 1)) (var 0 ⊗ var 1) (var 4 ⊗ var 2) tt e in
    let n = nat_same x y d d' (raised s' d' h' k') (raised s d h k) (omega (arith, ints)) (omega (arith, ints)) f in
    fraction_same (nat_abs x) (nat_abs d') (nat_abs y) (nat_abs d) (2 ^ 112) (omega (arith, ints)) (omega (arith, ints)) n

-- ---- the measure falls
pub measure_falls : (t new : Table) (p e : ℕ) → IsTableau t → IsTableau new → IsLeaving t e p → e < units_of t → pos 0 <ℤ gain_of t e → IsLexPositive t p → IsPivotOf t new p e → measure_of new < measure_of t
unfolding measure_of
measure_falls t new p e w w' h l g b v =
    let r = v.rows in
    let d' : new.den ≡ entry_of t p e = v.den in
    let small : (m : ℕ) → nat_abs (total_of t m) ≤ 22 * 2 ^ 56 = λ m. unit_sum_small t (λ (row : ℕ). number_of t row m) (λ q. w.small q (count_of t - m)) w.few_rows in
    let small' : (m : ℕ) → nat_abs (total_of new m) ≤ 22 * 2 ^ 56 = λ m. unit_sum_small new (λ (row : ℕ). number_of new row m) (λ q. w'.small q (count_of new - m)) w'.few_rows in
    let x = digits_less (2 ^ 240) t.rows (digit_of new) (digit_of t) b.at b.at_in
    (digit_less (total_of t b.at) (total_of new b.at) t.den new.den (small b.at) (small' b.at) w.positive w'.positive w.den_small w'.den_small (rw d' (fallen (total_of new b.at) t.den (entry_of t p e) (total_of t b.at) (gain_of t e) (number_of t p b.at) (total_turned t new p e w h l v b.at) (mul_pos_z _ _ g b.positive))))
    (λ m k. digit_same (total_of t m) (total_of new m) t.den new.den (small m) (small' m) w.positive w'.positive (rw d' (level (total_of new m) t.den (entry_of t p e) (total_of t m) (gain_of t e) (number_of t p m) (total_turned t new p e w h l v m) (b.before m k))))
    (λ m k. digit_small (total_of new m) new.den (small' m) w'.den_small w'.positive) in
    subst (λ (n : ℕ). digits (2 ^ 240) n (digit_of new) < digits (2 ^ 240) t.rows (digit_of t)) (sym r) x
  where
    fallen : (s' d p s g n : ℤ) → d *ℤ s' ≡ p *ℤ s -ℤ g *ℤ n → pos 0 <ℤ (g *ℤ n) → (s' *ℤ d) <ℤ (s *ℤ p)
    fallen s' d p s g n e h = omega (arith, ints)

    level : (s' d p s g n : ℤ) → d *ℤ s' ≡ p *ℤ s -ℤ g *ℤ n → n ≡ pos 0 → s' *ℤ d ≡ s *ℤ p
    level s' d p s g n e h = ring_by_two (s' ∷ d ∷ p ∷ s ∷ g ∷ n ∷ []) (var 0 ⊗ var 1) (var 3 ⊗ var 2) (num (pos 1)) (var 1 ⊗ var 0) (var 2 ⊗ var 3 ⊖ var 4 ⊗ var 5) (num (negsuc 0) ⊗ var 4) (var 5) (num (pos 0)) tt e h
