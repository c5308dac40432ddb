-- Places of ascending lists, and the sign of the difference of two points.
use Rattle.std.proofs.Common.{◌≡◌, ℕ, zero, suc, ℤ, pos, negsuc, ◌+ℤ◌, ◌*ℤ◌, ◌<ℤ◌, ◌<◌, ◌≤◌, refl, arith, sym, subst, List, [], ◌∷◌, length, get_or}
use Rattle.std.proofs.lemmas.Int.{ints}
use Rattle.std.specs.List.Sorted.{IsStrictlySortedBy}
use Rattle.std.specs.Cmp.{IsTotalOrder, int_cmp_is, int_ranks}
use Rattle.std.specs.declared.cmp.Ordering.{Ordering}
use Rattle.std.specs.declared.cmp.Ordering.TheVariants.{Less, Equal, Greater}
use Rattle.std.specs.Ordering.{MatchOrdering, int_cmp}
use Rattle.std.proofs.lemmas.List.Elements.{Contains-get_or}
use native.Mathlib.Decide.{dec_le}
use Rattle.lt_model.specs.Order.{number_list_cmp}
use Rattle.lt_model.specs.Vectors.{minus, zeros}
use Rattle.lt_model.proofs.Sets.{each_holds, never_below_itself}

pub ascends : {A : Type 0} (R : A → A → Ordering) (xs : List A) (i k : ℕ) (e : A) → IsStrictlySortedBy R xs → i < k → k < length xs → R (get_or xs i e) (get_or xs k e) ≡ Less
unfolding IsStrictlySortedBy
ascends R [] i k e s h l = absurd (omega arith)
ascends R (x ∷ xs) i zero e s h l = absurd (omega arith)
ascends R (x ∷ xs) zero (suc k) e s h l = each_holds (λ z. R x z ≡ Less) xs (get_or xs k e) s.0 (Contains-get_or xs k e (omega arith))
ascends R (x ∷ xs) (suc i) (suc k) e s h l = ascends R xs i k e s.1 (omega arith) (omega arith)

-- the lesser member stands first
pub stands_first : {A : Type 0} (R : A → A → Ordering) (o : IsTotalOrder R) (xs : List A) (i k : ℕ) (e : A) → IsStrictlySortedBy R xs → i < length xs → R (get_or xs i e) (get_or xs k e) ≡ Less → i < k
stands_first R o xs i k e s l h = go (dec_le i k)
  where
    same : i ≡ k → ⊥
    same j = never_below_itself R o (get_or xs k e) (subst (λ (n : ℕ). R (get_or xs n e) (get_or xs k e) ≡ Less) j h)

    go : Dec (i ≤ k) → i < k
    go (yes j) = omega (arith, same)
    go (no j) = absurd (never_below_itself R o (get_or xs i e) (o.trans (get_or xs i e) (get_or xs k e) (get_or xs i e) h (ascends R xs k i e s (omega arith) l)))

-- ---- the difference of a point and a lesser one is above 0

turned : (a b : ℤ) (r : Ordering) → MatchOrdering r (a <ℤ b) (a ≡ b) (b <ℤ a) → MatchOrdering r (pos 0 <ℤ (b +ℤ negsuc 0 *ℤ a)) (pos 0 ≡ b +ℤ negsuc 0 *ℤ a) ((b +ℤ negsuc 0 *ℤ a) <ℤ pos 0)
turned a b Less h = omega (arith, ints, h)
turned a b Equal h = omega (arith, ints, h)
turned a b Greater h = omega (arith, ints, h)

one_number : (a b : ℤ) → int_cmp (pos 0) (b +ℤ negsuc 0 *ℤ a) ≡ int_cmp a b
one_number a b = sym (int_cmp_is (pos 0) (b +ℤ negsuc 0 *ℤ a) (int_cmp a b) (turned a b (int_cmp a b) (int_ranks a b)))

pub difference_above : (d : ℕ) (x y : List ℤ) → length x ≡ d → length y ≡ d → number_list_cmp (zeros d) (minus y x) ≡ number_list_cmp x y
difference_above zero [] [] lx ly = refl
difference_above zero [] (b ∷ y) lx ly = absurd (omega arith)
difference_above zero (a ∷ x) y lx ly = absurd (omega arith)
difference_above (suc d) [] y lx ly = absurd (omega arith)
difference_above (suc d) (a ∷ x) [] lx ly = absurd (omega arith)
difference_above (suc d) (a ∷ x) (b ∷ y) lx ly = rw (one_number a b, difference_above d x y (omega arith) (omega arith)) refl

-- ---- an ascending list holds each member once

pub one_place : {A : Type 0} (R : A → A → Ordering) (o : IsTotalOrder R) (xs : List A) (i k : ℕ) (e : A) → IsStrictlySortedBy R xs → i < length xs → k < length xs → get_or xs i e ≡ get_or xs k e → i ≡ k
one_place {A = A} R o xs i k e s li lk same = go (dec_le i k) (dec_le k i)
  where
    go : Dec (i ≤ k) → Dec (k ≤ i) → i ≡ k
    go (yes a) (yes b) = omega arith
    go (yes a) (no b) = absurd (never_below_itself R o (get_or xs i e) (subst (λ (z : A). R (get_or xs i e) z ≡ Less) (sym same) (ascends R xs i k e s (omega arith) lk)))
    go (no a) b = absurd (never_below_itself R o (get_or xs k e) (subst (λ (z : A). R (get_or xs k e) z ≡ Less) same (ascends R xs k i e s (omega arith) li)))
