-- Translates of lists of points: places, facets, and order.
use Rattle.std.proofs.Common.{◌≡◌, ℕ, zero, suc, ℤ, ◌+ℤ◌, ◌<ℤ◌, ◌<◌, refl, ap, arith, sym, ◌∙◌, List, [], ◌∷◌, length, get_or, inl, inr}
use Rattle.std.proofs.lemmas.Int.{ints}
use Rattle.std.specs.List.{AllByRecursion, Contains}
use Rattle.std.specs.List.Sorted.{IsStrictlySortedBy}
use Rattle.std.specs.declared.cmp.Ordering.{Ordering}
use Rattle.std.specs.declared.cmp.Ordering.TheVariants.{Less, Equal, Greater}
use Rattle.std.specs.Ordering.{MatchOrdering, int_cmp}
use Rattle.std.specs.Cmp.{int_cmp_is, int_ranks}
use Rattle.lt_model.specs.Order.{number_list_cmp}
use Rattle.lt_model.specs.Vectors.{plus}
use Rattle.lt_model.specs.Facets.{without}
use Rattle.lt_model.specs.Simplices.{AllOfDimension, translate}
use Rattle.lt_model.proofs.Sets.{Contains-head, Contains-tail, Contains-cases, Contains-none}

pub without-translate : (p : List ℤ) (i : ℕ) (vs : List (List ℤ)) → without i (translate p vs) ≡ translate p (without i vs)
without-translate p i [] = refl
without-translate p zero (v ∷ vs) = refl
without-translate p (suc i) (v ∷ vs) = ap (λ l. plus v p ∷ l) (without-translate p i vs)

pub get-translate : (p : List ℤ) (j : ℕ) (vs : List (List ℤ)) (e w : List ℤ) → j < length vs → get_or (translate p vs) j w ≡ plus (get_or vs j e) p
get-translate p j [] e w h = absurd (omega arith)
get-translate p zero (v ∷ vs) e w h = refl
get-translate p (suc j) (v ∷ vs) e w h = get-translate p j vs e w (omega arith)

pub from_translate : (p : List ℤ) (vs : List (List ℤ)) (x : List ℤ) → Contains (translate p vs) x → (v : List ℤ) × Contains vs v × (plus v p ≡ x)
from_translate p [] x c = Contains-none x c
from_translate p (v ∷ vs) x c =
    elim (Contains-cases (plus v p) (translate p vs) x c) [
      | inl e ↦ (v, Contains-head v vs, e)
      | inr r ↦ (let s = from_translate p vs x r in (s.0, Contains-tail v vs s.0 s.1, s.2))
    ]

-- ---- the order of points is that of their translates

pub shifted : (a b c : ℤ) (r : Ordering) → MatchOrdering r (a <ℤ b) (a ≡ b) (b <ℤ a) → MatchOrdering r ((a +ℤ c) <ℤ (b +ℤ c)) (a +ℤ c ≡ b +ℤ c) ((b +ℤ c) <ℤ (a +ℤ c))
shifted a b c Less h = omega (arith, ints, h)
shifted a b c Equal h = ap (λ n. n +ℤ c) h
shifted a b c Greater h = omega (arith, ints, h)

pub int_cmp-plus : (a b c : ℤ) → int_cmp (a +ℤ c) (b +ℤ c) ≡ int_cmp a b
int_cmp-plus a b c = sym (int_cmp_is (a +ℤ c) (b +ℤ c) (int_cmp a b) (shifted a b c (int_cmp a b) (int_ranks a b)))

pub number_list_cmp-plus : (x y p : List ℤ) → length x ≡ length p → length y ≡ length p → number_list_cmp (plus x p) (plus y p) ≡ number_list_cmp x y
number_list_cmp-plus [] [] [] lx ly = refl
number_list_cmp-plus [] [] (c ∷ p) lx ly = absurd (omega arith)
number_list_cmp-plus [] (b ∷ y) p lx ly = absurd (omega arith)
number_list_cmp-plus (a ∷ x) [] p lx ly = absurd (omega arith)
number_list_cmp-plus (a ∷ x) (b ∷ y) [] lx ly = absurd (omega arith)
number_list_cmp-plus (a ∷ x) (b ∷ y) (c ∷ p) lx ly = rw (int_cmp-plus a b c, number_list_cmp-plus x y p (omega arith) (omega arith)) refl

pub above_translate : (d : ℕ) (v p : List ℤ) (vs : List (List ℤ)) → length v ≡ d → length p ≡ d → AllOfDimension d vs → AllByRecursion (λ w. number_list_cmp v w ≡ Less) vs → AllByRecursion (λ w. number_list_cmp (plus v p) w ≡ Less) (translate p vs)
above_translate d v p [] lv lp all h = tt
above_translate d v p (w ∷ vs) lv lp all h =
    (number_list_cmp-plus v w p (lv ∙ sym lp) (all.0 ∙ sym lp) ∙ h.0, above_translate d v p vs lv lp all.1 h.1)

pub ascending_translate : (d : ℕ) (p : List ℤ) (vs : List (List ℤ)) → length p ≡ d → AllOfDimension d vs → IsStrictlySortedBy number_list_cmp vs → IsStrictlySortedBy number_list_cmp (translate p vs)
unfolding IsStrictlySortedBy
ascending_translate d p [] lp all h = tt
ascending_translate d p (v ∷ vs) lp all h = (above_translate d v p vs all.0 lp all.1 h.0, ascending_translate d p vs lp all.1 h.1)
