-- The first of lists that are meant is one; it stands first in an ascending list that holds them all.
use Rattle.std.proofs.Common.{◌≡◌, ℕ, ℤ, ◌<◌, ◌≤◌, ap, arith, sym, ◌∙◌, subst, List, [], length, get_or, ◌⊎◌, inl, inr}
use Rattle.std.specs.List.{Contains}
use Rattle.std.specs.List.Sorted.{IsStrictlySortedBy}
use Rattle.std.specs.declared.cmp.Ordering.TheVariants.{Less}
use Rattle.std.proofs.lemmas.List.{get_or_default}
use native.Mathlib.Decide.{dec_le}
use Rattle.lt_model.specs.Order.{number_list_cmp}
use Rattle.lt_model.proofs.Sets.{number_list_cmp_total, never_below_itself}
use Rattle.lt_locate.specs.Firsts.{IsFirst}
use Rattle.lt_locate.proofs.Places.{ascends}

pub one_first : (P : List ℤ → Type 0) (x y : List ℤ) → IsFirst P x → IsFirst P y → x ≡ y
one_first P x y f g = go (f.least y g.is) (g.least x f.is)
  where
    go : (x ≡ y) ⊎ (number_list_cmp x y ≡ Less) → (y ≡ x) ⊎ (number_list_cmp y x ≡ Less) → x ≡ y
    go (inl e) r = e
    go (inr l) (inl e) = sym e
    go (inr l) (inr k) = absurd (never_below_itself number_list_cmp number_list_cmp_total x (number_list_cmp_total.trans x y x l k))

pub first_in : (P : List ℤ → Type 0) (xs : List (List ℤ)) (k : ℕ) (x : List ℤ) → IsStrictlySortedBy number_list_cmp xs → k < length xs → x ≡ get_or xs k [] → P (get_or xs k []) → ((j : ℕ) → j < k → P (get_or xs j []) → ⊥) → ((y : List ℤ) → P y → Contains xs y) → IsFirst P x
first_in P xs k x s l e p before all = record { is = subst P (sym e) p; least = λ y m. at y m (all y m) }
  where
    at : (y : List ℤ) → P y → Contains xs y → (x ≡ y) ⊎ (number_list_cmp x y ≡ Less)
    at y m (j, lj, f) = go (dec_le k j) (dec_le j k)
      where
        here : get_or xs j [] ≡ y
        here = get_or_default xs j [] y lj ∙ f

        go : Dec (k ≤ j) → Dec (j ≤ k) → (x ≡ y) ⊎ (number_list_cmp x y ≡ Less)
        go (yes a) (yes b) = let same : k ≡ j = omega arith in inl (e ∙ ap (λ (n : ℕ). get_or xs n []) same ∙ here)
        go (yes a) (no b) = inr (ap (λ (z : List ℤ). number_list_cmp z y) e ∙ ap (number_list_cmp (get_or xs k [])) (sym here) ∙ ascends number_list_cmp xs k j [] s (omega arith) lj)
        go (no a) b = absurd (before j (omega arith) (subst P (sym here) m))
