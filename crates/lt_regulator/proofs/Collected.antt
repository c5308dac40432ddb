-- Sorting and dropping equal neighbours gives each point of a list once, in ascending order.
use Rattle.std.proofs.Common.{◌≡◌, ℤ, refl, sym, ◌∙◌, subst, Bool, true, List, ◌↔◌}
use Rattle.std.specs.declared.cmp.Ordering.{Ordering}
use Rattle.std.specs.declared.cmp.Ordering.TheVariants.{Less, Equal, Greater}
use Rattle.std.specs.Ordering.{eq_by_cmp, is_eq}
use Rattle.std.specs.Cmp.{IsEquivalence}
use Rattle.std.specs.List.{Contains, dedup}
use Rattle.std.specs.List.Sorted.{IsSorted, IsStrictlySortedBy, IsPermutation}
use Rattle.std.proofs.lemmas.Cmp.{eq_by_cmp_equiv}
use Rattle.std.proofs.lemmas.List.Kept.{IsStrictlySortedBy-dedup, Contains-dedup, Contains-from_dedup}
use Rattle.std.proofs.lemmas.List.Sorted.{Contains-permutation, IsPermutation-sym}
use Rattle.lt_model.proofs.Sets.{number_list_cmp_total}
use Rattle.lt_model.specs.Order.{number_list_cmp}
use Rattle.lt_triang.proofs.Tied.{equal_points}

pub record AreDistinct (xs zs : List (List ℤ)) : Type 0 where
  pub ascending : IsStrictlySortedBy number_list_cmp zs
  pub members : (s : List ℤ) → Contains zs s ↔ Contains xs s

pub distinct : (E : List ℤ → List ℤ → Bool) → ((x y : List ℤ) → E x y ≡ eq_by_cmp number_list_cmp x y) → (xs ys zs : List (List ℤ)) → IsPermutation xs ys → IsSorted number_list_cmp ys → zs ≡ dedup E ys → AreDistinct xs zs
distinct E ties xs ys zs h up e = record {
  ascending = subst (λ (l : List (List ℤ)). IsStrictlySortedBy number_list_cmp l) (sym e) (IsStrictlySortedBy-dedup number_list_cmp_total ties ys up);
  members = λ s. (
    λ c. Contains-permutation ys xs s (IsPermutation-sym xs ys h) (Contains-from_dedup E ys s (subst (λ (l : List (List ℤ)). Contains l s) e c)),
    λ c. subst (λ (l : List (List ℤ)). Contains l s) (sym e) (Contains-dedup same equal ys s (Contains-permutation xs ys s h c)),
  );
}
  where
    by : IsEquivalence (eq_by_cmp number_list_cmp)
    by = eq_by_cmp_equiv number_list_cmp_total

    same : IsEquivalence E
    same = record {
      refl = λ x. ties x x ∙ by.refl x;
      symm = λ x y. ties x y ∙ by.symm x y ∙ sym (ties y x);
      congr = λ x y z k. ties x z ∙ by.congr x y z (sym (ties x y) ∙ k) ∙ sym (ties y z);
    }

    at : (o : Ordering) → is_eq o ≡ true → o ≡ Equal
    at Less k = cc
    at Equal k = refl
    at Greater k = cc

    equal : (x y : List ℤ) → E x y ≡ true → x ≡ y
    equal x y k = equal_points x y (at (number_list_cmp x y) (sym (ties x y) ∙ k))
