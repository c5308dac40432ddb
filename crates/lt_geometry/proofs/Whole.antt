-- Ascending lists of points: translates ascend, and of two of one length the one within the other is equal to it.
use Rattle.std.proofs.Common.{◌≡◌, refl, arith, sym, subst, List, [], ◌∷◌, length, inl, inr}
use Rattle.std.specs.List.{AllByRecursion, Contains}
use Rattle.std.specs.List.Sorted.{IsStrictlySortedBy}
use Rattle.std.specs.declared.cmp.Ordering.{Ordering}
use Rattle.std.specs.declared.cmp.Ordering.TheVariants.{Less}
use Rattle.std.specs.Cmp.{IsTotalOrder}
use Rattle.lt_model.proofs.Sets.{Contains-head, Contains-tail, Contains-cases, each_holds}
use Rattle.lt_geometry.proofs.Sorting.{sorted_is_distinct, above_all}
use Rattle.lt_geometry.proofs.Choices.{drop_head}
use Rattle.lt_geometry.proofs.Rearranged.{no_longer}

-- ---- ascending lists, the one within the other

module _ {X : Type 0} (R : X → X → Ordering) (o : IsTotalOrder R) where
  pub same_from_within : (xs ys : List X) → IsStrictlySortedBy R xs → IsStrictlySortedBy R ys → length xs ≡ length ys → ((z : X) → Contains xs z → Contains ys z) → xs ≡ ys
  unfolding IsStrictlySortedBy
  same_from_within [] [] sx sy l h = refl
  same_from_within [] (y ∷ ys) sx sy l h = absurd (omega arith)
  same_from_within (x ∷ xs) [] sx sy l h = absurd (omega arith)
  same_from_within (x ∷ xs) (y ∷ ys) sx sy l h =
      elim (Contains-cases y ys x (h x (Contains-head x xs))) [
        | inl e ↦
            let above : AllByRecursion (λ z. R y z ≡ Less) xs = subst (λ (w : X). AllByRecursion (λ z. R w z ≡ Less) xs) (sym e) sx.0 in
            let k : xs ≡ ys = same_from_within xs ys sx.1 sy.1 (omega arith) (drop_head R o y xs ys above (λ z c. h z (Contains-tail x xs z c))) in
            cc
        | inr r ↦
            let first : R y x ≡ Less = each_holds (λ w. R y w ≡ Less) ys x sy.0 r in
            let k = no_longer ys (x ∷ xs) (sorted_is_distinct R o (x ∷ xs) sx) (drop_head R o y (x ∷ xs) ys (first, above_all R o y x xs first sx.0) h) in
            absurd (omega (arith, k))
      ]
