-- A list has one list of its members in ascending order.
use Rattle.std.proofs.Common.{◌≡◌, ℕ, zero, suc, ◌+◌, ◌<◌, refl, ap, arith, sym, ◌∙◌, subst, false, List, [], ◌∷◌, get_or}
use Rattle.std.specs.Cmp.{IsTotalOrder}
use Rattle.std.specs.declared.cmp.Ordering.{Ordering}
use Rattle.std.specs.declared.cmp.Ordering.TheVariants.{Less, Equal, Greater}
use Rattle.std.specs.FinMap.{IsAntisymmetric}
use Rattle.std.specs.List.{Contains, sum_by}
use Rattle.std.specs.List.Sorted.{IsSorted}
use Rattle.std.specs.Ordering.{is_lt, ordering_reverse}
use Rattle.std.proofs.lemmas.List.Sorted.{sum_by-IsPermutation, sorted_far, ranks_by}
use Rattle.std.proofs.lemmas.List.Sums.{sum_by-cons}
use Rattle.lt_model.proofs.Sets.{Contains-head, Contains-tail}
use Rattle.lt_colour.specs.Signatures.{IsInOrder}

abbrev one_if_equal : Ordering → ℕ
one_if_equal Less = 0
one_if_equal Equal = 1
one_if_equal Greater = 0

equal_if_one : (o : Ordering) → 0 < one_if_equal o → o ≡ Equal
equal_if_one Less h = absurd (omega arith)
equal_if_one Equal h = refl
equal_if_one Greater h = absurd (omega arith)

equal_from_both : (o o' : Ordering) → o ≡ ordering_reverse o' → is_lt o ≡ false → is_lt o' ≡ false → o ≡ Equal
equal_from_both o Less e h g = cc
equal_from_both o Equal e h g = e
equal_from_both o Greater e h g = cc

module _ {X : Type 0} where
  -- the lists have the same members, each as often
  abbrev HaveSameSums : List X → List X → Type 0
  HaveSameSums xs ys = (f : X → ℕ) → sum_by f xs ≡ sum_by f ys

  some_member : (f : X → ℕ) (xs : List X) → 0 < sum_by f xs → (x : X) × Contains xs x × (0 < f x)
  some_member f [] h = absurd (omega arith)
  some_member f (x ∷ xs) h = at (f x) refl (λ e. let s = sum_by-cons f x xs in some_member f xs (omega (arith, h, s, e)))
    where
      at : (n : ℕ) → n ≡ f x → (0 ≡ f x → (y : X) × Contains xs y × (0 < f y)) → (y : X) × Contains (x ∷ xs) y × (0 < f y)
      at (suc n) e rest = (x, Contains-head x xs, omega (arith, e))
      at zero e rest =
          let r = rest e in
          (r.0, Contains-tail x xs r.0 r.1, r.2)

  module _ (R : X → X → Ordering) (o : IsTotalOrder R) (exact : IsAntisymmetric R) where
    itself : (x : X) → R x x ≡ Equal
    itself x = own (R x x) (o.antisymm x x)
      where
        own : (r : Ordering) → r ≡ ordering_reverse r → r ≡ Equal
        own Less e = cc
        own Equal e = refl
        own Greater e = cc

    sorted_rest : (x : X) (xs : List X) → IsSorted R (x ∷ xs) → IsSorted R xs
    sorted_rest x xs h k d low p =
        let e : suc k + 1 ≡ suc (k + 1) = omega arith in
        let f : is_lt (R (get_or (x ∷ xs) (suc k + 1) d) (get_or (x ∷ xs) (suc k) d)) ≡ false = h (suc k) d (omega arith) (omega arith) in
        subst (λ (n : ℕ). is_lt (R (get_or (x ∷ xs) n d) (get_or xs k d)) ≡ false) e f

    first_is_least : (x : X) (xs : List X) (y : X) → IsSorted R (x ∷ xs) → Contains (x ∷ xs) y → is_lt (R y x) ≡ false
    first_is_least x xs y up (k, p, e) =
        let f : is_lt (R (get_or (x ∷ xs) k y) (get_or (x ∷ xs) 0 y)) ≡ false = sorted_far (λ a b. is_lt (R a b)) (ranks_by o (λ z. z)) (x ∷ xs) up 0 k y (omega arith) p in
        subst (λ (z : X). is_lt (R z x) ≡ false) e f

    contained : (x : X) (xs ys : List X) → HaveSameSums (x ∷ xs) ys → Contains ys x
    contained x xs ys same =
        let f : X → ℕ = λ y. one_if_equal (R y x) in
        let own : f x ≡ 1 = ap one_if_equal (itself x) in
        let m = some_member f ys (let s = sum_by-cons f x xs in let e = same f in omega (arith, own, s, e)) in
        subst (λ (z : X). Contains ys z) (exact m.0 x (equal_if_one (R m.0 x) m.2)) m.1

    pub one_sorted : (xs ys : List X) → IsSorted R xs → IsSorted R ys → HaveSameSums xs ys → xs ≡ ys
    one_sorted [] [] up up2 same = refl
    one_sorted [] (y ∷ ys) up up2 same = nothing (contained y ys [] (λ f. sym (same f)))
      where
        nothing : Contains [] y → [] ≡ y ∷ ys
        nothing (k, p, e) = absurd (omega arith)
    one_sorted (x ∷ xs) [] up up2 same = nothing (contained x xs [] same)
      where
        nothing : Contains [] x → x ∷ xs ≡ []
        nothing (k, p, e) = absurd (omega arith)
    one_sorted (x ∷ xs) (y ∷ ys) up up2 same =
        let head : x ≡ y =
        exact x y
        (equal_from_both (R x y) (R y x) (o.antisymm x y) (first_is_least y ys x up2 (contained x xs (y ∷ ys) same)) (first_is_least x xs y up (contained y ys (x ∷ xs) (λ f. sym (same f)))))
        in
        let rest : HaveSameSums xs ys = λ f. (let a = sum_by-cons f x xs in let b = sum_by-cons f y ys in let e = same f in let h = ap f head in omega (arith, a, b, e, h)) in
        let tail : xs ≡ ys = one_sorted xs ys (sorted_rest x xs up) (sorted_rest y ys up2) rest in
        λ i. head i ∷ tail i

    pub one_order : (xs ys zs : List X) → IsInOrder R xs ys → IsInOrder R xs zs → ys ≡ zs
    one_order xs ys zs g h = one_sorted ys zs g.ascending h.ascending (λ f. sum_by-IsPermutation f xs ys g.permutation ∙ sym (sum_by-IsPermutation f xs zs h.permutation))
