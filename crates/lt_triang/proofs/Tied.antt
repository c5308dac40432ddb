-- Points and simplices that compare as equal are equal.
use Rattle.std.proofs.Common.{◌≡◌, ℤ, ◌<ℤ◌, refl, List, [], ◌∷◌}
use Rattle.std.specs.Ordering as orders
use Rattle.std.specs.declared.cmp.Ordering.{Ordering}
use Rattle.std.specs.declared.cmp.Ordering.TheVariants.{Less, Equal, Greater}
use Rattle.std.specs.Ordering.{int_cmp, MatchOrdering}
use Rattle.std.proofs.lemmas.Cmp.{int_ranked}
use Rattle.lt_model.specs.Order.{number_list_cmp, simplex_cmp}

number_equal : (x y : ℤ) (o : Ordering) → MatchOrdering o (x <ℤ y) (x ≡ y) (y <ℤ x) → o ≡ Equal → x ≡ y
number_equal x y Less h e = cc
number_equal x y Equal h e = h
number_equal x y Greater h e = cc

then_equal : (o p : Ordering) → orders.ordering_then o p ≡ Equal → (o ≡ Equal) × (p ≡ Equal)
then_equal Less p e = cc
then_equal Equal p e = (refl, e)
then_equal Greater p e = cc

pub equal_points : (x y : List ℤ) → number_list_cmp x y ≡ Equal → x ≡ y
equal_points [] [] e = refl
equal_points [] (b ∷ y) e = cc
equal_points (a ∷ x) [] e = cc
equal_points (a ∷ x) (b ∷ y) e =
    let k = then_equal (int_cmp a b) (number_list_cmp x y) e in
    let h : a ≡ b = number_equal a b (int_cmp a b) (int_ranked a b (int_cmp a b) refl) k.0 in
    let t : x ≡ y = equal_points x y k.1 in
    cc

pub equal_lists : (xs ys : List (List ℤ)) → simplex_cmp xs ys ≡ Equal → xs ≡ ys
equal_lists [] [] e = refl
equal_lists [] (y ∷ ys) e = cc
equal_lists (x ∷ xs) [] e = cc
equal_lists (x ∷ xs) (y ∷ ys) e =
    let k = then_equal (number_list_cmp x y) (simplex_cmp xs ys) e in
    let h : x ≡ y = equal_points x y k.0 in
    let t : xs ≡ ys = equal_lists xs ys k.1 in
    cc
