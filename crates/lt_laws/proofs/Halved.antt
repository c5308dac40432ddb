-- Of each pair of a member and its negative one comes first; so there are twice as many members.
use Rattle.std.proofs.Common.{◌≡◌, ◌≢◌, refl, sym, ◌∙◌, ap, subst, arith, ℕ, ◌+◌, ◌*◌, ◌≤◌, ℤ, Bool, true, false, cond, not, List, [], ◌∷◌, filter, length, ◌⊎◌, inl, inr}
use Rattle.std.specs.List.{Contains}
use Rattle.std.specs.List.Sorted.{IsStrictlySortedBy}
use Rattle.std.specs.Ordering.{is_lt, ordering_reverse}
use Rattle.std.specs.declared.cmp.Ordering.{Ordering}
use Rattle.std.specs.declared.cmp.Ordering.TheVariants.{Less, Equal, Greater}
use Rattle.std.proofs.lemmas.Bool.{false≢true}
use Rattle.lt_model.specs.Order.{number_list_cmp, simplex_cmp}
use Rattle.lt_model.specs.Simplices.{IsClass, IsClassOf}
use Rattle.lt_model.specs.Negatives.{negated, negative, comes_first, half}
use Rattle.lt_model.specs.Triangulations.{IsDelaunay}
use Rattle.lt_model.proofs.Sets.{simplex_cmp_total}
use Rattle.lt_model.proofs.Filtered.{passing_in, from_filter, passes}
use Rattle.lt_geometry.proofs.Choices.{fit}
use Rattle.lt_geometry.proofs.Rearranged.{IsDistinct}
use Rattle.lt_geometry.proofs.Sorting.{sorted_is_distinct}
use Rattle.lt_geometry.proofs.EdgeLists.{exact_points, exact_lists}
use Rattle.lt_laws.specs.Negatives.{IsHalved}
use Rattle.lt_laws.proofs.Negated.{negative_is_class, negative_of, negative_empty, negative-negative, not_own_negative}

-- ---- lists in two parts

module _ {X : Type 0} (p : X → Bool) where
  apart_filter : (xs : List X) → IsDistinct xs → IsDistinct (filter p xs)
  apart_filter [] a = tt
  apart_filter (x ∷ xs) a = by (p x) (apart_filter xs a.1)
    where
      by : (b : Bool) → IsDistinct (filter p xs) → IsDistinct (cond b (x ∷ filter p xs) (filter p xs))
      by true rest = (λ c. a.0 (from_filter p xs x c), rest)
      by false rest = rest

  two_parts : (xs : List X) → length xs ≡ length (filter p xs) + length (filter (λ x. not (p x)) xs)
  two_parts [] = refl
  two_parts (x ∷ xs) = by (p x) (two_parts xs)
    where
      by : (b : Bool) → length xs ≡ length (filter p xs) + length (filter (λ x. not (p x)) xs) → length (x ∷ xs) ≡ length (cond b (x ∷ filter p xs) (filter p xs)) + length (cond (not b) (x ∷ filter (λ x. not (p x)) xs) (filter (λ x. not (p x)) xs))
      by true rest = omega (arith, rest)
      by false rest = omega (arith, rest)

-- ---- a class and its negative

module _ (d : ℕ) (low : 2 ≤ d) where
  not_same : (s : List (List ℤ)) → IsClass d s → negative s ≢ s
  not_same s c e = not_own_negative d s low (subst (IsClassOf d (negated s)) e (negative_of d s c))

  -- one of the two comes first
  other_first : (s : List (List ℤ)) → IsClass d s → comes_first s ≡ false → comes_first (negative s) ≡ true
  other_first s c e =
      ap (λ (r : List (List ℤ)). is_lt (simplex_cmp (negative s) r)) (negative-negative d s c)
      ∙ ap is_lt (simplex_cmp_total.antisymm (negative s) s) ∙ by (simplex_cmp s (negative s)) refl e
    where
      by : (r : Ordering) → simplex_cmp s (negative s) ≡ r → is_lt r ≡ false → is_lt (ordering_reverse r) ≡ true
      by Less k f = absurd (false≢true (sym f))
      by Equal k f = absurd (not_same s c (sym (exact_lists number_list_cmp exact_points s (negative s) k)))
      by Greater k f = refl

  -- and one alone
  not_both : (s : List (List ℤ)) → IsClass d s → comes_first s ≡ true → comes_first (negative s) ≡ false
  not_both s c e =
      ap (λ (r : List (List ℤ)). is_lt (simplex_cmp (negative s) r)) (negative-negative d s c)
      ∙ ap is_lt (simplex_cmp_total.antisymm (negative s) s) ∙ by (simplex_cmp s (negative s)) e
    where
      by : (r : Ordering) → is_lt r ≡ true → is_lt (ordering_reverse r) ≡ false
      by Less f = refl
      by Equal f = absurd (false≢true f)
      by Greater f = absurd (false≢true f)

  module _ (q : List ℤ) (t : List (List (List ℤ))) (del : IsDelaunay d q t) where
    others : List (List (List ℤ))
    others = filter (λ s. not (comes_first s)) t

    of_class : (s : List (List ℤ)) → Contains t s → IsClass d s
    of_class s m = ((del.members s).0 m).0

    negative_in : (s : List (List ℤ)) → Contains t s → Contains t (negative s)
    negative_in s m = (let c = (del.members s).0 m in (del.members (negative s)).1 (negative_is_class d s c.0, negative_empty d q s c.0 c.1))

    back_in : (s : List (List ℤ)) → IsClass d s → Contains t (negative s) → Contains t s
    back_in s c m = subst (Contains t) (negative-negative d s c) (negative_in (negative s) m)

    in_half : (s : List (List ℤ)) → Contains t s → Contains (half t) s ⊎ Contains (half t) (negative s)
    in_half s m = by (comes_first s) refl
      where
        by : (b : Bool) → comes_first s ≡ b → Contains (half t) s ⊎ Contains (half t) (negative s)
        by true e = inl (passing_in comes_first t s m e)
        by false e = inr (passing_in comes_first t (negative s) (negative_in s m) (other_first s (of_class s m) e))

    all_apart : IsDistinct t
    all_apart = sorted_is_distinct simplex_cmp simplex_cmp_total t del.ascending

    one_back : (s r : List (List ℤ)) (n : List (List ℤ)) → IsClass d s → IsClass d r → negative s ≡ n → negative r ≡ n → s ≡ r
    one_back s r n c k e f = sym (negative-negative d s c) ∙ ap negative (e ∙ sym f) ∙ negative-negative d r k

    not_more : length (half t) ≤ length others
    unfolding others
    not_more = fit (λ s r. negative s ≡ r) (half t) (filter (λ s. not (comes_first s)) t) (apart_filter comes_first t all_apart)
        (λ s m. let c = from_filter comes_first t s m in
        (negative s, passing_in (λ r. not (comes_first r)) t (negative s) (negative_in s c) (ap not (not_both s (of_class s c) (passes comes_first t s m))), refl))
        (λ s r n m k e f. one_back s r n (of_class s (from_filter comes_first t s m)) (of_class r (from_filter comes_first t r k)) e f)

    not_less : length others ≤ length (half t)
    unfolding others
    not_less = fit (λ s r. negative s ≡ r) (filter (λ s. not (comes_first s)) t) (half t) (apart_filter (λ s. not (comes_first s)) t all_apart)
        (λ s m. let c = from_filter (λ r. not (comes_first r)) t s m in
        (negative s, passing_in comes_first t (negative s) (negative_in s c) (other_first s (of_class s c) (untrue (comes_first s) (passes (λ r. not (comes_first r)) t s m))), refl))
        (λ s r n m k e f. one_back s r n (of_class s (from_filter (λ z. not (comes_first z)) t s m)) (of_class r (from_filter (λ z. not (comes_first z)) t r k)) e f)
      where
        untrue : (b : Bool) → not b ≡ true → b ≡ false
        untrue true e = absurd (false≢true e)
        untrue false e = refl

    pub halved : IsHalved d t
    unfolding others
    halved = record {
      members = λ s c. (in_half s, λ h. elim h [ inl m ↦ from_filter comes_first t s m | inr m ↦ back_in s c (from_filter comes_first t (negative s) m) ]);
      apart = λ s m n.
          let c = of_class s (from_filter comes_first t s m) in
          false≢true (sym (not_both s c (passes comes_first t s m)) ∙ passes comes_first t (negative s) n);
      twice = omega (arith, two_parts comes_first t, not_more, not_less);
    }
