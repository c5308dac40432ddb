-- The search by halves among ascending classes.
use Rattle.std.proofs.Common.{◌≡◌, ℕ, ◌<◌, ◌≤◌, ◌+◌, inl, inr, ap, arith, sym, ◌∙◌, subst, ℤ, List, [], length, get_or}
use Rattle.std.specs.declared.cmp.Ordering.{Ordering}
use Rattle.std.specs.declared.cmp.Ordering.TheVariants.{Less, Greater}
use Rattle.std.specs.Ordering.{ordering_reverse}
use Rattle.std.specs.List.{Contains}
use Rattle.std.specs.List.Sorted.{IsStrictlySortedBy}
use Rattle.std.proofs.lemmas.Map.Keys.{Less-from_sorted}
use Rattle.std.proofs.lemmas.List.{get_or_default}
use Rattle.std.proofs.lemmas.Bool.{cases_lt}
use Rattle.lt_model.specs.Order.{simplex_cmp}
use Rattle.lt_model.proofs.Sets.{simplex_cmp_total}

-- what comes before a class below x is below x
pub below_at : (t : List (List (List ℤ))) (x : List (List ℤ)) (m n : ℕ) → IsStrictlySortedBy simplex_cmp t → m < length t → simplex_cmp (get_or t m []) x ≡ Less → n < m + 1 → simplex_cmp (get_or t n []) x ≡ Less
below_at t x m n asc hm less h =
    elim (cases_lt n m) [
      | inl before ↦ simplex_cmp_total.trans (get_or t n []) (get_or t m []) x (Less-from_sorted simplex_cmp t n m [] asc before hm) less
      | inr after ↦ let same : m ≡ n = omega arith in subst (λ (k : ℕ). simplex_cmp (get_or t k []) x ≡ Less) same less
    ]

-- what comes after a class above x is above x
pub above_at : (t : List (List (List ℤ))) (x : List (List ℤ)) (m n : ℕ) → IsStrictlySortedBy simplex_cmp t → simplex_cmp (get_or t m []) x ≡ Greater → m ≤ n → n < length t → simplex_cmp (get_or t n []) x ≡ Greater
above_at t x m n asc more h hn =
    elim (cases_lt m n) [
      | inl after ↦
          let below : simplex_cmp x (get_or t m []) ≡ Less = simplex_cmp_total.antisymm x (get_or t m []) ∙ ap ordering_reverse more in
          let all : simplex_cmp x (get_or t n []) ≡ Less = simplex_cmp_total.trans x (get_or t m []) (get_or t n []) below (Less-from_sorted simplex_cmp t m n [] asc after hn) in
          simplex_cmp_total.antisymm (get_or t n []) x ∙ ap ordering_reverse all
      | inr before ↦ let same : m ≡ n = omega arith in subst (λ (k : ℕ). simplex_cmp (get_or t k []) x ≡ Greater) same more
    ]

-- where all before a place are below x and all from there on above it, x is no member
pub not_among : (t : List (List (List ℤ))) (x : List (List ℤ)) (low high : ℕ) → high ≤ low → ((n : ℕ) → n < low → simplex_cmp (get_or t n []) x ≡ Less) → ((n : ℕ) → high ≤ n → n < length t → simplex_cmp (get_or t n []) x ≡ Greater) → Contains t x → ⊥
not_among t x low high h below above (k, p, e) =
    let is : get_or t k [] ≡ x = get_or_default t k [] x p ∙ e in
    elim (cases_lt k low) [
      | inl before ↦ itself Less (λ f. clash f) (subst (λ (z : List (List ℤ)). simplex_cmp z x ≡ Less) is (below k before))
      | inr after ↦ itself Greater (λ f. clash2 f) (subst (λ (z : List (List ℤ)). simplex_cmp z x ≡ Greater) is (above k (omega arith) p))
    ]
  where
    clash : ordering_reverse Less ≡ Less → ⊥
    clash f = cc

    clash2 : ordering_reverse Greater ≡ Greater → ⊥
    clash2 f = cc

    itself : (r : Ordering) → (ordering_reverse r ≡ r → ⊥) → simplex_cmp x x ≡ r → ⊥
    itself r never f = never (ap ordering_reverse (sym f) ∙ sym (simplex_cmp_total.antisymm x x) ∙ f)
