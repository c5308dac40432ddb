-- The ways stand in ascending order, and with 0 before each they are the principal triangulation.
use Rattle.std.proofs.Common.{◌≡◌, ℕ, zero, suc, ◌<◌, ◌≤◌, ℤ, pos, negsuc, ◌+ℤ◌, refl, ap, arith, sym, ◌∙◌, subst, List, [], ◌∷◌, ◌++◌, map, length, inl, inr}
use Rattle.std.proofs.lemmas.Int.{ints}
use Rattle.std.specs.List.{Contains, AllByRecursion}
use Rattle.std.specs.List.Sorted.{IsStrictlySortedBy}
use Rattle.std.specs.declared.cmp.Ordering.TheVariants.{Less, Equal}
use Rattle.std.specs.Ordering.{int_cmp}
use Rattle.std.specs.Cmp.{int_cmp_is}
use Rattle.lt_model.specs.Order.{number_list_cmp, simplex_cmp}
use Rattle.lt_model.specs.Vectors.{plus, zeros, unit}
use Rattle.lt_model.specs.Facets.{number_at}
use Rattle.lt_model.specs.Principal.{IsOrder, IsPrincipal, principal_class}
use Rattle.lt_model.proofs.Opposite.{length-zeros}
use Rattle.lt_model.proofs.Sets.{Contains-head, Contains-tail, Contains-cases, Contains-none}
use Rattle.lt_geometry.proofs.Paths.{free_order, length-step}
use Rattle.lt_principal.specs.Paths.{when_zero, ways_below, ways, before_each}
use Rattle.lt_principal.proofs.AllOrders.{order_from_free, steps_of, path_is, one_step, way_is, way_has}

-- a step along a later coordinate gives a lesser point
lesser_step : (d j k : ℕ) (x : List ℤ) → length x ≡ d → j < k → k < d → number_list_cmp (plus x (unit d k)) (plus x (unit d j)) ≡ Less
lesser_step zero j k x l h g = absurd (omega arith)
lesser_step (suc d) j k [] l h g = absurd (omega arith)
lesser_step (suc d) zero zero (a ∷ x) l h g = absurd (omega arith)
lesser_step (suc d) zero (suc k) (a ∷ x) l h g =
    let e : Less ≡ int_cmp (a +ℤ pos 0) (a +ℤ pos 1) = int_cmp_is (a +ℤ pos 0) (a +ℤ pos 1) Less (omega (arith, ints)) in
    rw (← e) refl
lesser_step (suc d) (suc j) zero (a ∷ x) l h g = absurd (omega arith)
lesser_step (suc d) (suc j) (suc k) (a ∷ x) l h g =
    let e : Equal ≡ int_cmp (a +ℤ pos 0) (a +ℤ pos 0) = int_cmp_is (a +ℤ pos 0) (a +ℤ pos 0) Equal (omega (arith, ints)) in
    rw (← e) (lesser_step d j k x (omega arith) (omega arith) (omega arith))

same_point : (x : List ℤ) → number_list_cmp x x ≡ Equal
same_point [] = refl
same_point (a ∷ x) =
    let e : Equal ≡ int_cmp a a = int_cmp_is a a Equal (omega (arith, ints)) in
    rw (← e) (same_point x)

-- behind one first point the order is that of the rest
behind : (y : List ℤ) (s t : List (List ℤ)) → simplex_cmp s t ≡ Less → simplex_cmp (y ∷ s) (y ∷ t) ≡ Less
behind y s t h = rw (same_point y) h

above_behind : (y : List ℤ) (s : List (List ℤ)) (all : List (List (List ℤ))) → AllByRecursion (λ t. simplex_cmp s t ≡ Less) all → AllByRecursion (λ t. simplex_cmp (y ∷ s) t ≡ Less) (map (λ l. y ∷ l) all)
above_behind y s [] h = tt
above_behind y s (t ∷ all) h = (behind y s t h.0, above_behind y s all h.1)

sorted_behind : (y : List ℤ) (all : List (List (List ℤ))) → IsStrictlySortedBy simplex_cmp all → IsStrictlySortedBy simplex_cmp (map (λ l. y ∷ l) all)
unfolding IsStrictlySortedBy
sorted_behind y [] h = tt
sorted_behind y (s ∷ all) h = (above_behind y s all h.0, sorted_behind y all h.1)

each_above : (s : List (List ℤ)) (all : List (List (List ℤ))) → ((t : List (List ℤ)) → Contains all t → simplex_cmp s t ≡ Less) → AllByRecursion (λ t. simplex_cmp s t ≡ Less) all
each_above s [] h = tt
each_above s (t ∷ all) h = (h t (Contains-head t all), each_above s all (λ u c. h u (Contains-tail t all u c)))

above_both : (s : List (List ℤ)) (all more : List (List (List ℤ))) → AllByRecursion (λ t. simplex_cmp s t ≡ Less) all → AllByRecursion (λ t. simplex_cmp s t ≡ Less) more → AllByRecursion (λ t. simplex_cmp s t ≡ Less) (all ++ more)
above_both s [] more h k = k
above_both s (t ∷ all) more h k = (h.0, above_both s all more h.1 k)

sorted_both : (all more : List (List (List ℤ))) → IsStrictlySortedBy simplex_cmp all → IsStrictlySortedBy simplex_cmp more → ((s t : List (List ℤ)) → Contains all s → Contains more t → simplex_cmp s t ≡ Less) → IsStrictlySortedBy simplex_cmp (all ++ more)
unfolding IsStrictlySortedBy
sorted_both [] more h k below = k
sorted_both (s ∷ all) more h k below =
    (above_both s all more h.0 (each_above s more (λ t c. below s t (Contains-head s all) c)), sorted_both all more h.1 k (λ u t c e. below u t (Contains-tail s all u c) e))

sorted_when : (z : ℤ) (all : List (List (List ℤ))) → IsStrictlySortedBy simplex_cmp all → IsStrictlySortedBy simplex_cmp (when_zero z all)
unfolding IsStrictlySortedBy
sorted_when (pos zero) all h = h
sorted_when (pos (suc n)) all h = tt
sorted_when (negsuc n) all h = tt

begins : (z : ℤ) (y : List ℤ) (all : List (List (List ℤ))) (s : List (List ℤ)) → Contains (when_zero z (map (λ l. y ∷ l) all)) s → (r : List (List ℤ)) × (s ≡ y ∷ r)
begins (pos zero) y [] s h = Contains-none s h
begins (pos zero) y (t ∷ all) s h =
    elim (Contains-cases (y ∷ t) (map (λ l. y ∷ l) all) s h) [ inl e ↦ (t, sym e) | inr r ↦ begins (pos zero) y all s r ]
begins (pos (suc n)) y all s h = Contains-none s h
begins (negsuc n) y all s h = Contains-none s h

sorted_below : (d : ℕ) (rest : List ℤ → List (List (List ℤ))) (x : List ℤ) (k : ℕ) → length x ≡ d → k ≤ d → ((j : ℕ) → IsStrictlySortedBy simplex_cmp (rest (plus x (unit d j)))) → IsStrictlySortedBy simplex_cmp (ways_below d rest x k)
unfolding IsStrictlySortedBy
sorted_below d rest x zero l h sorted = tt
sorted_below d rest x (suc k) l h sorted =
    sorted_both (when_zero (number_at k x) (map (λ t. y ∷ t) (rest y))) (ways_below d rest x k)
    (sorted_when (number_at k x) (map (λ t. y ∷ t) (rest y)) (sorted_behind y (rest y) (sorted k))) (sorted_below d rest x k l (omega arith) sorted) less
  where
    y : List ℤ
    y = plus x (unit d k)

    less : (s t : List (List ℤ)) → Contains (when_zero (number_at k x) (map (λ u. y ∷ u) (rest y))) s → Contains (ways_below d rest x k) t → simplex_cmp s t ≡ Less
    less s t a b =
        let f = begins (number_at k x) (plus x (unit d k)) (rest (plus x (unit d k))) s a in
        let g = one_step d rest x k t b in
        let first : number_list_cmp (plus x (unit d k)) (plus x (unit d g.0)) ≡ Less = lesser_step d g.0 k x l g.1 (omega arith) in
        rw (f.1, g.3.2, first) refl

pub ways_ascend : (d n : ℕ) (x : List ℤ) → length x ≡ d → IsStrictlySortedBy simplex_cmp (ways d n x)
unfolding IsStrictlySortedBy
ways_ascend d zero x l = (tt, tt)
ways_ascend d (suc n) x l = sorted_below d (ways d n) x d l (omega arith) (λ j. ways_ascend d n (plus x (unit d j)) (length-step d j x l))

-- ---- with one point before each

before_one : (x : List ℤ) (all : List (List (List ℤ))) → before_each (x ∷ []) all ≡ map (λ t. x ∷ t) all
before_one x [] = refl
before_one x (t ∷ all) = ap (λ l. (x ∷ t) ∷ l) (before_one x all)

contains_one : (x : List ℤ) (all : List (List (List ℤ))) (t : List (List ℤ)) → Contains all t → Contains (before_each (x ∷ []) all) (x ∷ t)
contains_one x [] t h = Contains-none t h
contains_one x (s ∷ all) t h =
    elim (Contains-cases s all t h) [
      | inl e ↦ subst (λ (l : List (List ℤ)). Contains ((x ∷ s) ∷ before_each (x ∷ []) all) (x ∷ l)) e (Contains-head (x ∷ s) (before_each (x ∷ []) all))
      | inr r ↦ Contains-tail (x ∷ s) (before_each (x ∷ []) all) (x ∷ t) (contains_one x all t r)
    ]

from_one : (x : List ℤ) (all : List (List (List ℤ))) (s : List (List ℤ)) → Contains (before_each (x ∷ []) all) s → (t : List (List ℤ)) × Contains all t × (s ≡ x ∷ t)
from_one x [] s h = Contains-none s h
from_one x (t ∷ all) s h =
    elim (Contains-cases (x ∷ t) (before_each (x ∷ []) all) s h) [
      | inl e ↦ (t, Contains-head t all, sym e)
      | inr r ↦ let f = from_one x all s r in (f.0, Contains-tail t all f.0 f.1, f.2)
    ]

-- the ways of d steps from 0 are the principal triangulation
pub ways_are_principal : (d : ℕ) → IsPrincipal d (before_each (zeros d ∷ []) (ways d d (zeros d)))
ways_are_principal d = record {
  ascending = subst (IsStrictlySortedBy simplex_cmp) (sym (before_one (zeros d) (ways d d (zeros d)))) (sorted_behind (zeros d) (ways d d (zeros d)) (ways_ascend d d (zeros d) (length-zeros d)));
  members = λ s. (into s, from s);
}
  where
    into : (s : List (List ℤ)) → Contains (before_each (zeros d ∷ []) (ways d d (zeros d))) s → (p : List ℕ) × IsOrder d p × (s ≡ principal_class d p)
    into s h =
        let f = from_one (zeros d) (ways d d (zeros d)) s h in
        let w = way_is d d (zeros d) f.0 (length-zeros d) f.1 in
        (w.0, order_from_free d (zeros d) w.0 w.2 w.1, f.2 ∙ ap (λ t. zeros d ∷ t) w.3 ∙ sym (path_is d (zeros d) w.0))

    from : (s : List (List ℤ)) → (p : List ℕ) × IsOrder d p × (s ≡ principal_class d p) → Contains (before_each (zeros d ∷ []) (ways d d (zeros d))) s
    from s (p, o, e) =
        subst (Contains (before_each (zeros d ∷ []) (ways d d (zeros d)))) (sym (e ∙ path_is d (zeros d) p))
        (contains_one (zeros d) (ways d d (zeros d)) (steps_of d (zeros d) p) (way_has d d (zeros d) p o.count (free_order d p o)))
