-- The ways from 0 are exactly the paths of the orders.
use Rattle.std.proofs.Common.{◌≡◌, ◌≢◌, ℕ, zero, suc, ◌<◌, ◌≤◌, ℤ, pos, negsuc, ◌+ℤ◌, refl, ap, arith, sym, ◌∙◌, subst, List, [], ◌∷◌, map, length, ◌⊎◌, inl, inr}
use Rattle.std.proofs.lemmas.Int.{ints}
use Rattle.std.proofs.lemmas.List.Elements.{Contains-append_left, Contains-append_right, Contains-append_cases}
use Rattle.std.specs.List.{Contains}
use Rattle.lt_model.specs.Vectors.{plus, unit}
use Rattle.lt_model.specs.Facets.{without, number_at}
use Rattle.lt_model.specs.Principal.{IsOrder, path_from}
use Rattle.lt_model.proofs.Walk.{length-without}
use Rattle.lt_model.proofs.Sets.{Contains-head, Contains-tail, Contains-cases, Contains-none}
use Rattle.lt_geometry.proofs.Places.{AreDifferent, IsAt, find, place_below, contains_at, was_there}
use Rattle.lt_geometry.proofs.Paths.{IsFree, free_next, step_own, step_other, length-step, same_or_not}
use Rattle.lt_principal.specs.Paths.{when_zero, ways_below, ways}

-- ---- different numbers below n

-- the others differ too
different_without : (p : List ℕ) (i : ℕ) → AreDifferent p → AreDifferent (without i p)
different_without [] i h = tt
different_without (k ∷ p) zero h = h.1
different_without (k ∷ p) (suc i) h = (λ c. h.0 (was_there p i k c), different_without p i h.1)

-- the number at a place is none of the others
not_left : (p : List ℕ) (i k : ℕ) → AreDifferent p → IsAt p i k → Contains (without i p) k → ⊥
not_left [] i k h at c = at
not_left (j ∷ p) zero k h at c = h.0 (subst (Contains p) (sym at) c)
not_left (j ∷ p) (suc i) k h at c =
    elim (Contains-cases j (without i p) k c) [
      | inl e ↦ h.0 (subst (Contains p) (sym e) (contains_at p i k at))
      | inr r ↦ not_left p i k h.1 at r
    ]

-- whether a list of numbers holds one
holds : (p : List ℕ) (k : ℕ) → Contains p k ⊎ (Contains p k → ⊥)
holds [] k = inr (λ c. Contains-none k c)
holds (j ∷ p) k =
    elim (same_or_not j k) [
      | inl e ↦ inl (subst (Contains (j ∷ p)) e (Contains-head j p))
      | inr n ↦ elim (holds p k) [
        | inl c ↦ inl (Contains-tail j p k c)
        | inr m ↦ inr (λ c. elim (Contains-cases j p k c) [ inl e ↦ n e | inr r ↦ m r ])
      ]
    ]

-- different numbers below n are at most n
no_more : (n : ℕ) (p : List ℕ) → AreDifferent p → ((k : ℕ) → Contains p k → k < n) → length p ≤ n
no_more zero [] h below = omega arith
no_more zero (k ∷ p) h below = absurd (omega (arith, below k (Contains-head k p)))
no_more (suc n) p h below =
    elim (holds p n) [
      | inl c ↦ one_less (find p n c) (λ q hq bq. no_more n q hq bq)
      | inr m ↦ let l = no_more n p h (λ k c. smaller k (below k c) (λ e. m (subst (Contains p) e c))) in omega (arith, l)
    ]
  where
    smaller : (k : ℕ) → k < suc n → k ≢ n → k < n
    smaller k l e = omega (arith, l, e)

    one_less : (i : ℕ) × IsAt p i n → ((q : List ℕ) → AreDifferent q → ((k : ℕ) → Contains q k → k < n) → length q ≤ n) → length p ≤ suc n
    one_less (i, at) more =
        let l = more (without i p) (different_without p i h) (λ k c. smaller k (below k (was_there p i k c)) (λ e. not_left p i n h at (subst (Contains (without i p)) e c))) in
        omega (arith, l, length-without i p (place_below p i n at))

-- d different numbers below d are an order
pub order_from_free : (d : ℕ) (x : List ℤ) (p : List ℕ) → IsFree d x p → length p ≡ d → IsOrder d p
order_from_free d x p h l = record { count = l; each = λ j lt. elim (holds p j) [ inl c ↦ c | inr m ↦ absurd (spare j lt m) ] }
  where
    spare : (j : ℕ) → j < d → (Contains p j → ⊥) → ⊥
    spare j lt m =
        let many : suc (length p) ≤ d = no_more d (j ∷ p) (m, h.different) (λ k c. elim (Contains-cases j p k c) [ inl e ↦ subst (λ (n : ℕ). n < d) e lt | inr r ↦ h.below k r ]) in
        absurd (omega (arith, many))

-- ---- the ways on, and the steps of a path

-- the path without its first point
abbrev pub steps_of : ℕ → List ℤ → List ℕ → List (List ℤ)
steps_of d x [] = []
steps_of d x (k ∷ p) = plus x (unit d k) ∷ steps_of d (plus x (unit d k)) p

pub path_is : (d : ℕ) (x : List ℤ) (p : List ℕ) → path_from d x p ≡ x ∷ steps_of d x p
path_is d x [] = refl
path_is d x (k ∷ p) = ap (λ l. x ∷ l) (path_is d (plus x (unit d k)) p)

contains_before : (y : List ℤ) (all : List (List (List ℤ))) (t : List (List ℤ)) → Contains all t → Contains (map (λ l. y ∷ l) all) (y ∷ t)
contains_before y [] t h = Contains-none t h
contains_before y (s ∷ all) t h =
    elim (Contains-cases s all t h) [
      | inl e ↦ subst (λ (l : List (List ℤ)). Contains ((y ∷ s) ∷ map (λ l. y ∷ l) all) (y ∷ l)) e (Contains-head (y ∷ s) (map (λ l. y ∷ l) all))
      | inr r ↦ Contains-tail (y ∷ s) (map (λ l. y ∷ l) all) (y ∷ t) (contains_before y all t r)
    ]

from_before : (y : List ℤ) (all : List (List (List ℤ))) (t : List (List ℤ)) → Contains (map (λ l. y ∷ l) all) t → (s : List (List ℤ)) × Contains all s × (t ≡ y ∷ s)
from_before y [] t h = Contains-none t h
from_before y (s ∷ all) t h =
    elim (Contains-cases (y ∷ s) (map (λ l. y ∷ l) all) t h) [
      | inl e ↦ (s, Contains-head s all, sym e)
      | inr r ↦ let f = from_before y all t r in (f.0, Contains-tail s all f.0 f.1, f.2)
    ]

where_zero : (z : ℤ) (all : List (List (List ℤ))) (t : List (List ℤ)) → Contains (when_zero z all) t → (z ≡ pos 0) × Contains all t
where_zero (pos zero) all t h = (refl, h)
where_zero (pos (suc n)) all t h = Contains-none t h
where_zero (negsuc n) all t h = Contains-none t h

at_zero : (z : ℤ) (all : List (List (List ℤ))) (t : List (List ℤ)) → z ≡ pos 0 → Contains all t → Contains (when_zero z all) t
at_zero (pos zero) all t e h = h
at_zero (pos (suc n)) all t e h = absurd (omega (arith, ints, e))
at_zero (negsuc n) all t e h = absurd (omega (arith, ints, e))

-- a way takes a step along a coordinate below k, and goes on
pub one_step : (d : ℕ) (rest : List ℤ → List (List (List ℤ))) (x : List ℤ) (k : ℕ) (t : List (List ℤ)) → Contains (ways_below d rest x k) t →
    (j : ℕ) × (j < k) × (number_at j x ≡ pos 0) × ((s : List (List ℤ)) × Contains (rest (plus x (unit d j))) s × (t ≡ plus x (unit d j) ∷ s))
one_step d rest x zero t h = Contains-none t h
one_step d rest x (suc k) t h =
    let y = plus x (unit d k) in
    elim (Contains-append_cases (when_zero (number_at k x) (map (λ l. y ∷ l) (rest y))) (ways_below d rest x k) t h) [
      | inl c ↦ let z = where_zero (number_at k x) (map (λ l. y ∷ l) (rest y)) t c in (k, omega arith, z.0, from_before y (rest y) t z.1)
      | inr c ↦ let r = one_step d rest x k t c in let l = r.1 in (r.0, omega (arith, l), r.2, r.3)
    ]

step_there : (d : ℕ) (rest : List ℤ → List (List (List ℤ))) (x : List ℤ) (k j : ℕ) (s : List (List ℤ)) → j < k → number_at j x ≡ pos 0 → Contains (rest (plus x (unit d j))) s → Contains (ways_below d rest x k) (plus x (unit d j) ∷ s)
step_there d rest x zero j s l z h = absurd (omega arith)
step_there d rest x (suc k) j s l z h =
    elim (same_or_not j k) [
      | inl e ↦ Contains-append_left (here k) (ways_below d rest x k) (plus x (unit d j) ∷ s) (subst (λ (m : ℕ). Contains (here m) (plus x (unit d j) ∷ s)) e own)
      | inr n ↦ Contains-append_right (here k) (ways_below d rest x k) (plus x (unit d j) ∷ s) (step_there d rest x k j s (omega (arith, l, n)) z h)
    ]
  where
    here : ℕ → List (List (List ℤ))
    here m = when_zero (number_at m x) (map (λ t. plus x (unit d m) ∷ t) (rest (plus x (unit d m))))

    own : Contains (here j) (plus x (unit d j) ∷ s)
    own = at_zero (number_at j x) (map (λ t. plus x (unit d j) ∷ t) (rest (plus x (unit d j)))) (plus x (unit d j) ∷ s) z (contains_before (plus x (unit d j)) (rest (plus x (unit d j))) s h)

-- each way is that of different coordinates at which x is 0
pub way_is : (d n : ℕ) (x : List ℤ) (t : List (List ℤ)) → length x ≡ d → Contains (ways d n x) t → (p : List ℕ) × (length p ≡ n) × IsFree d x p × (t ≡ steps_of d x p)
way_is d zero x t l h =
    elim (Contains-cases [] [] t h) [
      | inl e ↦ ([], refl, record { dimension = l; different = tt; below = λ k c. Contains-none k c; empty = λ k c. Contains-none k c }, sym e)
      | inr c ↦ Contains-none t c
    ]
way_is d (suc n) x t l h =
    let f = one_step d (ways d n) x d t h in
    let y = plus x (unit d f.0) in
    let r = way_is d n y f.3.0 (length-step d f.0 x l) f.3.1 in
    (f.0 ∷ r.0, ap suc r.1, longer f.0 r.0 f.1 f.2 r.2, f.3.2 ∙ ap (λ s. y ∷ s) r.3)
  where
    longer : (k : ℕ) (p : List ℕ) → k < d → number_at k x ≡ pos 0 → IsFree d (plus x (unit d k)) p → IsFree d x (k ∷ p)
    longer k p lt z free = record {
      dimension = l;
      different = (λ c. fresh c, free.different);
      below = λ j c. elim (Contains-cases k p j c) [ inl e ↦ subst (λ (m : ℕ). m < d) e lt | inr r ↦ free.below j r ];
      empty = λ j c. elim (Contains-cases k p j c) [ inl e ↦ subst (λ (m : ℕ). number_at m x ≡ pos 0) e z | inr r ↦ sym (step_other d k j x (λ e. fresh (subst (Contains p) e r))) ∙ free.empty j r ];
    }
      where
        fresh : Contains p k → ⊥
        fresh c =
            let one : number_at k (plus x (unit d k)) ≡ pos 1 = step_own d k x lt ∙ ap (λ (m : ℤ). m +ℤ pos 1) z in
            absurd (omega (arith, ints, one, free.empty k c))

-- and each such list of coordinates gives one
pub way_has : (d n : ℕ) (x : List ℤ) (p : List ℕ) → length p ≡ n → IsFree d x p → Contains (ways d n x) (steps_of d x p)
way_has d zero x [] l h = Contains-head [] []
way_has d zero x (k ∷ p) l h = absurd (omega arith)
way_has d (suc n) x [] l h = absurd (omega arith)
way_has d (suc n) x (k ∷ p) l h =
    step_there d (ways d n) x d k (steps_of d (plus x (unit d k)) p) (h.below k (Contains-head k p)) (h.empty k (Contains-head k p)) (way_has d n (plus x (unit d k)) p (omega arith) (free_next d k x p h))
