-- Independent points: in order they ascend strictly, and their differences from the first tell of them.
use Rattle.std.proofs.Common.{◌≡◌, ℕ, zero, suc, ℤ, pos, negsuc, ◌<◌, ◌+◌, refl, ap, arith, sym, ◌∙◌, subst, false, List, [], ◌∷◌, length, map, get_or, inl, inr, ◌⊎◌}
use Rattle.std.specs.Ordering as orders
use Rattle.std.proofs.lemmas.Int.{ints}
use Rattle.std.specs.declared.cmp.Ordering.{Ordering}
use Rattle.std.specs.declared.cmp.Ordering.TheVariants.{Less, Equal, Greater}
use Rattle.std.specs.Ordering.{is_lt}
use Rattle.std.specs.List.{AllByRecursion, Contains}
use Rattle.std.specs.List.Sorted.{IsSorted, IsStrictlySortedBy}
use Rattle.std.proofs.lemmas.List.Sorted.{sorted_far, ranks_by}
use Rattle.lt_model.proofs.Sets.{Contains-head, Contains-tail, number_list_cmp_total}
use Rattle.lt_model.proofs.Vectors.{dot_comm, dot-plus, dot-scale}
use Rattle.lt_model.proofs.Squares.{length-scale}
use Rattle.lt_model.proofs.Excess.{dot-combine, same_from_dots, scale-dot}
use Rattle.lt_model.proofs.Walk.{length-combine}
use Rattle.lt_model.proofs.Opposite.{length-zeros, zeros-dot, length-unit, unit-dot}
use Rattle.lt_model.specs.Order.{number_list_cmp}
use Rattle.lt_model.specs.Facets.{number_at}
use Rattle.lt_model.specs.Vectors.{scale, dot, total, combine, zeros, unit}
use Rattle.lt_model.specs.Simplices.{AllOfDimension, AreIndependent}
use Rattle.lt_model.proofs.Expressions.{total-scale}
use Rattle.lt_model.proofs.Points.{total-unit}
use Rattle.lt_triang.proofs.Tied.{equal_points}

-- ---- independent points that don't descend ascend

number_at-get : (k : ℕ) (f : List ℤ → ℤ) (vs : List (List ℤ)) (x : List ℤ) → k < length vs → get_or vs k x ≡ x → number_at k (map f vs) ≡ f x
number_at-get k f [] x p e = absurd (omega arith)
number_at-get zero f (v ∷ vs) x p e = ap f e
number_at-get (suc k) f (v ∷ vs) x p e = number_at-get k f vs x (omega arith) e

independent_tail : (d : ℕ) (v : List ℤ) (vs : List (List ℤ)) → AllOfDimension d (v ∷ vs) → AreIndependent d (v ∷ vs) → AreIndependent d vs
independent_tail d v vs all free b lb sum none =
    let z : pos 0 ∷ b ≡ zeros (suc (length vs)) = free (pos 0 ∷ b) (omega arith) (omega (arith, ints)) (same_from_dots (combine (pos 0 ∷ b) (v ∷ vs)) (zeros d) (length-combine d (pos 0 ∷ b) (v ∷ vs) all (omega arith) (omega arith) ∙ sym (length-zeros d)) at) in
    cc
  where
    at : (u : List ℤ) → dot u (combine (pos 0 ∷ b) (v ∷ vs)) ≡ dot u (zeros d)
    at u =
        let e : dot u (combine b vs) ≡ dot u (zeros d) = ap (dot u) none in
        dot-plus u (scale (pos 0) v) (combine b vs) ∙ (rw (dot-scale u (pos 0) v) (omega (arith, ints, e)))

twice : (d : ℕ) (v : List ℤ) (vs : List (List ℤ)) → AllOfDimension d (v ∷ vs) → AreIndependent d (v ∷ vs) → Contains vs v → ⊥
twice d v vs all free (k, p, e) =
    let b : List ℤ = pos 1 ∷ scale (negsuc 0) (unit (length vs) k) in
    let lb : length b ≡ length (v ∷ vs) = ap suc (length-scale (negsuc 0) (unit (length vs) k) ∙ length-unit (length vs) k) in
    let sb : total b ≡ pos 0 = rw (total-scale (negsuc 0) (unit (length vs) k), total-unit (length vs) k p) refl in
    let nb : combine b (v ∷ vs) ≡ zeros d = same_from_dots (combine b (v ∷ vs)) (zeros d) (length-combine d b (v ∷ vs) all lb (omega arith) ∙ sym (length-zeros d)) at in
    let z : b ≡ zeros (suc (length vs)) = free b lb sb nb in
    cc
  where
    at : (u : List ℤ) → dot u (combine (pos 1 ∷ scale (negsuc 0) (unit (length vs) k)) (v ∷ vs)) ≡ dot u (zeros d)
    at u =
        let g : dot (unit (length vs) k) (map (dot u) vs) ≡ dot u v = unit-dot (length vs) k (map (dot u) vs) (length-of vs) ∙ number_at-get k (dot u) vs v p e in
        dot-combine u (pos 1 ∷ scale (negsuc 0) (unit (length vs) k)) (v ∷ vs) ∙ (rw (scale-dot (negsuc 0) (unit (length vs) k) (map (dot u) vs), g) (omega (arith, ints))) ∙ sym (dot_comm u (zeros d) ∙ zeros-dot d u)
      where
        length-of : (vs : List (List ℤ)) → length (map (dot u) vs) ≡ length vs
        length-of [] = refl
        length-of (v ∷ vs) = ap suc (length-of vs)

less_or_equal : (o o' : Ordering) → o ≡ orders.ordering_reverse o' → is_lt o' ≡ false → (o ≡ Less) ⊎ (o ≡ Equal)
less_or_equal o Less e h = cc
less_or_equal o Equal e h = inr e
less_or_equal o Greater e h = inl e

pub ascending_rest : (v : List ℤ) (vs : List (List ℤ)) → IsSorted number_list_cmp (v ∷ vs) → IsSorted number_list_cmp vs
ascending_rest v vs h k d low p =
    let e : suc k + 1 ≡ suc (k + 1) = omega arith in
    let f : is_lt (number_list_cmp (get_or (v ∷ vs) (suc k + 1) d) (get_or (v ∷ vs) (suc k) d)) ≡ false = h (suc k) d (omega arith) (omega arith) in
    subst (λ (n : ℕ). is_lt (number_list_cmp (get_or (v ∷ vs) n d) (get_or vs k d)) ≡ false) e f

-- by the places of the later points
each_above : (d : ℕ) (v : List ℤ) (vs : List (List ℤ)) → (v ∷ vs ≡ v ∷ vs) → ((y : List ℤ) → Contains vs y → number_list_cmp v y ≡ Less) → AllByRecursion (λ y. number_list_cmp v y ≡ Less) vs
each_above d v [] e h = tt
each_above d v (w ∷ vs) e h = (h w (Contains-head w vs), each_above d v vs refl (λ y c. h y (Contains-tail w vs y c)))

pub strictly_from_sorted : (d : ℕ) (vs : List (List ℤ)) → AllOfDimension d vs → AreIndependent d vs → IsSorted number_list_cmp vs → IsStrictlySortedBy number_list_cmp vs
unfolding IsStrictlySortedBy
strictly_from_sorted d [] all free up = tt
strictly_from_sorted d (v ∷ vs) all free up =
    (each_above d v vs refl (λ y c. above y c), strictly_from_sorted d vs all.1 (independent_tail d v vs all free) (ascending_rest v vs up))
  where
    far : (y : List ℤ) → Contains vs y → is_lt (number_list_cmp y v) ≡ false
    far y (k, p, e) =
        let f : is_lt (number_list_cmp (get_or (v ∷ vs) (suc k) y) (get_or (v ∷ vs) 0 y)) ≡ false = sorted_far (λ x y. is_lt (number_list_cmp x y)) (ranks_by number_list_cmp_total (λ x. x)) (v ∷ vs) up 0 (suc k) y (omega arith) (omega arith) in
        subst (λ (w : List ℤ). is_lt (number_list_cmp w v) ≡ false) e f

    above : (y : List ℤ) → Contains vs y → number_list_cmp v y ≡ Less
    above y c =
        elim (less_or_equal (number_list_cmp v y) (number_list_cmp y v) (number_list_cmp_total.antisymm v y) (far y c)) [
          | inl e ↦ e
          | inr e ↦ absurd (twice d v vs all free (subst (λ (w : List ℤ). Contains vs w) (sym (equal_points v y e)) c))
        ]

-- ---- columns and points
