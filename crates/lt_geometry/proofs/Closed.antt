-- Orders with a swap or a rotation, and the neighbours of the path of an order.
use Rattle.std.proofs.Common.{◌≡◌, ◌≢◌, ℕ, zero, suc, ℤ, pos, negsuc, ◌+ℤ◌, ◌-ℤ◌, ◌*ℤ◌, ◌<ℤ◌, ◌≤ℤ◌, ◌<◌, refl, ap, arith, sym, ◌∙◌, subst, List, [], ◌∷◌, ◌++◌, length, length-append, map, get_or, inl, inr}
use Rattle.std.proofs.lemmas.Int.{ints}
use Rattle.std.specs.List.{Contains}
use Rattle.std.proofs.lemmas.List.Elements.{Contains-append_left, Contains-append_right}
use Rattle.lt_model.proofs.Integers.{mul_zero_z, zero_mul_z}
use Rattle.lt_model.proofs.Inequalities.{square_nonneg_z}
use Rattle.lt_model.proofs.Ring.{ring, var, num, ◌⊕◌, ◌⊖◌, ◌⊗◌}
use Rattle.lt_model.proofs.Squares.{length-scale, length-plus}
use Rattle.lt_model.proofs.Vectors.{dot-plus, dot-scale, plus_comm, plus_assoc}
use Rattle.lt_model.proofs.Excess.{dot-combine, scale-dot, plus-dot, same_from_dots}
use Rattle.lt_model.proofs.Walk.{number_at-plus, number_at-scale, number_at-map, length-combine, length-map}
use Rattle.lt_model.proofs.Opposite.{unit-dot, length-unit}
use Rattle.lt_model.proofs.Expressions.{total-plus, total-scale}
use Rattle.lt_model.proofs.Sets.{Contains-head, Contains-tail, Contains-cases}
use Rattle.lt_model.specs.Vectors.{plus, scale, dot, total, combine, zeros, unit, ones}
use Rattle.lt_model.specs.Simplices.{AllOfDimension, IsExpression, translate}
use Rattle.lt_model.specs.Facets.{number_at, without, IsBeyond}
use Rattle.lt_model.specs.Forms.{numbers_of_form, IsPositiveDefinite}
use Rattle.lt_model.specs.Principal.{IsOrder, path_from, principal_rows}
use Rattle.lt_model.proofs.Flat.{number_at-unit_same}
use Rattle.lt_model.proofs.Hadamard.{dot_nonneg}
use Rattle.lt_model.proofs.Points.{plus-zeros, total-unit}
use Rattle.lt_geometry.proofs.Reading.{rows_value, length-ones}
use Rattle.lt_geometry.proofs.Paths.{unit_other, path_first}

-- ---- positive definite

row_square : (z : ℤ) (x : List ℤ) → pos 0 ≤ℤ (pos (length x) *ℤ (z *ℤ z) -ℤ pos 2 *ℤ (z *ℤ total x) +ℤ dot x x)
row_square z [] = omega (arith, ints, zero_mul_z (z *ℤ z), mul_zero_z z)
row_square z (a ∷ x) =
    end z a (pos (length x)) (pos (suc (length x))) (total x) (dot x x) (omega (arith, ints)) (row_square z x)
  where
    end : (z a n m s q : ℤ) → m ≡ n +ℤ pos 1 → pos 0 ≤ℤ (n *ℤ (z *ℤ z) -ℤ pos 2 *ℤ (z *ℤ s) +ℤ q) → pos 0 ≤ℤ (m *ℤ (z *ℤ z) -ℤ pos 2 *ℤ (z *ℤ (a +ℤ s)) +ℤ (a *ℤ a +ℤ q))
    end z a n m s q h k =
        let sq = square_nonneg_z (z -ℤ a) in
        let own : (n +ℤ pos 1) *ℤ (z *ℤ z) -ℤ pos 2 *ℤ (z *ℤ (a +ℤ s)) +ℤ (a *ℤ a +ℤ q) ≡ (n *ℤ (z *ℤ z) -ℤ pos 2 *ℤ (z *ℤ s) +ℤ q) +ℤ (z -ℤ a) *ℤ (z -ℤ a) =
        ring (z ∷ a ∷ n ∷ s ∷ q ∷ []) ((var 2 ⊕ num (pos 1)) ⊗ (var 0 ⊗ var 0) ⊖ num (pos 2) ⊗ (var 0 ⊗ (var 1 ⊕ var 3)) ⊕ (var 1 ⊗ var 1 ⊕ var 4))
        ((var 2 ⊗ (var 0 ⊗ var 0) ⊖ num (pos 2) ⊗ (var 0 ⊗ var 3) ⊕ var 4) ⊕ (var 0 ⊖ var 1) ⊗ (var 0 ⊖ var 1)) tt
        in
        rw h (omega (arith, ints, own, k, sq))

-- the square of a sum is at most n times the sum of the squares
pub square_of_sum : (x : List ℤ) → pos 0 ≤ℤ (pos (length x) *ℤ dot x x -ℤ total x *ℤ total x)
square_of_sum [] = omega (arith, ints)
square_of_sum (a ∷ x) =
    end a (pos (length x)) (pos (suc (length x))) (total x) (dot x x) (omega (arith, ints)) (row_square a x) (square_of_sum x)
  where
    end : (a n m s q : ℤ) → m ≡ n +ℤ pos 1 → pos 0 ≤ℤ (n *ℤ (a *ℤ a) -ℤ pos 2 *ℤ (a *ℤ s) +ℤ q) → pos 0 ≤ℤ (n *ℤ q -ℤ s *ℤ s) → pos 0 ≤ℤ (m *ℤ (a *ℤ a +ℤ q) -ℤ (a +ℤ s) *ℤ (a +ℤ s))
    end a n m s q h k l =
        let own : (n +ℤ pos 1) *ℤ (a *ℤ a +ℤ q) -ℤ (a +ℤ s) *ℤ (a +ℤ s) ≡ (n *ℤ (a *ℤ a) -ℤ pos 2 *ℤ (a *ℤ s) +ℤ q) +ℤ (n *ℤ q -ℤ s *ℤ s) =
        ring (a ∷ n ∷ s ∷ q ∷ []) ((var 1 ⊕ num (pos 1)) ⊗ (var 0 ⊗ var 0 ⊕ var 3) ⊖ (var 0 ⊕ var 2) ⊗ (var 0 ⊕ var 2))
        ((var 1 ⊗ (var 0 ⊗ var 0) ⊖ num (pos 2) ⊗ (var 0 ⊗ var 2) ⊕ var 3) ⊕ (var 1 ⊗ var 3 ⊖ var 2 ⊗ var 2)) tt
        in
        rw h (omega (arith, ints, own, k, l))

pub own_square_positive : (d : ℕ) (x : List ℤ) → length x ≡ d → x ≢ zeros d → pos 0 <ℤ dot x x
own_square_positive zero [] l n = absurd (n refl)
own_square_positive zero (a ∷ x) l n = absurd (omega arith)
own_square_positive (suc d) [] l n = absurd (omega arith)
own_square_positive (suc d) (pos zero ∷ x) l n =
    let h : pos 0 <ℤ dot x x = own_square_positive d x (omega arith) (λ e. n (ap (λ (r : List ℤ). pos 0 ∷ r) e)) in
    omega (arith, ints, h)
own_square_positive (suc d) (pos (suc a) ∷ x) l n = omega (arith, ints, dot_nonneg x)
own_square_positive (suc d) (negsuc a ∷ x) l n = omega (arith, ints, dot_nonneg x)

pub length-rows : (d k : ℕ) → length (principal_rows d k) ≡ numbers_of_form k
length-rows d zero = refl
length-rows d (suc k) =
    let e1 = length-append (scale (negsuc 1) (ones k)) (principal_rows d k) in
    let e2 = length-scale (negsuc 1) (ones k) in
    omega (arith, e1, e2, length-ones k, length-rows d k)

pub principal_positive : (d : ℕ) → IsPositiveDefinite d (principal_rows d d)
principal_positive d = record {
  numbers = length-rows d d;
  positive = λ x lx n. rw (rows_value d d x lx) (end (pos d) (dot x x) (total x) (own_square_positive d x lx n) (subst (λ (m : ℕ). pos 0 ≤ℤ (pos m *ℤ dot x x -ℤ total x *ℤ total x)) lx (square_of_sum x)));
}
  where
    end : (n q s : ℤ) → pos 0 <ℤ q → pos 0 ≤ℤ (n *ℤ q -ℤ s *ℤ s) → pos 0 <ℤ ((n +ℤ pos 1) *ℤ q -ℤ s *ℤ s)
    end n q s h k =
        let own : (n +ℤ pos 1) *ℤ q -ℤ s *ℤ s ≡ n *ℤ q -ℤ s *ℤ s +ℤ q = ring (n ∷ q ∷ s ∷ []) ((var 0 ⊕ num (pos 1)) ⊗ var 1 ⊖ var 2 ⊗ var 2) (var 0 ⊗ var 1 ⊖ var 2 ⊗ var 2 ⊕ var 1) tt in
        omega (arith, ints, own, h, k)

-- ---- three points

-- 1 at the places j and k, less 1 at i
abbrev pub three : ℕ → ℕ → ℕ → ℕ → List ℤ
three n i j k = plus (scale (negsuc 0) (unit n i)) (plus (unit n j) (unit n k))

pub length-three : (n i j k : ℕ) → length (three n i j k) ≡ n
length-three n i j k =
    let e1 : length (plus (unit n j) (unit n k)) ≡ n = length-plus (unit n j) (unit n k) (length-unit n j ∙ sym (length-unit n k)) ∙ length-unit n j in
    let e2 : length (scale (negsuc 0) (unit n i)) ≡ n = length-scale (negsuc 0) (unit n i) ∙ length-unit n i in
    length-plus (scale (negsuc 0) (unit n i)) (plus (unit n j) (unit n k)) (e2 ∙ sym e1) ∙ e2

pub three-dot : (n i j k : ℕ) (u : List ℤ) → length u ≡ n → dot (three n i j k) u ≡ number_at j u +ℤ number_at k u -ℤ number_at i u
three-dot n i j k u lu =
    rw (plus-dot (scale (negsuc 0) (unit n i)) (plus (unit n j) (unit n k)) u, plus-dot (unit n j) (unit n k) u, scale-dot (negsuc 0) (unit n i) u)
    (omega (arith, ints, unit-dot n i u lu, unit-dot n j u lu, unit-dot n k u lu))

-- w is v_j + v_k - v_i
pub record IsThird (vs : List (List ℤ)) (w : List ℤ) (i j k : ℕ) : Type 0 where
  pub first : i < length vs
  pub second : j < length vs
  pub third : k < length vs
  pub apart : i ≢ j
  pub apart_too : i ≢ k
  pub is : (u : List ℤ) → dot u w ≡ dot u (get_or vs j []) +ℤ dot u (get_or vs k []) -ℤ dot u (get_or vs i [])

pub third_expression : (d : ℕ) (vs : List (List ℤ)) (w : List ℤ) (i j k : ℕ) → AllOfDimension d vs → length w ≡ d → IsThird vs w i j k → IsExpression vs w (pos 1) (three (length vs) i j k)
third_expression d vs w i j k all lw h = record {
  positive = omega (arith, ints);
  one_each = length-three (length vs) i j k;
  point = same_from_dots (combine (three (length vs) i j k) vs) (scale (pos 1) w) (length-combine d (three (length vs) i j k) vs all (length-three (length vs) i j k) (omega (arith, h.first)) ∙ sym lw ∙ sym (length-scale (pos 1) w)) at;
  sum = sums;
}
  where
    at : (u : List ℤ) → dot u (combine (three (length vs) i j k) vs) ≡ dot u (scale (pos 1) w)
    at u =
        let e = three-dot (length vs) i j k (map (dot u) vs) (length-map (dot u) vs) in
        let ei = number_at-map (dot u) i vs [] h.first in
        let ej = number_at-map (dot u) j vs [] h.second in
        let ek = number_at-map (dot u) k vs [] h.third in
        dot-combine u (three (length vs) i j k) vs ∙ (rw (dot-scale u (pos 1) w) (omega (arith, ints, e, ei, ej, ek, h.is u)))

    sums : total (three (length vs) i j k) ≡ pos 1
    sums =
        rw (total-plus (scale (negsuc 0) (unit (length vs) i)) (plus (unit (length vs) j) (unit (length vs) k)), total-plus (unit (length vs) j) (unit (length vs) k), total-scale (negsuc 0) (unit (length vs) i), total-unit (length vs) i h.first, total-unit (length vs) j h.second, total-unit (length vs) k h.third) refl

pub third_beyond : (d : ℕ) (vs : List (List ℤ)) (w : List ℤ) (i j k : ℕ) → AllOfDimension d vs → length w ≡ d → IsThird vs w i j k → IsBeyond vs i w
third_beyond d vs w i j k all lw h = record {
  scale = pos 1;
  coefficients = three (length vs) i j k;
  expression = third_expression d vs w i j k all lw h;
  negative = negative;
}
  where
    negative : number_at i (three (length vs) i j k) <ℤ pos 0
    negative =
        let n = length vs in
        let e1 = number_at-plus i (scale (negsuc 0) (unit n i)) (plus (unit n j) (unit n k)) in
        let e2 = number_at-plus i (unit n j) (unit n k) in
        let e3 = number_at-scale i (negsuc 0) (unit n i) in
        let e4 = number_at-unit_same n i h.first in
        let e5 = unit_other n j i h.apart in
        let e6 = unit_other n k i h.apart_too in
        let e7 : number_at i (scale (negsuc 0) (unit n i)) ≡ negsuc 0 = e3 ∙ ap (λ m. negsuc 0 *ℤ m) e4 in
        omega (arith, ints, e1, e2, e7, e5, e6)

-- ---- orders

-- the places i and i + 1 exchanged
abbrev pub swapped : ℕ → List ℕ → List ℕ
swapped i [] = []
swapped i (a ∷ []) = a ∷ []
swapped zero (a ∷ b ∷ p) = b ∷ a ∷ p
swapped (suc i) (a ∷ b ∷ p) = a ∷ swapped i (b ∷ p)

length-swapped : (i : ℕ) (p : List ℕ) → length (swapped i p) ≡ length p
length-swapped i [] = refl
length-swapped i (a ∷ []) = refl
length-swapped zero (a ∷ b ∷ p) = refl
length-swapped (suc i) (a ∷ b ∷ p) = ap suc (length-swapped i (b ∷ p))

swapped_has : (i : ℕ) (p : List ℕ) (k : ℕ) → Contains p k → Contains (swapped i p) k
swapped_has i [] k c = c
swapped_has i (a ∷ []) k c = c
swapped_has zero (a ∷ b ∷ p) k c =
    elim (Contains-cases a (b ∷ p) k c) [
      | inl e ↦ subst (λ (x : ℕ). Contains (b ∷ a ∷ p) x) e (Contains-tail b (a ∷ p) a (Contains-head a p))
      | inr r ↦ elim (Contains-cases b p k r) [
        | inl e ↦ subst (λ (x : ℕ). Contains (b ∷ a ∷ p) x) e (Contains-head b (a ∷ p))
        | inr s ↦ Contains-tail b (a ∷ p) k (Contains-tail a p k s)
      ]
    ]
swapped_has (suc i) (a ∷ b ∷ p) k c =
    elim (Contains-cases a (b ∷ p) k c) [
      | inl e ↦ subst (λ (x : ℕ). Contains (a ∷ swapped i (b ∷ p)) x) e (Contains-head a (swapped i (b ∷ p)))
      | inr r ↦ Contains-tail a (swapped i (b ∷ p)) k (swapped_has i (b ∷ p) k r)
    ]

pub swapped_order : (d i : ℕ) (p : List ℕ) → IsOrder d p → IsOrder d (swapped i p)
swapped_order d i p o = record { count = length-swapped i p ∙ o.count; each = λ j l. swapped_has i p j (o.each j l) }

pub last_first : (d k : ℕ) (p : List ℕ) → IsOrder d (k ∷ p) → IsOrder d (p ++ (k ∷ []))
last_first d k p o = record {
  count = omega (arith, length-append p (k ∷ []), o.count);
  each = λ j l. elim (Contains-cases k p j (o.each j l)) [
    | inl e ↦ Contains-append_right p (k ∷ []) j (subst (λ (x : ℕ). Contains (k ∷ []) x) e (Contains-head k []))
    | inr r ↦ Contains-append_left p (k ∷ []) j r
  ];
}

pub first_last : (d k : ℕ) (p : List ℕ) → IsOrder d (p ++ (k ∷ [])) → IsOrder d (k ∷ p)
first_last d k p o = record {
  count = omega (arith, length-append p (k ∷ []), o.count);
  each = λ j l. back p j (o.each j l);
}
  where
    back : (p : List ℕ) (j : ℕ) → Contains (p ++ (k ∷ [])) j → Contains (k ∷ p) j
    back [] j c = c
    back (a ∷ p) j c =
        elim (Contains-cases a (p ++ (k ∷ [])) j c) [
          | inl e ↦ subst (λ (x : ℕ). Contains (k ∷ a ∷ p) x) e (Contains-tail k (a ∷ p) a (Contains-head a p))
          | inr r ↦ elim (Contains-cases k p j (back p j r)) [
            | inl e ↦ subst (λ (x : ℕ). Contains (k ∷ a ∷ p) x) e (Contains-head k (a ∷ p))
            | inr s ↦ Contains-tail k (a ∷ p) j (Contains-tail a p j s)
          ]
        ]

-- ---- the neighbour in the middle

pub swapped_facet : (d i : ℕ) (u : List ℤ) (p : List ℕ) → without (suc i) (path_from d u (swapped i p)) ≡ without (suc i) (path_from d u p)
swapped_facet d i u [] = refl
swapped_facet d i u (a ∷ []) = refl
swapped_facet d zero u (a ∷ b ∷ p) =
    let e : plus (plus u (unit d b)) (unit d a) ≡ plus (plus u (unit d a)) (unit d b) = plus_assoc u (unit d b) (unit d a) ∙ ap (plus u) (plus_comm (unit d b) (unit d a)) ∙ sym (plus_assoc u (unit d a) (unit d b)) in
    ap (λ (x : List ℤ). u ∷ path_from d x p) e
swapped_facet d (suc i) u (a ∷ b ∷ p) = ap (λ (l : List (List ℤ)). u ∷ l) (swapped_facet d i (plus u (unit d a)) (b ∷ p))

-- the places of the two steps at i
abbrev pub place_at : ℕ → List ℕ → ℕ
place_at i p = get_or p i 0

pub swapped_sum : (d i : ℕ) (u : List ℤ) (p : List ℕ) → suc i < length p → (t : List ℤ) →
    dot t (get_or (path_from d u (swapped i p)) (suc i) []) ≡ dot t (get_or (path_from d u p) i []) +ℤ dot t (get_or (path_from d u p) (suc (suc i)) []) -ℤ dot t (get_or (path_from d u p) (suc i) [])
swapped_sum d i u [] h t = absurd (omega arith)
swapped_sum d i u (a ∷ []) h t = absurd (omega arith)
swapped_sum d zero u (a ∷ b ∷ p) h t =
    let e1 : get_or (path_from d (plus (plus u (unit d b)) (unit d a)) p) 0 [] ≡ plus (plus u (unit d b)) (unit d a) = path_first d (plus (plus u (unit d b)) (unit d a)) p in
    let e2 : get_or (path_from d (plus (plus u (unit d a)) (unit d b)) p) 0 [] ≡ plus (plus u (unit d a)) (unit d b) = path_first d (plus (plus u (unit d a)) (unit d b)) p in
    rw e2 (omega (arith, ints, dot-plus t u (unit d b), dot-plus t u (unit d a), dot-plus t (plus u (unit d a)) (unit d b)))
swapped_sum d (suc i) u (a ∷ b ∷ p) h t = swapped_sum d i (plus u (unit d a)) (b ∷ p) (omega arith) t

pub get_dimension : (d : ℕ) (vs : List (List ℤ)) (i : ℕ) → AllOfDimension d vs → i < length vs → length (get_or vs i []) ≡ d
get_dimension d [] i all h = absurd (omega arith)
get_dimension d (v ∷ vs) zero all h = all.0
get_dimension d (v ∷ vs) (suc i) all h = get_dimension d vs i all.1 (omega arith)

pub translate-zeros : (d : ℕ) (vs : List (List ℤ)) → AllOfDimension d vs → translate (zeros d) vs ≡ vs
translate-zeros d [] all = refl
translate-zeros d (v ∷ vs) all = rw (plus-zeros d v all.0, translate-zeros d vs all.1) refl

-- ---- the neighbours at the ends

pub translate-path : (d : ℕ) (t u : List ℤ) (p : List ℕ) → translate t (path_from d u p) ≡ path_from d (plus u t) p
translate-path d t u [] = refl
translate-path d t u (k ∷ p) =
    let e : plus (plus u (unit d k)) t ≡ plus (plus u t) (unit d k) = plus_assoc u (unit d k) t ∙ ap (plus u) (plus_comm (unit d k) t) ∙ sym (plus_assoc u t (unit d k)) in
    ap (λ (l : List (List ℤ)). plus u t ∷ l) (translate-path d t (plus u (unit d k)) p ∙ ap (λ (x : List ℤ). path_from d x p) e)

-- the last point
abbrev pub end_of : ℕ → List ℤ → List ℕ → List ℤ
end_of d u [] = u
end_of d u (k ∷ p) = end_of d (plus u (unit d k)) p

pub last_is : (d : ℕ) (u : List ℤ) (p : List ℕ) → get_or (path_from d u p) (length p) [] ≡ end_of d u p
last_is d u [] = refl
last_is d u (k ∷ p) = last_is d (plus u (unit d k)) p

pub longer_path : (d : ℕ) (u : List ℤ) (p : List ℕ) (k : ℕ) → path_from d u (p ++ (k ∷ [])) ≡ path_from d u p ++ (plus (end_of d u p) (unit d k) ∷ [])
longer_path d u [] k = refl
longer_path d u (a ∷ p) k = ap (λ (l : List (List ℤ)). u ∷ l) (longer_path d (plus u (unit d a)) p k)

pub without_last : {X : Type 0} (xs : List X) (x : X) → without (length xs) (xs ++ (x ∷ [])) ≡ xs
without_last [] x = refl
without_last (y ∷ xs) x = ap (λ l. y ∷ l) (without_last xs x)

pub get_last : {X : Type 0} (xs : List X) (x y : X) → get_or (xs ++ (x ∷ [])) (length xs) y ≡ x
get_last [] x y = refl
get_last (z ∷ xs) x y = get_last xs x y

pub get_before : {X : Type 0} (xs : List X) (x y : X) (i : ℕ) → i < length xs → get_or (xs ++ (x ∷ [])) i y ≡ get_or xs i y
get_before [] x y i h = absurd (omega arith)
get_before (z ∷ xs) x y zero h = refl
get_before (z ∷ xs) x y (suc i) h = get_before xs x y i (omega arith)
