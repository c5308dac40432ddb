-- The vertices of all members but 0: they ascend, and there is at most one of each parity that is not that of 0.
use Rattle.std.proofs.Common.{◌≡◌, ℕ, zero, suc, ℤ, pos, negsuc, ◌*ℤ◌, ◌<◌, ◌*◌, ◌^◌, refl, ap, ap₂, arith, sym, ◌∙◌, subst, List, [], ◌∷◌, ◌++◌, length, length-append, map, ◌⊎◌, inl, inr, ◌<ℤ◌}
use Rattle.std.proofs.lemmas.Int.{ints}
use Rattle.std.specs.List.{Contains, AllByRecursion}
use Rattle.std.specs.List.Sorted.{IsStrictlySortedBy}
use Rattle.std.specs.declared.cmp.Ordering.{Ordering}
use Rattle.std.specs.declared.cmp.Ordering.TheVariants.{Less, Equal, Greater}
use Rattle.std.specs.Cmp.{IsTotalOrder, int_cmp_is, int_ranks}
use Rattle.std.specs.Cmp.Lexicographic.{slice_cmp}
use Rattle.std.specs.Ordering.{ordering_reverse, ordering_then, int_cmp, MatchOrdering}
use Rattle.std.proofs.lemmas.List as lists
use Rattle.std.proofs.lemmas.List.Elements.{Contains-append_left, Contains-append_right, Contains-append_cases}
use Rattle.std.proofs.Math.Nat.{pow-succ'}
use Rattle.lt_model.proofs.Sets.{Contains-head, Contains-tail, Contains-cases, Contains-none, each_holds, number_list_cmp_total, Contains-map}
use Rattle.lt_model.specs.Order.{number_list_cmp}
use Rattle.lt_model.specs.Vectors.{scale, zeros}
use Rattle.lt_model.specs.Simplices.{IsClass}
use Rattle.lt_geometry.proofs.Parity.{parity, odd}

-- members that compare as equal are equal
abbrev pub IsExact : {K : Type 0} → (K → K → Ordering) → Type 0
IsExact {K} R = (x y : K) → R x y ≡ Equal → x ≡ y

exact_numbers : (x y : ℤ) → int_cmp x y ≡ Equal → x ≡ y
exact_numbers x y h = by (int_cmp x y) h (int_ranks x y)
  where
    by : (r : Ordering) → r ≡ Equal → MatchOrdering r (x <ℤ y) (x ≡ y) (y <ℤ x) → x ≡ y
    by Less h m = absurd (cc)
    by Equal h m = m
    by Greater h m = absurd (cc)

-- ---- sorting, equal members once

abbrev put_by : {X : Type 0} → Ordering → X → X → List X → List X → List X
put_by Less x y ys zs = x ∷ y ∷ ys
put_by Equal x y ys zs = y ∷ ys
put_by Greater x y ys zs = y ∷ zs

abbrev pub put_in : {X : Type 0} → (X → X → Ordering) → X → List X → List X
put_in R x [] = x ∷ []
put_in R x (y ∷ ys) = put_by (R x y) x y ys (put_in R x ys)

abbrev pub sorted : {X : Type 0} → (X → X → Ordering) → List X → List X
sorted R [] = []
sorted R (x ∷ xs) = put_in R x (sorted R xs)

module _ {X : Type 0} (R : X → X → Ordering) (o : IsTotalOrder R) (exact : IsExact R) where
  put_by_has : (r : Ordering) (x y : X) (ys zs : List X) (z : X) → (r ≡ Equal → x ≡ y) → (Contains zs x) → ((w : X) → Contains ys w → Contains zs w) → (x ≡ z) ⊎ Contains (y ∷ ys) z → Contains (put_by r x y ys zs) z
  put_by_has Less x y ys zs z e hx hw (inl s) = subst (λ (w : X). Contains (x ∷ y ∷ ys) w) s (Contains-head x (y ∷ ys))
  put_by_has Less x y ys zs z e hx hw (inr c) = Contains-tail x (y ∷ ys) z c
  put_by_has Equal x y ys zs z e hx hw (inl s) = subst (λ (w : X). Contains (y ∷ ys) w) (sym (e refl) ∙ s) (Contains-head y ys)
  put_by_has Equal x y ys zs z e hx hw (inr c) = c
  put_by_has Greater x y ys zs z e hx hw (inl s) = Contains-tail y zs z (subst (λ (w : X). Contains zs w) s hx)
  put_by_has Greater x y ys zs z e hx hw (inr c) =
      elim (Contains-cases y ys z c) [ inl s ↦ subst (λ (w : X). Contains (y ∷ zs) w) s (Contains-head y zs) | inr r ↦ Contains-tail y zs z (hw z r) ]

  put_has : (x : X) (ys : List X) (z : X) → (x ≡ z) ⊎ Contains ys z → Contains (put_in R x ys) z
  put_has x [] z (inl s) = subst (λ (w : X). Contains (x ∷ []) w) s (Contains-head x [])
  put_has x [] z (inr c) = Contains-none z c
  put_has x (y ∷ ys) z c = put_by_has (R x y) x y ys (put_in R x ys) z (exact x y) (put_has x ys x (inl refl)) (λ w d. put_has x ys w (inr d)) c

  put_by_from : (r : Ordering) (x y : X) (ys zs : List X) (z : X) → (Contains zs z → (x ≡ z) ⊎ Contains ys z) → Contains (put_by r x y ys zs) z → (x ≡ z) ⊎ Contains (y ∷ ys) z
  put_by_from Less x y ys zs z h c = Contains-cases x (y ∷ ys) z c
  put_by_from Equal x y ys zs z h c = inr c
  put_by_from Greater x y ys zs z h c =
      elim (Contains-cases y zs z c) [
        | inl s ↦ inr (subst (λ (w : X). Contains (y ∷ ys) w) s (Contains-head y ys))
        | inr r ↦ elim (h r) [ inl s ↦ inl s | inr d ↦ inr (Contains-tail y ys z d) ]
      ]

  put_from : (x : X) (ys : List X) (z : X) → Contains (put_in R x ys) z → (x ≡ z) ⊎ Contains ys z
  put_from x [] z c = elim (Contains-cases x [] z c) [ inl s ↦ inl s | inr r ↦ Contains-none z r ]
  put_from x (y ∷ ys) z c = put_by_from (R x y) x y ys (put_in R x ys) z (put_from x ys z) c

  -- all members are above y where each one is
  all_above : (y : X) (zs : List X) → ((z : X) → Contains zs z → R y z ≡ Less) → AllByRecursion (λ z. R y z ≡ Less) zs
  all_above y [] h = tt
  all_above y (z ∷ zs) h = (h z (Contains-head z zs), all_above y zs (λ w c. h w (Contains-tail z zs w c)))

  reversed : (x y : X) (r : Ordering) → R x y ≡ r → R y x ≡ ordering_reverse r
  reversed x y r e = o.antisymm y x ∙ ap ordering_reverse e

  put_by_sorted : (r : Ordering) (x y : X) (ys zs : List X) → R x y ≡ r → AllByRecursion (λ z. R y z ≡ Less) ys → IsStrictlySortedBy R ys → IsStrictlySortedBy R zs → ((z : X) → Contains zs z → (x ≡ z) ⊎ Contains ys z) → IsStrictlySortedBy R (put_by r x y ys zs)
  unfolding IsStrictlySortedBy
  put_by_sorted Less x y ys zs e a sy sz h = ((e, all_above x ys (λ z c. o.trans x y z e (each_holds (λ w. R y w ≡ Less) ys z a c))), (a, sy))
  put_by_sorted Equal x y ys zs e a sy sz h = (a, sy)
  put_by_sorted Greater x y ys zs e a sy sz h =
      (all_above y zs (λ z c. elim (h z c) [ inl s ↦ subst (λ (w : X). R y w ≡ Less) s (reversed x y Greater e) | inr r ↦ each_holds (λ w. R y w ≡ Less) ys z a r ]), sz)

  put_sorted : (x : X) (ys : List X) → IsStrictlySortedBy R ys → IsStrictlySortedBy R (put_in R x ys)
  unfolding IsStrictlySortedBy
  put_sorted x [] s = (tt, tt)
  put_sorted x (y ∷ ys) s = put_by_sorted (R x y) x y ys (put_in R x ys) refl s.0 s.1 (put_sorted x ys s.1) (put_from x ys)

  pub sorted_ascends : (xs : List X) → IsStrictlySortedBy R (sorted R xs)
  unfolding IsStrictlySortedBy
  sorted_ascends [] = tt
  sorted_ascends (x ∷ xs) = put_sorted x (sorted R xs) (sorted_ascends xs)

  pub sorted_has : (xs : List X) (z : X) → Contains xs z → Contains (sorted R xs) z
  sorted_has [] z c = Contains-none z c
  sorted_has (x ∷ xs) z c = put_has x (sorted R xs) z (elim (Contains-cases x xs z c) [ inl s ↦ inl s | inr r ↦ inr (sorted_has xs z r) ])

  pub sorted_from : (xs : List X) (z : X) → Contains (sorted R xs) z → Contains xs z
  sorted_from [] z c = Contains-none z c
  sorted_from (x ∷ xs) z c =
      elim (put_from x (sorted R xs) z c) [
        | inl s ↦ subst (λ (w : X). Contains (x ∷ xs) w) s (Contains-head x xs)
        | inr r ↦ Contains-tail x xs z (sorted_from xs z r)
      ]

then_equal : (r s : Ordering) → ordering_then r s ≡ Equal → (r ≡ Equal) × (s ≡ Equal)
then_equal Less s h = absurd (cc)
then_equal Equal s h = (refl, h)
then_equal Greater s h = absurd (cc)

pub exact_lists : {X : Type 0} (R : X → X → Ordering) → IsExact R → (xs ys : List X) → slice_cmp R xs ys ≡ Equal → xs ≡ ys
exact_lists R e [] [] h = refl
exact_lists R e [] (y ∷ ys) h = absurd (cc)
exact_lists R e (x ∷ xs) [] h = absurd (cc)
exact_lists {X} R e (x ∷ xs) (y ∷ ys) h =
    let t = then_equal (R x y) (slice_cmp R xs ys) h in
    ap₂ (λ (z : X) (l : List X). z ∷ l) (e x y t.0) (exact_lists R e xs ys t.1)

pub exact_points : IsExact number_list_cmp
exact_points = exact_lists int_cmp exact_numbers

-- ---- the edges from 0

abbrev pub rest_of : List (List ℤ) → List (List ℤ)
rest_of [] = []
rest_of (v ∷ vs) = vs

abbrev pub all_rests : List (List (List ℤ)) → List (List ℤ)
all_rests [] = []
all_rests (s ∷ t) = rest_of s ++ all_rests t

abbrev pub edges_of : List (List (List ℤ)) → List (List ℤ)
edges_of t = sorted number_list_cmp (all_rests t)

pub rests_has : (t : List (List (List ℤ))) (s : List (List ℤ)) (x : List ℤ) → Contains t s → Contains (rest_of s) x → Contains (all_rests t) x
rests_has [] s x m c = Contains-none s m
rests_has (r ∷ t) s x m c =
    elim (Contains-cases r t s m) [
      | inl e ↦ Contains-append_left (rest_of r) (all_rests t) x (subst (λ (w : List (List ℤ)). Contains (rest_of w) x) (sym e) c)
      | inr k ↦ Contains-append_right (rest_of r) (all_rests t) x (rests_has t s x k c)
    ]

rests_from : (t : List (List (List ℤ))) (x : List ℤ) → Contains (all_rests t) x → (s : List (List ℤ)) × Contains t s × Contains (rest_of s) x
rests_from [] x c = Contains-none x c
rests_from (r ∷ t) x c =
    elim (Contains-append_cases (rest_of r) (all_rests t) x c) [
      | inl h ↦ (r, Contains-head r t, h)
      | inr k ↦ (let f = rests_from t x k in (f.0, Contains-tail r t f.0 f.1, f.2))
    ]

pub edge_from : (t : List (List (List ℤ))) (x : List ℤ) → Contains (edges_of t) x → (s : List (List ℤ)) × Contains t s × Contains (rest_of s) x
edge_from t x c = rests_from t x (sorted_from number_list_cmp number_list_cmp_total exact_points (all_rests t) x c)

-- a class is 0 and points above it
pub record IsLed (d : ℕ) (s : List (List ℤ)) : Type 0 where
  pub whole : s ≡ zeros d ∷ rest_of s
  pub count : length (rest_of s) ≡ d
  pub above : (x : List ℤ) → Contains (rest_of s) x → number_list_cmp (zeros d) x ≡ Less
  pub ascending : IsStrictlySortedBy number_list_cmp (rest_of s)

pub led : (d : ℕ) (s : List (List ℤ)) → IsClass d s → IsLed d s
unfolding IsStrictlySortedBy
led d [] c = absurd (omega (arith, c.simplex.count))
led d (v ∷ vs) c = record {
  whole = ap (λ (w : List ℤ). w ∷ vs) c.first;
  count = omega (arith, c.simplex.count);
  above = λ x m. subst (λ (w : List ℤ). number_list_cmp w x ≡ Less) c.first (each_holds (λ z. number_list_cmp v z ≡ Less) vs x c.ascending.0 m);
  ascending = c.ascending.1;
}

pub in_whole : (s : List (List ℤ)) (x : List ℤ) → Contains (rest_of s) x → Contains s x
in_whole [] x c = c
in_whole (v ∷ vs) x c = Contains-tail v vs x c

-- ---- a point and its negative are not both above 0

pub not_both : (d : ℕ) (x : List ℤ) → number_list_cmp (zeros d) x ≡ Less → number_list_cmp (zeros d) (scale (negsuc 0) x) ≡ Less → length x ≡ d → ⊥
not_both zero [] h k l = absurd (cc)
not_both zero (a ∷ x) h k l = absurd (omega arith)
not_both (suc d) [] h k l = absurd (omega arith)
not_both (suc d) (pos zero ∷ x) h k l =
    let e : Equal ≡ int_cmp (pos 0) (pos 0) = int_cmp_is (pos 0) (pos 0) Equal refl in
    not_both d x (ap (λ (r : Ordering). ordering_then r (number_list_cmp (zeros d) x)) e ∙ h) (ap (λ (r : Ordering). ordering_then r (number_list_cmp (zeros d) (scale (negsuc 0) x))) e ∙ k) (omega arith)
not_both (suc d) (pos (suc n) ∷ x) h k l =
    let e : Greater ≡ int_cmp (pos 0) (negsuc 0 *ℤ pos (suc n)) = int_cmp_is (pos 0) (negsuc 0 *ℤ pos (suc n)) Greater (omega (arith, ints)) in
    let f : Greater ≡ Less = ap (λ (r : Ordering). ordering_then r (number_list_cmp (zeros d) (scale (negsuc 0) x))) e ∙ k in
    absurd (cc)
not_both (suc d) (negsuc n ∷ x) h k l =
    let e : Greater ≡ int_cmp (pos 0) (negsuc n) = int_cmp_is (pos 0) (negsuc n) Greater (omega (arith, ints)) in
    let f : Greater ≡ Less = ap (λ (r : Ordering). ordering_then r (number_list_cmp (zeros d) x)) e ∙ h in
    absurd (cc)

-- ---- the lists of d bits

abbrev pub bit_lists : ℕ → List (List ℕ)
bit_lists zero = [] ∷ []
bit_lists (suc d) = map (λ l. 0 ∷ l) (bit_lists d) ++ map (λ l. 1 ∷ l) (bit_lists d)

pub length-bits : (d : ℕ) → length (bit_lists d) ≡ 2 ^ d
length-bits zero = refl
length-bits (suc d) =
    let e = length-append (map (λ (l : List ℕ). 0 ∷ l) (bit_lists d)) (map (λ (l : List ℕ). 1 ∷ l) (bit_lists d)) in
    let e1 = lists.length-map (bit_lists d) (λ (l : List ℕ). 0 ∷ l) in
    let e2 = lists.length-map (bit_lists d) (λ (l : List ℕ). 1 ∷ l) in
    let e3 : 2 ^ suc d ≡ 2 * 2 ^ d = pow-succ' 2 d in
    let e4 = length-bits d in
    rw e3 (omega (arith, e, e1, e2, e4))

pub bits_has : (d : ℕ) (x : List ℤ) → length x ≡ d → Contains (bit_lists d) (parity x)
bits_has zero [] l = Contains-head [] []
bits_has zero (a ∷ x) l = absurd (omega arith)
bits_has (suc d) [] l = absurd (omega arith)
bits_has (suc d) (a ∷ x) l =
    let r = bits_has d x (omega arith) in
    by (odd a) (parity x) (omega arith) r
  where
    by : (b : ℕ) (p : List ℕ) → b < 2 → Contains (bit_lists d) p → Contains (bit_lists (suc d)) (b ∷ p)
    by zero p h c = Contains-append_left (map (λ (l : List ℕ). 0 ∷ l) (bit_lists d)) (map (λ (l : List ℕ). 1 ∷ l) (bit_lists d)) (0 ∷ p) (Contains-map (λ (l : List ℕ). 0 ∷ l) (bit_lists d) p c)
    by (suc zero) p h c = Contains-append_right (map (λ (l : List ℕ). 0 ∷ l) (bit_lists d)) (map (λ (l : List ℕ). 1 ∷ l) (bit_lists d)) (1 ∷ p) (Contains-map (λ (l : List ℕ). 1 ∷ l) (bit_lists d) p c)
    by (suc (suc b)) p h c = absurd (omega arith)
