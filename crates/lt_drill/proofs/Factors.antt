-- The identity with a number in one place off the diagonal: its inverse, its numbers, and what it makes of a matrix.
use Rattle.std.proofs.Common.{◌≡◌, ◌≢◌, ℕ, zero, suc, ℤ, pos, ◌+ℤ◌, ◌-ℤ◌, ◌*ℤ◌, neg_ℤ, nat_abs, ◌+◌, ◌*◌, ◌-◌, ◌^◌, ◌<◌, ◌≤◌, refl, ap, arith, sym, ◌∙◌, subst, inl, inr, List, [], ◌∷◌, ◌++◌, length, map, take, drop, get_or, set}
use Rattle.std.proofs.lemmas.Int.{ints}
use Rattle.std.specs.List.{All, refill}
use Rattle.std.proofs.lemmas.List.{length-set, get_or-set_same, get_or-set_other, set-set, set-get_or, set-append_left, set-append_right, map-set, get_or-map, get_or_past, length-map, take_at, take_all, drop_at}
use Rattle.std.proofs.lemmas.List.Elements.{All-nil, All-cons, All-weaker, All-set, All-append, All-take, All-drop, All-from_get_or, All-get_or}
use Rattle.lt_model.specs.Vectors.{dot, unit, zeros, combine}
use Rattle.lt_model.specs.Facets.{number_at}
use Rattle.lt_model.specs.Flat.{flat}
use Rattle.lt_model.specs.Matrices.{apply, times, identity, IsSquare}
use Rattle.lt_model.specs.Simplices.{AllOfDimension}
use Rattle.lt_model.proofs.Flat.{identity_square, length-flat, times_square, get-identity, number_at-combine, number_at-unit_other}
use Rattle.lt_model.proofs.Opposite.{unit-dot, length-unit}
use Rattle.lt_model.proofs.Ring.{ring, ring_by, var, num, ◌⊕◌, ◌⊖◌, ◌⊗◌}
use Rattle.lt_geometry.proofs.Matrices.{IsUndone, apply-times, apply-identity, same_matrices}
use Rattle.lt_lattice.specs.Ranges.{IsWithin, IsBelow}
use Rattle.lt_lattice.proofs.Dots.{product_within}
use Rattle.std.proofs.lemmas.Bool.{cases_lt, cases_eq}
use Rattle.lt_model.proofs.Points.{length-apply}
use Rattle.lt_drill.specs.Scrambles.{factor}

-- ---- one number changed

pub dot-set : (r x : List ℤ) (j : ℕ) (z : ℤ) → j < length r → dot (set r j z) x ≡ dot r x +ℤ (z -ℤ number_at j r) *ℤ number_at j x
dot-set [] x j z h = absurd (omega arith)
dot-set (a ∷ r) [] zero z h = omega (arith, ints)
dot-set (a ∷ r) [] (suc j) z h = omega (arith, ints)
dot-set (a ∷ r) (b ∷ x) zero z h = ring (z ∷ b ∷ dot r x ∷ a ∷ []) (var 0 ⊗ var 1 ⊕ var 2) (var 3 ⊗ var 1 ⊕ var 2 ⊕ (var 0 ⊖ var 3) ⊗ var 1) tt
dot-set (a ∷ r) (b ∷ x) (suc j) z h = omega (arith, ints, dot-set r x j z (omega arith))

all_set : (d : ℕ) (u : List (List ℤ)) (i : ℕ) (r : List ℤ) → AllOfDimension d u → length r ≡ d → AllOfDimension d (set u i r)
all_set d [] i r all l = tt
all_set d (s ∷ u) zero r all l = (l, all.1)
all_set d (s ∷ u) (suc i) r all l = (all.0, all_set d u i r all.1 l)

-- the numbers of the rows with one changed
flat-set : (d i j : ℕ) (z : ℤ) (u : List (List ℤ)) → AllOfDimension d u → i < length u → j < d → flat (set u i (set (get_or u i []) j z)) ≡ set (flat u) (i * d + j) z
flat-set d i j z [] all hi hj = absurd (omega arith)
flat-set d zero j z (r ∷ u) all hi hj =
    let place : 0 * d + j ≡ j = omega arith in
    sym (set-append_left r (flat u) j z (omega (arith, all.0, hj))) ∙ ap (λ k. set (r ++ flat u) k z) (sym place)
flat-set d (suc i) j z (r ∷ u) all hi hj =
    let place : suc i * d + j - d ≡ i * d + j = omega arith in
    ap (λ t. r ++ t) (flat-set d i j z u all.1 (omega arith) hj ∙ ap (λ k. set (flat u) k z) (sym place)) ∙ sym (set-append_right r (flat u) d (suc i * d + j) z all.0 (omega arith))

-- ---- the factor

module _ (d i j : ℕ) (hi : i < d) (hj : j < d) where
  pub flat_factor : (z : ℤ) → flat (factor d i j z) ≡ set (flat (identity d)) (i * d + j) z
  flat_factor z =
      let s = identity_square d in
      ap (λ r. flat (set (identity d) i (set r j z))) (sym (get-identity d i hi)) ∙ flat-set d i j z (identity d) s.columns (omega (arith, s.rows, hi)) hj

  pub factor_square : (z : ℤ) → IsSquare d (factor d i j z)
  factor_square z =
      let s = identity_square d in
      record {
        rows = length-set (identity d) i (set (unit d i) j z) ∙ s.rows;
        columns = all_set d (identity d) i (set (unit d i) j z) s.columns (length-set (unit d i) j z ∙ length-unit d i);
      }

module _ (d i j : ℕ) (hi : i < d) (hj : j < d) (other : i ≢ j) where
  row_dot : (z : ℤ) (x : List ℤ) → length x ≡ d → dot (set (unit d i) j z) x ≡ number_at i x +ℤ z *ℤ number_at j x
  row_dot z x l =
      let e = dot-set (unit d i) x j z (omega (arith, hj, length-unit d i)) in
      let f = unit-dot d i x l in
      let none : number_at j (unit d i) ≡ pos 0 = number_at-unit_other d i j other in
      e ∙ ap (λ y. y +ℤ (z -ℤ number_at j (unit d i)) *ℤ number_at j x) f ∙ ap (λ y. number_at i x +ℤ (z -ℤ y) *ℤ number_at j x) none ∙ less z (number_at i x) (number_at j x)
    where
      less : (z a b : ℤ) → a +ℤ (z -ℤ pos 0) *ℤ b ≡ a +ℤ z *ℤ b
      less z a b = ring (z ∷ a ∷ b ∷ []) (var 1 ⊕ (var 0 ⊖ num (pos 0)) ⊗ var 2) (var 1 ⊕ var 0 ⊗ var 2) tt

  -- the image of a vector
  apply_factor : (z : ℤ) (x : List ℤ) → length x ≡ d → apply (factor d i j z) x ≡ set x i (number_at i x +ℤ z *ℤ number_at j x)
  apply_factor z x l =
      map-set (λ row. dot row x) (identity d) i (set (unit d i) j z) ∙ ap (λ y. set y i (dot (set (unit d i) j z) x)) (apply-identity d x l) ∙ ap (λ n. set x i n) (row_dot z x l)

  -- the factor with the opposite number takes it back
  taken_back : (z w : ℤ) (x : List ℤ) → z +ℤ w ≡ pos 0 → length x ≡ d → apply (factor d i j z) (apply (factor d i j w) x) ≡ x
  taken_back z w x e l =
      let a = number_at i x +ℤ w *ℤ number_at j x in
      let y = set x i a in
      let same : number_at i y ≡ a = get_or-set_same x i a (pos 0) (omega (arith, hi, l)) in
      let kept : number_at j y ≡ number_at j x = get_or-set_other x i j a (pos 0) (λ f. other (sym f)) in
      let back : number_at i y +ℤ z *ℤ number_at j y ≡ number_at i x = ap (λ m. m +ℤ z *ℤ number_at j y) same ∙ ap (λ m. a +ℤ z *ℤ m) kept ∙ cancel (number_at i x) (number_at j x) e in
      ap (apply (factor d i j z)) (apply_factor w x l) ∙ apply_factor z y (length-set x i a ∙ l) ∙ set-set x i a (number_at i y +ℤ z *ℤ number_at j y) ∙ ap (λ n. set x i n) back ∙ set-get_or x i (pos 0)
    where
      cancel : (a b : ℤ) → z +ℤ w ≡ pos 0 → a +ℤ w *ℤ b +ℤ z *ℤ b ≡ a
      cancel a b e = ring_by (z ∷ w ∷ a ∷ b ∷ []) (var 2 ⊕ var 1 ⊗ var 3 ⊕ var 0 ⊗ var 3) (var 2) (var 3) (var 0 ⊕ var 1) (num (pos 0)) tt e

  pub undone_factor : (z : ℤ) → IsUndone d (factor d i j z) (factor d i j (neg_ℤ z))
  undone_factor z = record {
    square = factor_square d i j hi hj z;
    other = factor_square d i j hi hj (neg_ℤ z);
    right = λ x l. taken_back z (neg_ℤ z) x (omega (arith, ints)) l;
    left = λ x l. taken_back (neg_ℤ z) z x (omega (arith, ints)) l;
  }

-- ---- numbers within a bound

-- the numbers of the rows, each within the bound
flat_all : (P : ℤ → Type 0) (u : List (List ℤ)) → ((i : ℕ) → i < length u → All P (get_or u i [])) → All P (flat u)
flat_all P [] h = All-nil {X = ℤ} P
flat_all P (r ∷ u) h = All-append {X = ℤ} P r (flat u) (h 0 (omega arith)) (flat_all P u (λ i l. h (suc i) (omega (arith, l))))

row_all : (P : ℤ → Type 0) (u : List (List ℤ)) (i : ℕ) → All P (flat u) → i < length u → All P (get_or u i [])
row_all P [] i h l = absurd (omega (arith, l))
row_all P (r ∷ u) zero h l = subst (All P) (take_at r (flat u) (length r) refl) (All-take {X = ℤ} P (length r) (r ++ flat u) h)
row_all P (r ∷ u) (suc i) h l = row_all P u i (subst (All P) (drop_at r (flat u) (length r) refl) (All-drop {X = ℤ} P (length r) (r ++ flat u) h)) (omega (arith, l))

-- the identity's numbers are 0 and 1
unit_small : (d i : ℕ) → All (IsWithin 1) (unit d i)
unit_small zero i = All-nil {X = ℤ} (IsWithin 1)
unit_small (suc d) zero = All-cons {X = ℤ} (IsWithin 1) (pos 1) (zeros d) (omega arith) (zeros_small d)
  where
    zeros_small : (n : ℕ) → All (IsWithin 1) (zeros n)
    zeros_small zero = All-nil {X = ℤ} (IsWithin 1)
    zeros_small (suc n) = All-cons {X = ℤ} (IsWithin 1) (pos 0) (zeros n) (omega arith) (zeros_small n)
unit_small (suc d) (suc i) = All-cons {X = ℤ} (IsWithin 1) (pos 0) (unit d i) (omega arith) (unit_small d i)

pub identity_small : (d : ℕ) → All (IsWithin 1) (flat (identity d))
identity_small d = flat_all (IsWithin 1) (identity d) (λ i l. let s = identity_square d in subst (All (IsWithin 1)) (sym (get-identity d i (omega (arith, l, s.rows)))) (unit_small d i))

-- the product with a matrix: row i gains a multiple of row j
times_identity : (d : ℕ) (u : List (List ℤ)) → IsSquare d u → times (identity d) u ≡ u
times_identity d u s =
    let t : IsSquare d (times (identity d) u) = times_square d (identity d) u (identity_square d) s in
    same_matrices d (times (identity d) u) u t.columns s.columns (t.rows ∙ sym s.rows) (λ x l. apply-times (identity d) u x ∙ apply-identity d (apply u x) (length-apply u x ∙ s.rows))

times_factor : (d i j : ℕ) (z : ℤ) (u : List (List ℤ)) → IsSquare d u → times (factor d i j z) u ≡ set u i (combine (set (unit d i) j z) u)
times_factor d i j z u s = map-set (λ row. combine row u) (identity d) i (set (unit d i) j z) ∙ ap (λ t. set t i (combine (set (unit d i) j z) u)) (times_identity d u s)

row_at : (k i : ℕ) (u : List (List ℤ)) → i < length u → number_at i (map (number_at k) u) ≡ number_at k (get_or u i [])
row_at k i u l = get_or-map (number_at k) u i [] (pos 0) l

within_sum : (m : ℕ) (a b z : ℤ) → nat_abs a ≤ m → nat_abs b ≤ m → nat_abs z ≤ 1 → nat_abs (a +ℤ z *ℤ b) ≤ 2 * m
within_sum m a b z ha hb hz =
    let p : nat_abs (z *ℤ b) ≤ 1 * m = product_within z b 1 m hz hb in
    omega (arith, ints, ha, p)

set_all : (P : ℤ → Type 0) (u : List (List ℤ)) (i : ℕ) (r : List ℤ) → All P (flat u) → All P r → All P (flat (set u i r))
set_all P u i r h k = flat_all P (set u i r) (λ n l. at n (omega (arith, l, length-set u i r)))
  where
    at : (n : ℕ) → n < length u → All P (get_or (set u i r) n [])
    at n l = elim (cases_eq n i) [
      | inl e ↦ subst (All P) (sym (ap (λ k. get_or (set u i r) k []) e ∙ get_or-set_same u i r [] (subst (λ k. k < length u) e l))) k
      | inr o ↦ subst (All P) (sym (get_or-set_other u i n r [] o)) (row_all P u n h l)
    ]

-- the numbers are at most twice as large
pub times_small : (d i j : ℕ) (z : ℤ) (m : ℕ) (u : List (List ℤ)) → i < d → j < d → i ≢ j → nat_abs z ≤ 1 → IsSquare d u → All (IsWithin m) (flat u) → All (IsWithin (2 * m)) (flat (times (factor d i j z) u))
times_small d i j z m u hi hj other hz s h =
    let r = set (unit d i) j z in
    let wide : All (IsWithin (2 * m)) (flat u) = All-weaker {X = ℤ} (IsWithin m) (IsWithin (2 * m)) (λ x p. omega (arith, p)) (flat u) h in
    let row : All (IsWithin (2 * m)) (combine r u) = All-from_get_or {X = ℤ} (IsWithin (2 * m)) (combine r u) (pos 0) (λ k l. at k) in
    subst (λ t. All (IsWithin (2 * m)) (flat t)) (sym (times_factor d i j z u s)) (set_all (IsWithin (2 * m)) u i (combine r u) wide row)
  where
    number : (k n : ℕ) → n < d → nat_abs (number_at n (map (number_at k) u)) ≤ m
    number k n l = elim (cases_lt k (length (get_or u n []))) [
      | inl in_row ↦ subst (λ x. nat_abs x ≤ m) (sym (row_at k n u (omega (arith, l, s.rows)))) (All-get_or {X = ℤ} (IsWithin m) (get_or u n []) k (pos 0) in_row (row_all (IsWithin m) u n h (omega (arith, l, s.rows))))
      | inr past ↦ subst (λ x. nat_abs x ≤ m) (sym (row_at k n u (omega (arith, l, s.rows)) ∙ get_or_past (get_or u n []) k (pos 0) past)) (omega arith)
    ]

    at : (k : ℕ) → nat_abs (number_at k (combine (set (unit d i) j z) u)) ≤ 2 * m
    at k =
        let e = number_at-combine k (set (unit d i) j z) u ∙ row_dot d i j hi hj other z (map (number_at k) u) (length-map u (number_at k) ∙ s.rows) in
        subst (λ x. nat_abs x ≤ 2 * m) (sym e) (within_sum m (number_at i (map (number_at k) u)) (number_at j (map (number_at k) u)) z (number k i hi) (number k j hj) hz)

-- ---- as the program writes it

-- all numbers of the identity were taken
pub all_taken : (d n : ℕ) (entries items : List ℤ) → entries ≡ flat (identity d) → items ≡ take n (flat (identity d)) → length entries ≤ n → items ≡ flat (identity d)
all_taken d n entries items e is le = is ∙ take_all n (flat (identity d)) (omega (arith, le, ap length e))

pub length-identity : (d : ℕ) → length (flat (identity d)) ≡ d * d
length-identity d = let s = identity_square d in length-flat d (identity d) s.columns ∙ ap (λ n. n * d) s.rows

-- one of them is written over
pub written : (d i j : ℕ) (z : ℤ) (items ws : List ℤ) → i < d → j < d → items ≡ flat (identity d) → ws ≡ refill (length items) items (set items (i * d + j) z) → ws ≡ flat (factor d i j z)
written d i j z items ws hi hj e is =
    is ∙ take_at (set items (i * d + j) z) (drop (length (set items (i * d + j) z)) items) (length items) (length-set items (i * d + j) z) ∙ ap (λ l. set l (i * d + j) z) e ∙ sym (flat_factor d i j hi hj z)

pub length-factor : (d i j : ℕ) (z : ℤ) → i < d → j < d → length (flat (factor d i j z)) ≡ d * d
length-factor d i j z hi hj = ap length (flat_factor d i j hi hj z) ∙ length-set (flat (identity d)) (i * d + j) z ∙ length-identity d

pub factor_small : (d i j : ℕ) (z : ℤ) → i < d → j < d → nat_abs z ≤ 1 → All (IsBelow (2 ^ 62)) (flat (factor d i j z))
factor_small d i j z hi hj small =
    subst (All (IsBelow (2 ^ 62))) (sym (flat_factor d i j hi hj z))
    (All-set {X = ℤ} (IsBelow (2 ^ 62)) (flat (identity d)) (i * d + j) z (omega (arith, small)) (All-weaker {X = ℤ} (IsWithin 1) (IsBelow (2 ^ 62)) (λ x p. omega (arith, p)) (flat (identity d)) (identity_small d)))
