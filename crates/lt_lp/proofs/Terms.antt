-- The terms of a combination: their places ascend, their numbers are positive, and they sum up as the columns do.
use Rattle.std.proofs.Common.{◌≡◌, ◌≢◌, refl, ◌∙◌, ap, arith, ℕ, zero, suc, ◌+◌, ◌<◌, ◌≤◌, ℤ, pos, negsuc, ◌+ℤ◌, ◌*ℤ◌, ◌≤ℤ◌, ◌<ℤ◌, List, [], ◌∷◌, length, map, get_or, cond, nat_lt, Bool, true, false, nat_abs}
use Rattle.std.specs.Prelude.{remove}
use Rattle.std.specs.List.{All, AllByRecursion}
use Rattle.std.specs.List.Sorted.{IsStrictlySortedBy}
use Rattle.std.specs.Ordering.{nat_cmp}
use Rattle.std.specs.declared.cmp.Ordering.TheVariants.{Less}
use Rattle.std.proofs.lemmas.Int.{ints}
use Rattle.std.proofs.lemmas.Bool.Decides.{nat_tests}
use Rattle.std.proofs.lemmas.List.Edits.{get_or-remove_above, get_or-remove_below}
use Rattle.std.proofs.lemmas.List.Elements.{All-cons}
use Rattle.lt_model.specs.Padded.{lookup}
use Rattle.lt_model.specs.Vectors.{scale, combine, total}
use Rattle.lt_model.specs.Cones.{coefficients, places, AreBelow}
use Rattle.lt_tableau.specs.Numbers.{sum_below, column_at}
use Rattle.lt_tableau.proofs.Sums.{lookup_none, lookup_plus, lookup_scale, sum_same}
use Rattle.lt_lp.specs.Terms.{place_of, with_term, terms_from}

-- a term more or none
with_cases : (P : List (ℕ × ℤ) → Type 0) (place : ℕ) (x : ℤ) (ts : List (ℕ × ℤ)) → (x ≡ pos 0 → P ts) → (x ≢ pos 0 → P ((place, x) ∷ ts)) → P (with_term place x ts)
with_cases P place (pos zero) ts a b = a refl
with_cases P place (pos (suc n)) ts a b = b (λ e. absurd (no n e))
  where
    no : (n : ℕ) → pos (suc n) ≡ pos 0 → ⊥
    no n e = omega (arith, ints)
with_cases P place (negsuc n) ts a b = b (λ e. absurd (no n e))
  where
    no : (n : ℕ) → negsuc n ≡ pos 0 → ⊥
    no n e = omega (arith, ints)

-- ---- the places
pub place_less : (k c : ℕ) → place_of k c < place_of k (suc c)
place_less k c = pick (nat_lt c k) refl (nat_lt (suc c) k) refl
  where
    pick : (a : Bool) → nat_lt c k ≡ a → (b : Bool) → nat_lt (suc c) k ≡ b → cond a c (suc c) < cond b (suc c) (suc (suc c))
    pick true e true f = omega arith
    pick true e false f = omega arith
    pick false e true f = let l : k ≤ c = grind (arith, nat_tests) in let m : suc c < k = grind (arith, nat_tests) in absurd (omega arith)
    pick false e false f = omega arith

less_is : (a b : ℕ) → a < b → nat_cmp a b ≡ Less
less_is a b h = grind (arith, nat_tests)

-- each place from the column c on is greater than that of an earlier one
above : (k : ℕ) (f : ℕ → ℤ) (c e m : ℕ) → place_of k c < place_of k e → AllByRecursion (λ y. nat_cmp (place_of k c) y ≡ Less) (places (terms_from k f e m))
above k f c e zero h = tt
above k f c e (suc m) h =
    let l = place_less k e in
    let r = above k f c (suc e) m (less_less (place_of k c) (place_of k e) (place_of k (suc e)) h l) in
    with_cases (λ ts. AllByRecursion (λ y. nat_cmp (place_of k c) y ≡ Less) (places ts)) (place_of k e) (f e) (terms_from k f (suc e) m) (λ _. r) (λ _. (less_is (place_of k c) (place_of k e) h, r))
  where
    less_less : (x y z : ℕ) → x < y → y < z → x < z
    less_less x y z h l = omega arith

pub terms_ascend : (k : ℕ) (f : ℕ → ℤ) (c m : ℕ) → IsStrictlySortedBy nat_cmp (places (terms_from k f c m))
unfolding IsStrictlySortedBy
terms_ascend k f c zero = tt
terms_ascend k f c (suc m) =
    let r = terms_ascend k f (suc c) m in
    with_cases (λ ts. IsStrictlySortedBy nat_cmp (places ts)) (place_of k c) (f c) (terms_from k f (suc c) m) (λ _. r) (λ _. (above k f c (suc c) m (place_less k c), r))

place_within : (k c n : ℕ) → suc c < n → place_of k c < n
place_within k c n h = pick (nat_lt c k)
  where
    pick : (b : Bool) → cond b c (suc c) < n
    pick true = omega arith
    pick false = h

place_other : (k c : ℕ) → place_of k c ≢ k
place_other k c = pick (nat_lt c k) refl
  where
    pick : (b : Bool) → nat_lt c k ≡ b → cond b c (suc c) ≢ k
    pick true e z = let l : c < k = grind (arith, nat_tests) in absurd (omega arith)
    pick false e z = let l : k ≤ c = grind (arith, nat_tests) in absurd (omega arith)

pub nothing : {X : Type 0} (P : X → Type 0) → All P []
nothing P k d l = absurd (omega arith)

pub terms_within : (k n : ℕ) (f : ℕ → ℤ) (c m : ℕ) → suc (c + m) ≤ n → All (λ i. i < n) (places (terms_from k f c m))
terms_within k n f c zero h = nothing (λ i. i < n)
terms_within k n f c (suc m) h =
    let r = terms_within k n f (suc c) m (omega arith) in
    with_cases (λ ts. All (λ i. i < n) (places ts)) (place_of k c) (f c) (terms_from k f (suc c) m) (λ _. r) (λ _. All-cons (λ i. i < n) (place_of k c) (places (terms_from k f (suc c) m)) (place_within k c n (omega arith)) r)

pub terms_other : (k : ℕ) (f : ℕ → ℤ) (c m : ℕ) → All (λ i. i ≢ k) (places (terms_from k f c m))
terms_other k f c zero = nothing (λ i. i ≢ k)
terms_other k f c (suc m) =
    let r = terms_other k f (suc c) m in
    with_cases (λ ts. All (λ i. i ≢ k) (places ts)) (place_of k c) (f c) (terms_from k f (suc c) m) (λ _. r) (λ _. All-cons (λ i. i ≢ k) (place_of k c) (places (terms_from k f (suc c) m)) (place_other k c) r)

-- ---- the numbers
positive_of : (x : ℤ) → pos 0 ≤ℤ x → x ≢ pos 0 → pos 0 <ℤ x
positive_of x h n = omega (arith, ints, n)

pub terms_positive : (k : ℕ) (f : ℕ → ℤ) (c m : ℕ) → ((i : ℕ) → pos 0 ≤ℤ f i) → All (λ x. pos 0 <ℤ x) (coefficients (terms_from k f c m))
terms_positive k f c zero h = nothing (λ x. pos 0 <ℤ x)
terms_positive k f c (suc m) h =
    let r = terms_positive k f (suc c) m h in
    with_cases (λ ts. All (λ x. pos 0 <ℤ x) (coefficients ts)) (place_of k c) (f c) (terms_from k f (suc c) m) (λ _. r) (λ z. All-cons (λ x. pos 0 <ℤ x) (f c) (coefficients (terms_from k f (suc c) m)) (positive_of (f c) (h c) z) r)

pub terms_below : (k n : ℕ) (f : ℕ → ℤ) (c m : ℕ) → ((i : ℕ) → nat_abs (f i) < n) → AreBelow n (coefficients (terms_from k f c m))
terms_below k n f c zero h = nothing (λ x. nat_abs x < n)
terms_below k n f c (suc m) h =
    let r = terms_below k n f (suc c) m h in
    with_cases (λ ts. AreBelow n (coefficients ts)) (place_of k c) (f c) (terms_from k f (suc c) m) (λ _. r) (λ z. All-cons (λ x. nat_abs x < n) (f c) (coefficients (terms_from k f (suc c) m)) (h c) r)

-- ---- how many there are, where `occ` counts at least 1 for each number that isn't 0
pub terms_few : (k : ℕ) (f occ : ℕ → ℤ) (c m : ℕ) → ((i : ℕ) → pos 0 ≤ℤ occ i) → ((i : ℕ) → f i ≢ pos 0 → pos 1 ≤ℤ occ i) → pos (length (terms_from k f c m)) ≤ℤ sum_below m (λ (i : ℕ). occ (c + i))
terms_few k f occ c zero h g = omega (arith, ints)
terms_few k f occ c (suc m) h g =
    let r = terms_few k f occ (suc c) m h g in
    let e : sum_below m (λ (i : ℕ). occ (suc c + i)) ≡ sum_below m (λ (i : ℕ). occ (c + suc i)) = sum_same m (λ (i : ℕ). occ (suc c + i)) (λ (i : ℕ). occ (c + suc i)) (λ q l. ap occ (omega arith)) in
    let z : occ (c + 0) ≡ occ c = ap occ (omega arith) in
    let o = h c in
    with_cases (λ ts. pos (length ts) ≤ℤ (occ (c + 0) +ℤ sum_below m (λ (i : ℕ). occ (c + suc i)))) (place_of k c) (f c) (terms_from k f (suc c) m)
    (λ _. omega (arith, ints, r, e, z, o))
    (λ n. (let p = g c n in omega (arith, ints, r, e, z, p)))

-- ---- the sum
column_of_term : (normals : List (List ℤ)) (k c : ℕ) → k < length normals → suc c < length normals → column_at (remove normals k) c ≡ get_or normals (place_of k c) []
column_of_term normals k c h l = pick (nat_lt c k) refl
  where
    pick : (b : Bool) → nat_lt c k ≡ b → column_at (remove normals k) c ≡ get_or normals (cond b c (suc c)) []
    pick true e = let m : c < k = grind (arith, nat_tests) in get_or-remove_below normals k [] c m h
    pick false e =
        let m : k ≤ c = grind (arith, nat_tests) in
        let i : c + 1 ≡ suc c = omega arith in
        get_or-remove_above normals k [] c m h ∙ ap (λ (j : ℕ). get_or normals j []) i

pub terms_sum : (normals : List (List ℤ)) (k : ℕ) (f : ℕ → ℤ) (c m q : ℕ) → k < length normals → suc (c + m) ≤ length normals →
    lookup (combine (coefficients (terms_from k f c m)) (map (λ i. get_or normals i []) (places (terms_from k f c m)))) q ≡ sum_below m (λ (i : ℕ). f (c + i) *ℤ lookup (column_at (remove normals k) (c + i)) q)
terms_sum normals k f c zero q h l = lookup_none q
terms_sum normals k f c (suc m) q h l =
    let r = terms_sum normals k f (suc c) m q h (omega arith) in
    let e : sum_below m (λ (i : ℕ). f (suc c + i) *ℤ lookup (column_at (remove normals k) (suc c + i)) q) ≡ sum_below m (λ (i : ℕ). f (c + suc i) *ℤ lookup (column_at (remove normals k) (c + suc i)) q) =
    sum_same m (λ (i : ℕ). f (suc c + i) *ℤ lookup (column_at (remove normals k) (suc c + i)) q) (λ (i : ℕ). f (c + suc i) *ℤ lookup (column_at (remove normals k) (c + suc i)) q) (λ i b. ap (λ (j : ℕ). f j *ℤ lookup (column_at (remove normals k) j) q) (omega arith)) in
    let z : c + 0 ≡ c = omega arith in
    let o = column_of_term normals k c h (omega arith) in
    let rest = sum_below m (λ (i : ℕ). f (c + suc i) *ℤ lookup (column_at (remove normals k) (c + suc i)) q) in
    with_cases (λ ts. lookup (combine (coefficients ts) (map (λ i. get_or normals i []) (places ts))) q ≡ f (c + 0) *ℤ lookup (column_at (remove normals k) (c + 0)) q +ℤ rest) (place_of k c) (f c) (terms_from k f (suc c) m)
    (λ n. r ∙ e ∙ rw (z, n) (none (lookup (column_at (remove normals k) c) q) rest))
    (λ n. lookup_plus (scale (f c) (get_or normals (place_of k c) [])) (combine (coefficients (terms_from k f (suc c) m)) (map (λ i. get_or normals i []) (places (terms_from k f (suc c) m)))) q
    ∙ rw (z, lookup_scale (f c) (get_or normals (place_of k c) []) q, r, e, o) refl)
  where
    none : (x y : ℤ) → y ≡ pos 0 *ℤ x +ℤ y
    none x y = omega (arith, ints)

pub terms_total : (k : ℕ) (f : ℕ → ℤ) (c m : ℕ) → total (coefficients (terms_from k f c m)) ≡ sum_below m (λ (i : ℕ). f (c + i))
terms_total k f c zero = refl
terms_total k f c (suc m) =
    let r = terms_total k f (suc c) m in
    let e : sum_below m (λ (i : ℕ). f (suc c + i)) ≡ sum_below m (λ (i : ℕ). f (c + suc i)) = sum_same m (λ (i : ℕ). f (suc c + i)) (λ (i : ℕ). f (c + suc i)) (λ i l. ap f (omega arith)) in
    let z : f (c + 0) ≡ f c = ap f (omega arith) in
    with_cases (λ ts. total (coefficients ts) ≡ f (c + 0) +ℤ sum_below m (λ (i : ℕ). f (c + suc i))) (place_of k c) (f c) (terms_from k f (suc c) m)
    (λ n. omega (arith, ints, r, e, z, n))
    (λ n. omega (arith, ints, r, e, z))
