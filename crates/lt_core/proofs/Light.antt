-- The principal triangulation of dimension 2 to 6 is light: its regulators are the stated normals, whose numbers are small.
use Rattle.std.proofs.Common.{◌≡◌, ℕ, zero, suc, ℤ, ◌*◌, ◌^◌, ◌<◌, ◌≤◌, refl, arith, sym, ap, ◌∙◌, subst, inl, inr, List, [], ◌∷◌, map, take, Bool, true, false}
use Rattle.std.specs.Prelude.{nat_abs, cond, nat_le}
use Rattle.std.specs.List.{AllByRecursion, Contains}
use Rattle.std.proofs.Math.Nat.{min-le_right, mul-le-mul}
use Rattle.std.proofs.Math.Dec.{leb}
use Rattle.std.proofs.lemmas.Bool.{cases_lt, leb-true}
use Rattle.lt_model.specs.Vectors.{dot}
use Rattle.lt_model.specs.Forms.{numbers_of_form}
use Rattle.lt_model.specs.Limits.{put, descending, product, weight, weight_limit}
use Rattle.lt_model.proofs.Sets.{Contains-head, Contains-tail}
use Rattle.lt_geometry.specs.Principal.{pair_normal, own_normal, IsPrincipalNormal}
use Rattle.lt_geometry.proofs.PrincipalNormals.{principal_regulators}
use Rattle.lt_core.specs.Starts.{PrincipalTypesAreLight}

-- ---- small factors have a small product

put_either : (b x y : ℕ) (ys zs : List ℕ) (c : Bool) → x ≤ b → y ≤ b → AllByRecursion (λ z. z ≤ b) ys → AllByRecursion (λ z. z ≤ b) zs → AllByRecursion (λ z. z ≤ b) (cond c (x ∷ y ∷ ys) (y ∷ zs))
put_either b x y ys zs true h k all below = (h, (k, all))
put_either b x y ys zs false h k all below = (k, below)

all_put : (b x : ℕ) (xs : List ℕ) → x ≤ b → AllByRecursion (λ y. y ≤ b) xs → AllByRecursion (λ y. y ≤ b) (put x xs)
all_put b x [] h all = (h, tt)
all_put b x (y ∷ ys) h (k, all) = put_either b x y ys (put x ys) (nat_le y x) h k all (all_put b x ys h all)

all_descending : (b : ℕ) (xs : List ℕ) → AllByRecursion (λ y. y ≤ b) xs → AllByRecursion (λ y. y ≤ b) (descending xs)
all_descending b [] all = tt
all_descending b (x ∷ xs) (h, all) = all_put b x (descending xs) h (all_descending b xs all)

abbrev powers : ℕ → ℕ
powers zero = 1
powers (suc k) = 10 * powers k

positive : (k : ℕ) → 1 ≤ powers k
positive zero = omega arith
positive (suc k) = let p = positive k in omega (arith, p)

small_product : (k : ℕ) (xs : List ℕ) → AllByRecursion (λ y. y ≤ 10) xs → product (take k xs) ≤ powers k
small_product zero xs all = omega arith
small_product (suc k) [] all = positive (suc k)
small_product (suc k) (x ∷ xs) (h, all) = mul-le-mul h (small_product k xs all)

-- ---- the stated normals, one after another

every : (ℕ → Bool) → ℕ → Bool
every f zero = true
every f (suc n) = cond (f n) (every f n) false

at_or_below : (f : ℕ → Bool) (n i : ℕ) (b c : Bool) → f n ≡ b → cond b c false ≡ true → i < suc n → (c ≡ true → i < n → f i ≡ true) → f i ≡ true
at_or_below f n i false c is g h below = absurd (cc)
at_or_below f n i true c is g h below =
    elim (cases_lt i n) [
      | inl l ↦ below g l
      | inr l ↦ (let same : i ≡ n = omega (arith, h, l) in ap f same ∙ is)
    ]

holds_at : (f : ℕ → Bool) (n i : ℕ) → every f n ≡ true → i < n → f i ≡ true
unfolding every
holds_at f zero i e h = absurd (omega (arith, h))
holds_at f (suc n) i e h = at_or_below f n i (f n) (every f n) refl e h (holds_at f n i)

abbrev size : List ℤ → ℕ
size n = suc (nat_abs (dot n n))

abbrev pairs : ℕ → Bool
pairs d = every (λ j. every (λ i. leb (size (pair_normal d i j)) 10) d) d

abbrev owns : ℕ → Bool
owns d = every (λ i. leb (size (own_normal d i)) 10) d

all_pairs : (d : ℕ) → 2 ≤ d → d ≤ 6 → pairs d ≡ true
unfolding every
all_pairs zero low high = absurd (omega (arith, low))
all_pairs (suc zero) low high = absurd (omega (arith, low))
all_pairs (suc (suc zero)) low high = refl
all_pairs (suc (suc (suc zero))) low high = refl
all_pairs (suc (suc (suc (suc zero)))) low high = refl
all_pairs (suc (suc (suc (suc (suc zero))))) low high = refl
all_pairs (suc (suc (suc (suc (suc (suc zero)))))) low high = refl
all_pairs (suc (suc (suc (suc (suc (suc (suc d))))))) low high = absurd (omega (arith, high))

all_owns : (d : ℕ) → 2 ≤ d → d ≤ 6 → owns d ≡ true
unfolding every
all_owns zero low high = absurd (omega (arith, low))
all_owns (suc zero) low high = absurd (omega (arith, low))
all_owns (suc (suc zero)) low high = refl
all_owns (suc (suc (suc zero))) low high = refl
all_owns (suc (suc (suc (suc zero)))) low high = refl
all_owns (suc (suc (suc (suc (suc zero))))) low high = refl
all_owns (suc (suc (suc (suc (suc (suc zero)))))) low high = refl
all_owns (suc (suc (suc (suc (suc (suc (suc d))))))) low high = absurd (omega (arith, high))

small : (d : ℕ) → 2 ≤ d → d ≤ 6 → (n : List ℤ) → IsPrincipalNormal d n → size n ≤ 10
small d low high n (inl (i, j, lt, below, is)) =
    let e = holds_at (λ k. leb (size (pair_normal d k j)) 10) d i (holds_at (λ l. every (λ k. leb (size (pair_normal d k l)) 10) d) d j (all_pairs d low high) below) (omega (arith, lt, below)) in
    subst (λ (m : List ℤ). size m ≤ 10) (sym is) (leb-true _ _ e)
small d low high n (inr (i, below, is)) =
    let e = holds_at (λ k. leb (size (own_normal d k)) 10) d i (all_owns d low high) below in
    subst (λ (m : List ℤ). size m ≤ 10) (sym is) (leb-true _ _ e)

-- ---- the weight

below_limit : (d : ℕ) → 2 ≤ d → d ≤ 6 → powers (suc (numbers_of_form d)) < weight_limit
below_limit zero low high = absurd (omega (arith, low))
below_limit (suc zero) low high = absurd (omega (arith, low))
below_limit (suc (suc zero)) low high = omega arith
below_limit (suc (suc (suc zero))) low high = omega arith
below_limit (suc (suc (suc (suc zero)))) low high = omega arith
below_limit (suc (suc (suc (suc (suc zero))))) low high = omega arith
below_limit (suc (suc (suc (suc (suc (suc zero)))))) low high = omega arith
below_limit (suc (suc (suc (suc (suc (suc (suc d))))))) low high = absurd (omega (arith, high))

pub principal_is_light : PrincipalTypesAreLight
principal_is_light d t ns low high p h =
    let k : ℕ = suc (numbers_of_form d) in
    let values : List ℕ = map size ns in
    let each = map_all ns (λ n c. small d low high n ((principal_regulators d t low p n).0 ((h.members n).0 c))) in
    let a : product (take k (descending values)) ≤ powers k = small_product k (descending values) (all_descending 10 values each) in
    let b : powers k < weight_limit = below_limit d low high in
    let c : weight d ns ≤ product (take k (descending values)) = min-le_right (2 ^ 120) _ in
    omega (arith, a, b, c)
  where
    map_all : (xs : List (List ℤ)) → ((n : List ℤ) → Contains xs n → size n ≤ 10) → AllByRecursion (λ y. y ≤ 10) (map size xs)
    map_all [] f = tt
    map_all (x ∷ xs) f = (f x (Contains-head x xs), map_all xs (λ n c. f n (Contains-tail x xs n c)))
