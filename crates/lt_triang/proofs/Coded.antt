-- The code of a facet is that of its translates, and codes fit in 64 bits.
use Rattle.std.proofs.Common.{◌≡◌, ℕ, zero, suc, ℤ, pos, ◌+ℤ◌, ◌-ℤ◌, ◌*ℤ◌, ◌<◌, ◌≤◌, ◌+◌, ◌*◌, ◌^◌, ◌%◌, refl, ap, add-one, arith, sym, ◌∙◌, subst, List, [], ◌∷◌, length, map, get_or, drop, nat_abs, inl, inr}
use Rattle.std.proofs.lemmas.Int.{ints}
use Rattle.std.proofs.Math.Nat.{eq-or-lt_of_le}
use Rattle.std.proofs.lemmas.List.{drop_more, drop_all, get_or-map, length-map}
use Rattle.std.proofs.lemmas.Bool.{cases_lt}
use mir.Val.{SFits}
use mir.Syntax.{w64}
use Rattle.lt_model.specs.Vectors.{plus}
use Rattle.lt_model.specs.Facets.{without}
use Rattle.lt_model.specs.Simplices.{AllOfDimension, translate}
use Rattle.lt_model.proofs.Translates.{without-translate}
use Rattle.lt_model.proofs.Dependent.{all_without}
use Rattle.lt_triang.specs.Across.{IsFacing}
use Rattle.lt_triang.specs.Codes.{coordinate_digits, point_code, point_digits, digits_of, facet_code, spread, bucket_of}

digits-plus : (h k : ℤ) (x y : List ℤ) → length x ≡ length y → coordinate_digits (h +ℤ k) (plus x y) ≡ coordinate_digits h x +ℤ coordinate_digits k y
digits-plus h k [] [] l = refl
digits-plus h k [] (b ∷ y) l = absurd (omega arith)
digits-plus h k (a ∷ x) [] l = absurd (omega arith)
digits-plus h k (a ∷ x) (b ∷ y) l =
    let e : pos 31 *ℤ (h +ℤ k) +ℤ (a +ℤ b) ≡ (pos 31 *ℤ h +ℤ a) +ℤ (pos 31 *ℤ k +ℤ b) = omega (arith, ints) in
    ap (λ n. coordinate_digits n (plus x y)) e ∙ digits-plus (pos 31 *ℤ h +ℤ a) (pos 31 *ℤ k +ℤ b) x y (omega arith)

point_code-plus : (x y : List ℤ) → length x ≡ length y → point_code (plus x y) ≡ point_code x +ℤ point_code y
point_code-plus x y l = digits-plus (pos 0) (pos 0) x y l

differences-moved : (d : ℕ) (p b : List ℤ) (vs : List (List ℤ)) → length p ≡ d → length b ≡ d → AllOfDimension d vs →
    map (λ v. point_code v -ℤ point_code (plus b p)) (translate p vs) ≡ map (λ v. point_code v -ℤ point_code b) vs
differences-moved d p b [] lp lb all = refl
differences-moved d p b (v ∷ vs) lp lb all =
    let e : point_code (plus v p) -ℤ point_code (plus b p) ≡ point_code v -ℤ point_code b =
    same (point_code (plus v p)) (point_code (plus b p)) (point_code v) (point_code b) (point_code p) (point_code-plus v p (all.0 ∙ sym lp)) (point_code-plus b p (lb ∙ sym lp)) in
    rw (e, differences-moved d p b vs lp lb all.1) refl
  where
    same : (x y v b p : ℤ) → x ≡ v +ℤ p → y ≡ b +ℤ p → x -ℤ y ≡ v -ℤ b
    same x y v b p e f = omega (arith, ints)

pub facet_code-moved : (d : ℕ) (p : List ℤ) (vs : List (List ℤ)) → length p ≡ d → AllOfDimension d vs → facet_code (translate p vs) ≡ facet_code vs
facet_code-moved d p [] lp all = refl
facet_code-moved d p (v ∷ vs) lp all = ap (point_digits (pos 0)) (differences-moved d p v (v ∷ vs) lp all.0 all)

-- a facet and one that lies across it stand in one bucket
pub same_bucket : (d : ℕ) (t : List (List (List ℤ))) (n i m j : ℕ) (p : List ℤ) → AllOfDimension d (get_or t m []) → IsFacing d (get_or t n []) i (get_or t m []) p j → bucket_of t m j ≡ bucket_of t n i
same_bucket d t n i m j p all h =
    let e : translate p (without j (get_or t m [])) ≡ without i (get_or t n []) = sym (without-translate p j (get_or t m [])) ∙ h.facet in
    let c : facet_code (without j (get_or t m [])) ≡ facet_code (without i (get_or t n [])) = sym (facet_code-moved d p (without j (get_or t m [])) h.dimension (all_without (λ v. length v ≡ d) j (get_or t m []) all)) ∙ ap facet_code e in
    ap (λ x. spread x % (4 * length t)) c

-- ---- bounds

abbrev pub coordinate_reach : ℕ → ℕ
coordinate_reach zero = 0
coordinate_reach (suc k) = 31 * coordinate_reach k + 2 ^ 20

abbrev pub point_reach : ℕ → ℕ
point_reach zero = 0
point_reach (suc k) = 7 * point_reach k + 2 ^ 46

coordinates_more : (k n : ℕ) → k ≤ n → coordinate_reach k ≤ coordinate_reach n
coordinates_more k zero h =
    let e : k ≡ 0 = omega (arith, h) in
    rw e (omega arith)
coordinates_more k (suc n) h =
    elim (eq-or-lt_of_le h) [
      | inl e ↦ rw e (omega arith)
      | inr l ↦ omega (arith, coordinates_more k n (omega (arith, l)))
    ]

pub coordinates_fit : (k : ℕ) → k ≤ 6 → coordinate_reach k ≤ 2 ^ 45
coordinates_fit k h =
    let e : coordinate_reach 6 ≡ 31020501958656 = refl in
    omega (arith, e, coordinates_more k 6 h)

points_more : (k n : ℕ) → k ≤ n → point_reach k ≤ point_reach n
points_more k zero h =
    let e : k ≡ 0 = omega (arith, h) in
    rw e (omega arith)
points_more k (suc n) h =
    elim (eq-or-lt_of_le h) [
      | inl e ↦ rw e (omega arith)
      | inr l ↦ omega (arith, points_more k n (omega (arith, l)))
    ]

pub points_fit : (k : ℕ) → k ≤ 6 → point_reach k ≤ 2 ^ 62
points_fit k h =
    let e : point_reach 6 ≡ 1379790335835635712 = refl in
    omega (arith, e, points_more k 6 h)

-- ---- a step of each loop

pub record IsDigit (m h x : ℤ) (r : ℕ) : Type 0 where
  pub multiple : SFits w64 (m *ℤ h)
  pub addend : SFits w64 x
  pub sum : SFits w64 (m *ℤ h +ℤ x)
  pub small : nat_abs (m *ℤ h +ℤ x) ≤ r

pub coordinate_step : (h x : ℤ) (k : ℕ) → k < 6 → nat_abs h ≤ coordinate_reach k → nat_abs x ≤ 2 ^ 20 → IsDigit (pos 31) h x (coordinate_reach (k + 1))
coordinate_step h x k l hh hx =
    let e : k + 1 ≡ suc k = omega arith in
    let f : 31 * coordinate_reach k + 2 ^ 20 ≤ 2 ^ 45 = coordinates_fit (suc k) (omega (arith, l)) in
    rw e (at h x (coordinate_reach k) f hh hx)
  where
    at : (h x : ℤ) (r : ℕ) → 31 * r + 2 ^ 20 ≤ 2 ^ 45 → nat_abs h ≤ r → nat_abs x ≤ 2 ^ 20 → IsDigit (pos 31) h x (31 * r + 2 ^ 20)
    at h x r f hh hx = record { multiple = omega (arith, ints); addend = omega (arith, ints); sum = omega (arith, ints); small = omega (arith, ints) }

pub point_step : (h x : ℤ) (k : ℕ) → k < 6 → nat_abs h ≤ point_reach k → nat_abs x ≤ 2 ^ 46 → IsDigit (pos 7) h x (point_reach (k + 1))
point_step h x k l hh hx =
    let e : k + 1 ≡ suc k = omega arith in
    let f : 7 * point_reach k + 2 ^ 46 ≤ 2 ^ 62 = points_fit (suc k) (omega (arith, l)) in
    rw e (at h x (point_reach k) f hh hx)
  where
    at : (h x : ℤ) (r : ℕ) → 7 * r + 2 ^ 46 ≤ 2 ^ 62 → nat_abs h ≤ r → nat_abs x ≤ 2 ^ 46 → IsDigit (pos 7) h x (7 * r + 2 ^ 46)
    at h x r f hh hx = record { multiple = omega (arith, ints); addend = omega (arith, ints); sum = omega (arith, ints); small = omega (arith, ints) }

pub next_coordinate : (h y c : ℤ) (xs : List ℤ) (k : ℕ) → k < length xs → y ≡ get_or xs k (pos 0) → coordinate_digits h (drop k xs) ≡ c → coordinate_digits (pos 31 *ℤ h +ℤ y) (drop (k + 1) xs) ≡ c
next_coordinate h y c xs k l e so_far =
    ap (λ n. coordinate_digits (pos 31 *ℤ h +ℤ n) (drop (k + 1) xs)) e ∙ sym (ap (coordinate_digits h) (drop_more xs k (pos 0) l)) ∙ so_far

-- ---- the codes of the points tell those of the facets

map-without : (f : List ℤ → ℤ) (i : ℕ) (vs : List (List ℤ)) → without i (map f vs) ≡ map f (without i vs)
map-without f i [] = refl
map-without f zero (v ∷ vs) = refl
map-without f (suc i) (v ∷ vs) = ap (λ l. f v ∷ l) (map-without f i vs)

map-twice : (g : ℤ → ℤ) (f : List ℤ → ℤ) (vs : List (List ℤ)) → map g (map f vs) ≡ map (λ v. g (f v)) vs
map-twice g f [] = refl
map-twice g f (v ∷ vs) = ap (λ l. g (f v) ∷ l) (map-twice g f vs)

digits_same : (vs : List (List ℤ)) → digits_of (map point_code vs) ≡ facet_code vs
digits_same [] = refl
digits_same (v ∷ vs) = ap (point_digits (pos 0)) (map-twice (λ x. x -ℤ point_code v) point_code (v ∷ vs))

pub facet_digits : (i : ℕ) (vs : List (List ℤ)) → digits_of (without i (map point_code vs)) ≡ facet_code (without i vs)
facet_digits i vs = ap digits_of (map-without point_code i vs) ∙ digits_same (without i vs)

pub next_point : (h y c : ℤ) (vs : List ℤ) (k : ℕ) → k < length vs → y ≡ get_or vs k (pos 0) -ℤ get_or vs 0 (pos 0) → point_digits h (drop k (map (λ x. x -ℤ get_or vs 0 (pos 0)) vs)) ≡ c →
    point_digits (pos 7 *ℤ h +ℤ y) (drop (k + 1) (map (λ x. x -ℤ get_or vs 0 (pos 0)) vs)) ≡ c
next_point h y c vs k l e so_far =
    let f : ℤ → ℤ = λ x. x -ℤ get_or vs 0 (pos 0) in
    let xs : List ℤ = map f vs in
    let there : get_or xs k (pos 0) ≡ get_or vs k (pos 0) -ℤ get_or vs 0 (pos 0) = get_or-map f vs k (pos 0) (pos 0) l in
    let count : k < length xs = omega (arith, l, length-map vs f) in
    ap (λ n. point_digits (pos 7 *ℤ h +ℤ n) (drop (k + 1) xs)) (e ∙ sym there) ∙ sym (ap (point_digits h) (drop_more xs k (pos 0) count)) ∙ so_far

pub last_point : (h c : ℤ) (vs : List ℤ) (k : ℕ) → length vs ≤ k → point_digits h (drop k (map (λ x. x -ℤ get_or vs 0 (pos 0)) vs)) ≡ c → h ≡ c
last_point h c vs k l so_far =
    let f : ℤ → ℤ = λ x. x -ℤ get_or vs 0 (pos 0) in
    sym (ap (point_digits h) (drop_all k (map f vs) (omega (arith, l, length-map vs f)))) ∙ so_far

-- ---- the numbers but one

pub number-without_below : (i k : ℕ) (xs : List ℤ) → k < i → get_or xs k (pos 0) ≡ get_or (without i xs) k (pos 0)
number-without_below i k [] h = refl
number-without_below zero k (x ∷ xs) h = absurd (omega arith)
number-without_below (suc i) zero (x ∷ xs) h = refl
number-without_below (suc i) (suc k) (x ∷ xs) h = number-without_below i k xs (omega arith)

pub number-without_above : (i k : ℕ) (xs : List ℤ) → i ≤ k → get_or xs (k + 1) (pos 0) ≡ get_or (without i xs) k (pos 0)
number-without_above i k [] h = refl
number-without_above zero k (x ∷ xs) h = rw (add-one k) refl
number-without_above (suc i) zero (x ∷ xs) h = absurd (omega arith)
number-without_above (suc i) (suc k) (x ∷ xs) h =
    let e : suc k + 1 ≡ suc (k + 1) = omega arith in
    rw e (number-without_above i k xs (omega arith))

pub numbers_left : (i : ℕ) (xs : List ℤ) → i < length xs → suc (length (without i xs)) ≡ length xs
numbers_left i [] h = absurd (omega arith)
numbers_left zero (x ∷ xs) h = refl
numbers_left (suc i) (x ∷ xs) h = ap suc (numbers_left i xs (omega arith))

pub number_within : (m i k : ℕ) (xs : List ℤ) → ((n : ℕ) (e : ℤ) → n < length xs → nat_abs (get_or xs n e) ≤ m) → suc k < length xs → nat_abs (get_or (without i xs) k (pos 0)) ≤ m
number_within m i k xs h l =
    elim (cases_lt k i) [
      | inl b ↦ subst (λ (x : ℤ). nat_abs x ≤ m) (number-without_below i k xs b) (h k (pos 0) (omega (arith, l)))
      | inr a ↦ subst (λ (x : ℤ). nat_abs x ≤ m) (number-without_above i k xs (omega (arith, a))) (h (k + 1) (pos 0) (omega (arith, l)))
    ]
