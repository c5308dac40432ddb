-- The numbers of a row and of a column of a matrix.
use Rattle.std.proofs.Common.{◌≡◌, ℕ, zero, suc, ℤ, pos, ◌<◌, ◌≤◌, ◌+◌, ◌*◌, refl, arith, ◌∙◌, List, [], ◌∷◌, ◌++◌, ◌^◌, length, map, get_or, mul-le-mul}
use Rattle.std.specs.List.{All}
use Rattle.std.proofs.lemmas.Int.{ints}
use Rattle.std.proofs.lemmas.List.Elements.{All-nil, All-cons, All-append, All-take, All-drop}
use Rattle.std.proofs.lemmas.List.{length-map, length-take-le, take_at, drop_at, length-drop, get_or_default}
use Rattle.lt_model.specs.Facets.{number_at}
use Rattle.lt_model.specs.Flat.{rows, flat}
use Rattle.lt_model.specs.Vectors.{dot, zeros}
use Rattle.lt_model.proofs.Walk.{number_at-map}
use Rattle.lt_model.proofs.Flat.{length-first_rows, get-first_rows, number_at-first_rows}
use Rattle.lt_lattice.specs.Ranges.{IsWithin, IsBelow}
use Rattle.lt_model.specs.Simplices.{AllOfDimension}
use Rattle.lt_model.specs.Matrices.{apply, identity, IsSquare}

le_refl : (d : ℕ) → d ≤ d
le_refl d = omega arith

-- the place of number j of row i
pub place_within : (d i j n : ℕ) → n ≡ d * d → i < d → j < d → i * d + j < n
place_within d i j n e h k = let m : suc i * d ≤ d * d = mul-le-mul h (le_refl d) in omega (arith, e, m)

pub length_row : (d i : ℕ) (u : List ℤ) → length u ≡ d * d → i < d → length (get_or (rows d u) i []) ≡ d
length_row d i u l h =
    let m : suc i * d ≤ d * d = mul-le-mul h (le_refl d) in
    rw (get-first_rows d d i u h) (length-take-le d _ (omega (arith, m, l, length-drop (i * d) u)))

pub row_within : (m d i : ℕ) (u : List ℤ) → length u ≡ d * d → i < d → All (IsBelow m) u → All (IsWithin m) (get_or (rows d u) i [])
row_within m d i u l h all = λ j e k.
    let few : j < d = omega (arith, k, length_row d i u l h) in
    let same : get_or (get_or (rows d u) i []) j e ≡ get_or u (i * d + j) (pos 0) =
    get_or_default (get_or (rows d u) i []) j e (pos 0) k ∙ number_at-first_rows d d i j u h few in
    rw same (omega (arith, all (i * d + j) (pos 0) (place_within d i j (length u) l h few)))

pub column_within : (m d j : ℕ) (u : List ℤ) → length u ≡ d * d → j < d → All (IsBelow m) u → All (IsWithin m) (map (number_at j) (rows d u))
column_within m d j u l h all = λ i e k.
    let few : i < length (rows d u) = omega (arith, k, length-map (rows d u) (number_at j)) in
    let less : i < d = omega (arith, few, length-first_rows d d u) in
    let same : get_or (map (number_at j) (rows d u)) i e ≡ get_or u (i * d + j) (pos 0) =
    get_or_default (map (number_at j) (rows d u)) i e (pos 0) k ∙ number_at-map (number_at j) i (rows d u) [] few ∙ number_at-first_rows d d i j u less h in
    rw same (omega (arith, all (i * d + j) (pos 0) (place_within d i j (length u) l less h)))

-- ---- the image of a point

pub get-apply : (i : ℕ) (u : List (List ℤ)) (x : List ℤ) → i < length u → get_or (apply u x) i (pos 0) ≡ dot (get_or u i []) x
get-apply i [] x h = absurd (omega arith)
get-apply zero (r ∷ u) x h = refl
get-apply (suc i) (r ∷ u) x h = get-apply i u x (omega arith)

-- ---- square matrices

row_all : (d i : ℕ) (u : List (List ℤ)) → AllOfDimension d u → i < length u → length (get_or u i []) ≡ d
row_all d i [] all h = absurd (omega arith)
row_all d zero (r ∷ u) all h = all.0
row_all d (suc i) (r ∷ u) all h = row_all d i u all.1 (omega arith)

-- a row of a square matrix
pub square_row : (d : ℕ) (u : List (List ℤ)) (i : ℕ) → IsSquare d u → i < d → length (get_or u i []) ≡ d
square_row d u i square h = row_all d i u square.columns (omega (arith, square.rows, h))

zeros_below : (n : ℕ) → All (IsBelow (2 ^ 62)) (zeros n)
zeros_below zero = All-nil (IsBelow (2 ^ 62))
zeros_below (suc n) = All-cons (IsBelow (2 ^ 62)) (pos 0) (zeros n) (omega (arith, ints)) (zeros_below n)

longer_below : (u : List (List ℤ)) → All (IsBelow (2 ^ 62)) (flat u) → All (IsBelow (2 ^ 62)) (flat (map (λ v. pos 0 ∷ v) u))
longer_below [] h = h
longer_below (r ∷ u) h =
    let row : All (IsBelow (2 ^ 62)) r = rw (take_at r (flat u) (length r) refl) at (All-take {X = ℤ} (IsBelow (2 ^ 62)) (length r) (r ++ flat u) h) in
    let rest : All (IsBelow (2 ^ 62)) (flat u) = rw (drop_at r (flat u) (length r) refl) at (All-drop {X = ℤ} (IsBelow (2 ^ 62)) (length r) (r ++ flat u) h) in
    let longer = longer_below u rest in
    All-cons (IsBelow (2 ^ 62)) (pos 0) (r ++ flat (map (λ v. pos 0 ∷ v) u)) (omega (arith, ints))
    (All-append (IsBelow (2 ^ 62)) r (flat (map (λ v. pos 0 ∷ v) u)) row longer)

-- the numbers of the identity are small
pub identity_below : (d : ℕ) → All (IsBelow (2 ^ 62)) (flat (identity d))
identity_below zero = All-nil (IsBelow (2 ^ 62))
identity_below (suc d) =
    All-cons (IsBelow (2 ^ 62)) (pos 1) (zeros d ++ flat (map (λ v. pos 0 ∷ v) (identity d))) (omega (arith, ints))
    (All-append (IsBelow (2 ^ 62)) (zeros d) (flat (map (λ v. pos 0 ∷ v) (identity d))) (zeros_below d) (longer_below (identity d) (identity_below d)))
