-- The rows of a matrix that is written row by row, and back; and a matrix product, number by number.
use Rattle.std.proofs.Common.{◌≡◌, ℕ, zero, suc, ℤ, pos, ◌+◌, ◌*◌, ◌<◌, ◌≤◌, ◌≢◌, refl, ap, arith, sym, ◌∙◌, List, [], ◌∷◌, ◌++◌, length, map, take, drop, get_or}
use Rattle.std.proofs.lemmas.List.{length-append, length-drop, length-take-le, take-append-drop, drop-drop, get_or-take, get_or-drop, take_at, drop_at}
use Rattle.lt_model.specs.Vectors.{scale, dot, unit, combine}
use Rattle.lt_model.specs.Simplices.{AllOfDimension}
use Rattle.lt_model.specs.Facets.{number_at}
use Rattle.lt_model.specs.Matrices.{times, identity, IsSquare}
use Rattle.lt_model.specs.Flat.{first_rows, rows, flat}
use Rattle.lt_model.proofs.Walk.{number_at-plus, number_at-scale, length-combine}
use Rattle.lt_model.proofs.Opposite.{length-zeros}
use Rattle.lt_model.proofs.Expressions.{number_at-zeros}

pub length-first_rows : (n d : ℕ) (u : List ℤ) → length (first_rows n d u) ≡ n
length-first_rows zero d u = refl
length-first_rows (suc n) d u = ap suc (length-first_rows n d (drop d u))

-- each row has d numbers
pub first_rows_all : (n d : ℕ) (u : List ℤ) → n * d ≤ length u → AllOfDimension d (first_rows n d u)
first_rows_all zero d u h = tt
first_rows_all (suc n) d u h = (length-take-le d u (omega arith), first_rows_all n d (drop d u) (omega (arith, length-drop d u)))

pub rows_square : (d : ℕ) (u : List ℤ) → length u ≡ d * d → IsSquare d (rows d u)
rows_square d u h = record { rows = length-first_rows d d u; columns = first_rows_all d d u (omega (arith, h)) }

pub get-first_rows : (n d i : ℕ) (u : List ℤ) → i < n → get_or (first_rows n d u) i [] ≡ take d (drop (i * d) u)
get-first_rows zero d i u h = absurd (omega arith)
get-first_rows (suc n) d zero u h = let e : 0 * d ≡ 0 = omega arith in rw e refl
get-first_rows (suc n) d (suc i) u h =
    let e : suc i * d ≡ d + i * d = omega arith in
    get-first_rows n d i (drop d u) (omega arith) ∙ ap (take d) (drop-drop (i * d) d u) ∙ (rw e refl)

-- the numbers of the rows, row by row, are those of the list
pub flat-first_rows : (n d : ℕ) (u : List ℤ) → length u ≡ n * d → flat (first_rows n d u) ≡ u
flat-first_rows zero d [] h = refl
flat-first_rows zero d (x ∷ u) h = absurd (omega arith)
flat-first_rows (suc n) d u h = ap (λ r. take d u ++ r) (flat-first_rows n d (drop d u) (omega (arith, h, length-drop d u))) ∙ take-append-drop d u

-- number j of row i
pub number_at-first_rows : (n d i j : ℕ) (u : List ℤ) → i < n → j < d → number_at j (get_or (first_rows n d u) i []) ≡ get_or u (i * d + j) (pos 0)
number_at-first_rows n d i j u h k = rw (get-first_rows n d i u h) (get_or-take d (drop (i * d) u) j (pos 0) k ∙ get_or-drop (i * d) u j (pos 0))

-- the rows of the numbers of rows
pub first_rows-flat : (d : ℕ) (u : List (List ℤ)) → AllOfDimension d u → first_rows (length u) d (flat u) ≡ u
first_rows-flat d [] h = refl
first_rows-flat d (r ∷ u) h = rw (take_at r (flat u) d h.0, drop_at r (flat u) d h.0, first_rows-flat d u h.1) refl

pub rows-flat : (d : ℕ) (u : List (List ℤ)) → IsSquare d u → rows d (flat u) ≡ u
rows-flat d u h = (rw (sym h.rows) refl) ∙ first_rows-flat d u h.columns

pub flat-rows : (d : ℕ) (u : List ℤ) → length u ≡ d * d → flat (rows d u) ≡ u
flat-rows d u h = flat-first_rows d d u h

pub length-flat : (d : ℕ) (u : List (List ℤ)) → AllOfDimension d u → length (flat u) ≡ length u * d
length-flat d [] h = let e : 0 * d ≡ 0 = omega arith in sym e
length-flat d (r ∷ u) h = let e = length-append r (flat u) in let k = length-flat d u h.1 in let l : length r ≡ d = h.0 in omega (arith, e, k, l)

-- a number of a sum of multiples
pub number_at-combine : (j : ℕ) (b : List ℤ) (vs : List (List ℤ)) → number_at j (combine b vs) ≡ dot b (map (number_at j) vs)
number_at-combine j [] vs = refl
number_at-combine j (x ∷ b) [] = refl
number_at-combine j (x ∷ b) (v ∷ vs) = rw (number_at-plus j (scale x v) (combine b vs), number_at-scale j x v, number_at-combine j b vs) refl

-- a number of a product of matrices
pub number_at-times : (i j : ℕ) (u v : List (List ℤ)) → i < length u → number_at j (get_or (times u v) i []) ≡ dot (get_or u i []) (map (number_at j) v)
number_at-times i j [] v h = absurd (omega arith)
number_at-times zero j (r ∷ u) v h = number_at-combine j r v
number_at-times (suc i) j (r ∷ u) v h = number_at-times i j u v (omega arith)

-- ---- products and the identity are square

length-combine_square : (d : ℕ) (b : List ℤ) (vs : List (List ℤ)) → AllOfDimension d vs → length b ≡ d → length vs ≡ d → length (combine b vs) ≡ d
length-combine_square d [] vs all lb lv = lb
length-combine_square d (x ∷ b) [] all lb lv = absurd (omega arith)
length-combine_square d (x ∷ b) (v ∷ vs) all lb lv = length-combine d (x ∷ b) (v ∷ vs) all (lb ∙ sym lv) (omega arith)

times_all : (d : ℕ) (u v : List (List ℤ)) → AllOfDimension d u → AllOfDimension d v → length v ≡ d → AllOfDimension d (times u v)
times_all d [] v hu hv lv = tt
times_all d (r ∷ u) v hu hv lv = (length-combine_square d r v hv hu.0 lv, times_all d u v hu.1 hv lv)

length-times : (u v : List (List ℤ)) → length (times u v) ≡ length u
length-times [] v = refl
length-times (r ∷ u) v = ap suc (length-times u v)

pub times_square : (d : ℕ) (u v : List (List ℤ)) → IsSquare d u → IsSquare d v → IsSquare d (times u v)
times_square d u v hu hv = record { rows = length-times u v ∙ hu.rows; columns = times_all d u v hu.columns hv.columns hv.rows }

pub longer_all : (d : ℕ) (u : List (List ℤ)) → AllOfDimension d u → AllOfDimension (suc d) (map (λ v. pos 0 ∷ v) u)
longer_all d [] h = tt
longer_all d (r ∷ u) h = (ap suc h.0, longer_all d u h.1)

length-longer : (u : List (List ℤ)) → length (map (λ v. pos 0 ∷ v) u) ≡ length u
length-longer [] = refl
length-longer (r ∷ u) = ap suc (length-longer u)

pub identity_square : (d : ℕ) → IsSquare d (identity d)
identity_square zero = record { rows = refl; columns = tt }
identity_square (suc d) =
    let h = identity_square d in
    record { rows = ap suc (length-longer (identity d) ∙ h.rows); columns = (ap suc (length-zeros d), longer_all d (identity d) h.columns) }

get-longer : (i : ℕ) (u : List (List ℤ)) → i < length u → get_or (map (λ v. pos 0 ∷ v) u) i [] ≡ pos 0 ∷ get_or u i []
get-longer i [] h = absurd (omega arith)
get-longer zero (r ∷ u) h = refl
get-longer (suc i) (r ∷ u) h = get-longer i u (omega arith)

-- the rows of the identity are the unit vectors
pub get-identity : (d i : ℕ) → i < d → get_or (identity d) i [] ≡ unit d i
get-identity zero i h = absurd (omega arith)
get-identity (suc d) zero h = refl
get-identity (suc d) (suc i) h =
    let s = identity_square d in
    get-longer i (identity d) (omega (arith, s.rows, h)) ∙ ap (λ r. pos 0 ∷ r) (get-identity d i (omega arith))

pub number_at-unit_same : (d i : ℕ) → i < d → number_at i (unit d i) ≡ pos 1
number_at-unit_same zero i h = absurd (omega arith)
number_at-unit_same (suc d) zero h = refl
number_at-unit_same (suc d) (suc i) h = number_at-unit_same d i (omega arith)

pub number_at-unit_other : (d i j : ℕ) → i ≢ j → number_at j (unit d i) ≡ pos 0
number_at-unit_other zero i j h = refl
number_at-unit_other (suc d) zero zero h = absurd (h refl)
number_at-unit_other (suc d) zero (suc j) h = number_at-zeros d j
number_at-unit_other (suc d) (suc i) zero h = refl
number_at-unit_other (suc d) (suc i) (suc j) h = number_at-unit_other d i j (λ e. h (ap suc e))
