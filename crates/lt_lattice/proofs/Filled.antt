-- Loops that write a matrix row by row, number by number.
use Rattle.std.proofs.Common.{◌≡◌, ℕ, ℤ, pos, ◌<◌, ◌≤◌, ◌+◌, ◌*◌, ap, arith, sym, ◌∙◌, List, [], ◌∷◌, ◌++◌, length, drop, append_assoc}
use Rattle.std.proofs.lemmas.List.{drop_more, drop_all, append-nil, length-append, length-drop}
use Rattle.lt_model.specs.Facets.{number_at}
use Rattle.lt_model.specs.Flat.{flat}
use Rattle.lt_model.specs.Matrices.{IsSquare}
use Rattle.lt_model.proofs.Flat.{length-flat}

-- one number of the row more
pub fill_more : (r s all m : List ℤ) (j : ℕ) → j < length r → all ++ (drop j r ++ s) ≡ m → (all ++ number_at j r ∷ []) ++ (drop (j + 1) r ++ s) ≡ m
fill_more r s all m j p h =
    let e = drop_more r j (pos 0) p in
    rw append_assoc (rw e at h)

-- the row is written
pub fill_done : (r s all m : List ℤ) (j : ℕ) → length r ≤ j → all ++ (drop j r ++ s) ≡ m → all ++ s ≡ m
fill_done r s all m j p h = let e = drop_all j r p in rw e at h

-- there is room for one number more
pub fill_room : (d : ℕ) (u : List (List ℤ)) (r s all : List ℤ) (j : ℕ) → IsSquare d u → j < length r → all ++ (drop j r ++ s) ≡ flat u → length all < d * d
fill_room d u r s all j h p e =
    let whole : length all + (length (drop j r) + length s) ≡ length (flat u) =
    sym (length-append all (drop j r ++ s) ∙ ap (λ n. length all + n) (length-append (drop j r) s)) ∙ ap length e in
    let long : length (flat u) ≡ d * d = length-flat d u h.columns ∙ ap (λ n. n * d) h.rows in
    omega (arith, whole, long, length-drop j r)

-- the matrix is written
pub filled : (u : List (List ℤ)) (all m : List ℤ) (i : ℕ) → length u ≤ i → all ++ flat (drop i u) ≡ m → all ≡ m
filled u all m i p h = let e = drop_all i u p in sym (append-nil all) ∙ (rw e at h)
