-- The numbers of the image of a normal, row by row.
use Rattle.std.proofs.Common.{◌≡◌, ℕ, suc, ℤ, ◌<◌, ◌≤◌, ◌+◌, ◌*◌, ◌^◌, ◌∙◌, ap, arith, sym, subst, List, [], ◌∷◌, ◌++◌, length, drop, get_or, drop-cons, add-one, map, append_assoc, length-append}
use Rattle.std.proofs.lemmas.List.{length-map, length-drop, drop_all, append-nil}
use Rattle.std.specs.List.{All}
use Rattle.std.proofs.lemmas.List.Elements.{All-take, All-drop}
use Rattle.std.specs.Int.{int_wrap}
use mir.Syntax.{w128}
use Rattle.lt_model.specs.Flat.{rows}
use Rattle.lt_model.specs.Forms.{numbers_of_form}
use Rattle.lt_model.specs.Matrices.{apply}
use Rattle.lt_model.specs.Vectors.{dot}
use Rattle.lt_model.proofs.Flat.{get-first_rows}
use Rattle.lt_lattice.specs.Ranges.{IsBelow}
use Rattle.lt_lattice.proofs.Lengths.{at_most_21}
use Rattle.lt_geometry.proofs.Induced.{products, induced, length-induced}

-- a row of a matrix of small numbers has small numbers
pub row_below : (d i : ℕ) (u : List ℤ) → i < d → All (IsBelow (2 ^ 62)) u → All (IsBelow (2 ^ 62)) (get_or (rows d u) i [])
row_below d i u l h =
    subst (λ (r : List ℤ). All (IsBelow (2 ^ 62)) r) (sym (get-first_rows d d i u l)) (All-take {X = ℤ} (IsBelow (2 ^ 62)) d (drop (i * d) u) (All-drop {X = ℤ} (IsBelow (2 ^ 62)) (i * d) u h))

-- the values of a normal at the rows of a matrix, modulo 2^128
abbrev pub wrapped : List (List ℤ) → List ℤ → List ℤ
wrapped v n = map (int_wrap w128) (apply v n)

-- one number of a row more
pub row_more : (u : List (List ℤ)) (r n all rest m : List ℤ) (x : ℤ) (j : ℕ) → j < length u → x ≡ int_wrap w128 (dot (products r (get_or u j [])) n) → all ++ (wrapped (map (products r) (drop j u)) n ++ rest) ≡ m →
    (all ++ x ∷ []) ++ (wrapped (map (products r) (drop (j + 1) u)) n ++ rest) ≡ m
row_more u r n all rest m x j h is e =
    let o : wrapped (map (products r) (drop j u)) n ≡ x ∷ wrapped (map (products r) (drop (j + 1) u)) n =
    rw (add-one j, drop-cons u j []) (ap (λ (z : ℤ). z ∷ wrapped (map (products r) (drop (suc j) u)) n) (sym is))
    in
    let k = rw o at e in
    rw append_assoc k

-- there is room for it
pub row_room : (u : List (List ℤ)) (r n all rest : List ℤ) (j : ℕ) → length u ≤ 6 → j < length u → all ++ (wrapped (map (products r) (drop j u)) n ++ rest) ≡ wrapped (induced u) n → length all < 21
row_room u r n all rest j few h e =
    let w : List ℤ = wrapped (map (products r) (drop j u)) n in
    let lw : length w ≡ length (drop j u) = length-map (apply (map (products r) (drop j u)) n) (int_wrap w128) ∙ length-map (map (products r) (drop j u)) (λ (s : List ℤ). dot s n) ∙ length-map (drop j u) (products r) in
    let whole : length (wrapped (induced u) n) ≡ numbers_of_form (length u) = length-map (apply (induced u) n) (int_wrap w128) ∙ length-map (induced u) (λ (s : List ℤ). dot s n) ∙ length-induced u in
    let l : length all + (length w + length rest) ≡ length (wrapped (induced u) n) = sym (length-append all (w ++ rest) ∙ ap (λ k. length all + k) (length-append w rest)) ∙ ap length e in
    let most = at_most_21 (length u) few in
    let d = length-drop j u in
    omega (arith, lw, whole, l, most, d, h)

-- a row ends
pub row_ends : (u : List (List ℤ)) (r n all rest m : List ℤ) (j : ℕ) → length u ≤ j → all ++ (wrapped (map (products r) (drop j u)) n ++ rest) ≡ m → all ++ rest ≡ m
row_ends u r n all rest m j h e = let o = drop_all j u h in rw o at e

-- and the last of them
pub rows_end : (u : List (List ℤ)) (n all m : List ℤ) (i : ℕ) → length u ≤ i → all ++ wrapped (induced (drop i u)) n ≡ m → all ≡ m
rows_end u n all m i h e = let o = drop_all i u h in sym (append-nil all) ∙ (rw o at e)
