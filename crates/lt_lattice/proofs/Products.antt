-- The products of the coordinates of a point, in the order of a form's numbers.
use Rattle.std.proofs.Common.{◌≡◌, ℕ, suc, ℤ, pos, ◌*ℤ◌, ◌<◌, ◌≤◌, ◌+◌, ◌*◌, ◌^◌, refl, ap, arith, sym, ◌∙◌, List, [], ◌∷◌, ◌++◌, length, drop, get_or, drop-cons, add-one, nat_abs, append_assoc, length-append, length-drop}
use Rattle.std.proofs.lemmas.Int.{ints, to_z-of_z, fits_signed_mul}
use mir.Val.{SFits, of_z, to_z}
use mir.Syntax.{w128, w32}
use Rattle.std.specs.List.{All}
use Rattle.std.proofs.lemmas.List.Elements.{All-nil, All-cons, All-head, All-tail, All-append}
use Rattle.lt_model.specs.Vectors.{scale}
use Rattle.lt_model.specs.Forms.{squares, numbers_of_form}
use Rattle.lt_model.proofs.Squares.{length-scale}
use Rattle.lt_lattice.specs.Ranges.{IsWithin}
use Rattle.lt_lattice.proofs.Dots.{product_within}
use Rattle.lt_lattice.proofs.Lengths.{at_most_21}

-- one product more of the row that begins at place i
pub row_more : (x all r : List ℤ) (i j : ℕ) (m : List ℤ) → j < length x → all ++ (scale (get_or x i (pos 0)) (drop j x) ++ r) ≡ m → (all ++ (get_or x i (pos 0) *ℤ get_or x j (pos 0)) ∷ []) ++ (scale (get_or x i (pos 0)) (drop (j + 1) x) ++ r) ≡ m
row_more x all r i j m p h =
    let e : drop j x ≡ get_or x j (pos 0) ∷ drop (j + 1) x = rw (add-one j, drop-cons x j (pos 0)) refl in
    let k = rw e at h in
    rw append_assoc k

pub length-squares : (x : List ℤ) → length (squares x) ≡ numbers_of_form (length x)
length-squares [] = refl
length-squares (a ∷ x) = ap suc (length-append (scale a x) (squares x) ∙ ap (λ n. n + length (squares x)) (length-scale a x) ∙ ap (λ n. length x + n) (length-squares x)) ∙ sym (add-suc' (length x) (numbers_of_form (length x)))
  where
    add-suc' : (m n : ℕ) → suc m + n ≡ suc (m + n)
    add-suc' m n = omega arith

-- there is room for one product more
pub row_room : (x all r : List ℤ) (j : ℕ) (k : ℤ) → length x ≤ 6 → j < length x → all ++ (scale k (drop j x) ++ r) ≡ squares x → length all < 21
row_room x all r j k few p h =
    let e1 : length all + (length (drop j x) + length r) ≡ numbers_of_form (length x) =
    sym (length-append all (scale k (drop j x) ++ r) ∙ ap (λ n. length all + n) (length-append (scale k (drop j x)) r ∙ ap (λ n. n + length r) (length-scale k (drop j x)))) ∙ ap length h ∙ length-squares x
    in
    let e2 : numbers_of_form (length x) ≤ 21 = at_most_21 (length x) few in
    omega (arith, length-drop j x, e1, e2)

-- the product that the code makes of two coordinates
pub cast_product : (x y : ℤ) → nat_abs x ≤ 2 ^ 20 → nat_abs y ≤ 2 ^ 20 →
    to_z w128 (of_z w128 (to_z w128 (of_z w128 (to_z w32 (of_z w32 x))) *ℤ to_z w128 (of_z w128 (to_z w32 (of_z w32 y))))) ≡ x *ℤ y
cast_product x y hx hy =
    rw (to_z-of_z w32 x (fits32 x hx), to_z-of_z w32 y (fits32 y hy), to_z-of_z w128 x (fits128 x hx), to_z-of_z w128 y (fits128 y hy)) (to_z-of_z w128 (x *ℤ y) product)
  where
    fits32 : (x : ℤ) → nat_abs x ≤ 2 ^ 20 → SFits w32 x
    fits32 x h = omega (arith, ints)

    fits128 : (x : ℤ) → nat_abs x ≤ 2 ^ 20 → SFits w128 x
    fits128 x h = omega (arith, ints)

    product : SFits w128 (x *ℤ y)
    product = fits_signed_mul w128 x y (2 ^ 20) (2 ^ 20) (omega (arith, ints)) (omega (arith, ints)) (omega arith)

scale_within : (m : ℕ) (k : ℤ) (x : List ℤ) → nat_abs k ≤ m → All (IsWithin m) x → All (IsWithin (m * m)) (scale k x)
scale_within m k [] hk h = All-nil (IsWithin (m * m))
scale_within m k (a ∷ x) hk h =
    All-cons (IsWithin (m * m)) (k *ℤ a) (scale k x) (product_within k a m m hk (All-head (IsWithin m) a x h)) (scale_within m k x hk (All-tail (IsWithin m) a x h))

pub squares_within : (m : ℕ) (x : List ℤ) → All (IsWithin m) x → All (IsWithin (m * m)) (squares x)
squares_within m [] h = All-nil (IsWithin (m * m))
squares_within m (a ∷ x) h =
    All-append (IsWithin (m * m)) (scale a (a ∷ x)) (squares x) (scale_within m a (a ∷ x) (All-head (IsWithin m) a x h) h) (squares_within m x (All-tail (IsWithin m) a x h))
