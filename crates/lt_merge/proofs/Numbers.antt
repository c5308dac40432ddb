-- The numbers of the product of two linear functions, one by one.
use Rattle.std.proofs.Common.{◌≡◌, ℕ, suc, ℤ, pos, ◌+ℤ◌, ◌*ℤ◌, ◌<◌, ◌≤◌, ◌+◌, ◌*◌, ◌^◌, ◌∙◌, refl, ap, arith, sym, List, [], ◌∷◌, ◌++◌, length, drop, get_or, drop-cons, add-one, nat_abs, append_assoc, length-append, length-drop}
use Rattle.std.proofs.lemmas.Int.{ints, to_z-of_z, fits_signed_mul}
use Rattle.std.specs.Prelude.{FitsSigned}
use mir.Val.{SFits, of_z, to_z}
use mir.Syntax.{w128}
use Rattle.lt_model.specs.Forms.{numbers_of_form}
use Rattle.lt_model.specs.Vectors.{plus, scale}
use Rattle.lt_model.proofs.Squares.{length-scale, length-plus}
use Rattle.lt_lattice.proofs.Dots.{product_within}
use Rattle.lt_lattice.proofs.Lengths.{at_most_21}
use Rattle.lt_geometry.proofs.Induced.{products, length-products}

-- the first number of the product, and what is left of the first row
pub products_open : (r s : List ℤ) (i : ℕ) → i < length r → i < length s → products (drop i r) (drop i s)
    ≡ (get_or r i (pos 0) *ℤ get_or s i (pos 0)) ∷ (plus (scale (get_or r i (pos 0)) (drop (i + 1) s)) (scale (get_or s i (pos 0)) (drop (i + 1) r)) ++ products (drop (i + 1) r) (drop (i + 1) s))
products_open r s i p q =
    let x : ℤ = get_or r i (pos 0) in
    let y : ℤ = get_or s i (pos 0) in
    let zero : x *ℤ y +ℤ pos 0 ≡ x *ℤ y = plain (x *ℤ y) in
    rw (add-one i, drop-cons r i (pos 0), drop-cons s i (pos 0))
    (ap (λ z. z ∷ (plus (scale x (drop (suc i) s)) (scale y (drop (suc i) r)) ++ products (drop (suc i) r) (drop (suc i) s))) zero)
  where
    plain : (z : ℤ) → z +ℤ pos 0 ≡ z
    plain z = omega (arith, ints)

-- the first number of a row stands
pub row_begins : (r s all m : List ℤ) (i : ℕ) → i < length r → i < length s → all ++ products (drop i r) (drop i s) ≡ m →
    (all ++ (get_or r i (pos 0) *ℤ get_or s i (pos 0)) ∷ []) ++ (plus (scale (get_or r i (pos 0)) (drop (i + 1) s)) (scale (get_or s i (pos 0)) (drop (i + 1) r)) ++ products (drop (i + 1) r) (drop (i + 1) s)) ≡ m
row_begins r s all m i p q h = let k = rw (products_open r s i p q) at h in rw append_assoc k

-- one number of the row more
pub row_more : (r s all rest m : List ℤ) (x y : ℤ) (j : ℕ) → j < length r → j < length s → all ++ (plus (scale x (drop j s)) (scale y (drop j r)) ++ rest) ≡ m →
    (all ++ (x *ℤ get_or s j (pos 0) +ℤ y *ℤ get_or r j (pos 0)) ∷ []) ++ (plus (scale x (drop (j + 1) s)) (scale y (drop (j + 1) r)) ++ rest) ≡ m
row_more r s all rest m x y j p q h =
    let e : plus (scale x (drop j s)) (scale y (drop j r)) ≡ (x *ℤ get_or s j (pos 0) +ℤ y *ℤ get_or r j (pos 0)) ∷ plus (scale x (drop (j + 1) s)) (scale y (drop (j + 1) r)) =
    rw (add-one j, drop-cons s j (pos 0), drop-cons r j (pos 0)) refl
    in
    let k = rw e at h in
    rw append_assoc k

-- ---- room

module _ (r s all m : List ℤ) (few : length r ≤ 6) (same : length s ≡ length r) (whole : all ++ m ≡ products r s) where
  room : length all + length m ≤ 21
  room =
      let e : length all + length m ≡ numbers_of_form (length r) = sym (length-append all m) ∙ ap length whole ∙ length-products (length r) r s refl same in
      let most = at_most_21 (length r) few in
      omega (arith, e, most)

  pub row_room : (i : ℕ) → i < length r → m ≡ products (drop i r) (drop i s) → length all < 21
  row_room i p e =
      let q : i < length s = omega (arith, same) in
      let l : length m ≡ suc (length (plus (scale (get_or r i (pos 0)) (drop (i + 1) s)) (scale (get_or s i (pos 0)) (drop (i + 1) r)) ++ products (drop (i + 1) r) (drop (i + 1) s))) = ap length (e ∙ products_open r s i p q) in
      omega (arith, room, l)

  pub more_room : (x y : ℤ) (rest : List ℤ) (j : ℕ) → j < length r → m ≡ plus (scale x (drop j s)) (scale y (drop j r)) ++ rest → length all < 21
  more_room x y rest j p e =
      let ls = length-scale x (drop j s) in
      let lr = length-scale y (drop j r) in
      let ds = length-drop j s in
      let dr = length-drop j r in
      let l : length (plus (scale x (drop j s)) (scale y (drop j r))) ≡ length (scale x (drop j s)) = length-plus (scale x (drop j s)) (scale y (drop j r)) (omega (arith, ls, lr, ds, dr, same)) in
      let n : length m ≡ length (plus (scale x (drop j s)) (scale y (drop j r))) + length rest = ap length e ∙ length-append (plus (scale x (drop j s)) (scale y (drop j r))) rest in
      omega (arith, room, l, n, ls, ds, p, same)

-- ---- sizes

small_fits : (x : ℤ) → nat_abs x < 2 ^ 62 → SFits w128 x
small_fits x h = omega (arith, ints)

module _ (x y : ℤ) (hx : nat_abs x < 2 ^ 62) (hy : nat_abs y < 2 ^ 62) where
  below : nat_abs (x *ℤ y) ≤ 2 ^ 62 * 2 ^ 62
  below = product_within x y (2 ^ 62) (2 ^ 62) (omega (arith, hx)) (omega (arith, hy))

  plain_fits : FitsSigned w128 (x *ℤ y)
  plain_fits = fits_signed_mul w128 x y (2 ^ 62) (2 ^ 62) (omega (arith, hx)) (omega (arith, hy)) (omega arith)

  pub product_fits : FitsSigned w128 (to_z w128 (of_z w128 x) *ℤ to_z w128 (of_z w128 y))
  product_fits = rw (to_z-of_z w128 x (small_fits x hx), to_z-of_z w128 y (small_fits y hy)) plain_fits

  -- the product that the code makes
  pub cast_product : to_z w128 (of_z w128 (to_z w128 (of_z w128 x) *ℤ to_z w128 (of_z w128 y))) ≡ x *ℤ y
  cast_product = rw (to_z-of_z w128 x (small_fits x hx), to_z-of_z w128 y (small_fits y hy)) (to_z-of_z w128 (x *ℤ y) plain_fits)

module _ (x y z w : ℤ) (hx : nat_abs x < 2 ^ 62) (hy : nat_abs y < 2 ^ 62) (hz : nat_abs z < 2 ^ 62) (hw : nat_abs w < 2 ^ 62) where
  both : FitsSigned w128 (x *ℤ y +ℤ z *ℤ w)
  both = sum_fits (x *ℤ y) (z *ℤ w) (below x y hx hy) (below z w hz hw)
    where
      sum_fits : (a b : ℤ) → nat_abs a ≤ 2 ^ 62 * 2 ^ 62 → nat_abs b ≤ 2 ^ 62 * 2 ^ 62 → FitsSigned w128 (a +ℤ b)
      sum_fits a b ha hb = omega (arith, ints)

  pub sum_fits : FitsSigned w128 (to_z w128 (of_z w128 (to_z w128 (of_z w128 x) *ℤ to_z w128 (of_z w128 y))) +ℤ to_z w128 (of_z w128 (to_z w128 (of_z w128 z) *ℤ to_z w128 (of_z w128 w))))
  sum_fits = rw (cast_product x y hx hy, cast_product z w hz hw) both

  -- the sum that the code makes
  pub cast_sum : to_z w128 (of_z w128 (to_z w128 (of_z w128 (to_z w128 (of_z w128 x) *ℤ to_z w128 (of_z w128 y))) +ℤ to_z w128 (of_z w128 (to_z w128 (of_z w128 z) *ℤ to_z w128 (of_z w128 w))))) ≡ x *ℤ y +ℤ z *ℤ w
  cast_sum = rw (cast_product x y hx hy, cast_product z w hz hw) (to_z-of_z w128 (x *ℤ y +ℤ z *ℤ w) both)
