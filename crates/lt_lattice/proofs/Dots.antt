-- Sums of products, place by place, and how large they can be.
use Rattle.std.proofs.Common.{◌≡◌, ℕ, suc, ℤ, pos, ◌+ℤ◌, ◌*ℤ◌, ◌<◌, ◌≤◌, ◌+◌, ◌*◌, ◌^◌, refl, arith, List, [], ◌∷◌, length, drop, get_or, drop-cons, add-one, nat_abs, mul-le-mul}
use Rattle.std.proofs.lemmas.Int.{ints, to_z-of_z, unsigned_abs-mul}
use mir.Val.{SFits, of_z, to_z}
use mir.Syntax.{w128}
use Rattle.std.specs.List.{All}
use Rattle.std.proofs.lemmas.List.Elements.{All-head, All-tail}
use Rattle.lt_lattice.specs.Ranges.{IsWithin, IsBelow, size_of_dot}
use Rattle.lt_model.specs.Vectors.{dot}

pub dot-drop : (a b : List ℤ) (i : ℕ) → i < length a → i < length b → dot (drop i a) (drop i b) ≡ get_or a i (pos 0) *ℤ get_or b i (pos 0) +ℤ dot (drop (i + 1) a) (drop (i + 1) b)
dot-drop a b i p q = rw (add-one i, drop-cons a i (pos 0), drop-cons b i (pos 0)) refl

pub size-drop : (a b : List ℤ) (i : ℕ) → i < length a → i < length b → size_of_dot (drop i a) (drop i b) ≡ nat_abs (get_or a i (pos 0) *ℤ get_or b i (pos 0)) + size_of_dot (drop (i + 1) a) (drop (i + 1) b)
size-drop a b i p q = rw (add-one i, drop-cons a i (pos 0), drop-cons b i (pos 0)) refl

-- one product more of the sum
pub inner_step : (a b : List ℤ) (i : ℕ) (s t : ℤ) → i < length a → i < length b → t ≡ s +ℤ get_or a i (pos 0) *ℤ get_or b i (pos 0) → s +ℤ dot (drop i a) (drop i b) ≡ dot a b → t +ℤ dot (drop (i + 1) a) (drop (i + 1) b) ≡ dot a b
inner_step a b i s t p q is h = omega (arith, ints, dot-drop a b i p q, is, h)

-- what the code adds is the product, since nothing overflows
pub cast_step : (s x y : ℤ) → SFits w128 x → SFits w128 y → nat_abs s + nat_abs (x *ℤ y) < 2 ^ 127 →
    to_z w128 (of_z w128 (s +ℤ to_z w128 (of_z w128 (to_z w128 (of_z w128 x) *ℤ to_z w128 (of_z w128 y))))) ≡ s +ℤ x *ℤ y
cast_step s x y fx fy small =
    rw (to_z-of_z w128 x fx, to_z-of_z w128 y fy, to_z-of_z w128 (x *ℤ y) (product_fits s (x *ℤ y) small)) (to_z-of_z w128 (s +ℤ x *ℤ y) (sum_fits s (x *ℤ y) small))
  where
    product_fits : (s p : ℤ) → nat_abs s + nat_abs p < 2 ^ 127 → SFits w128 p
    product_fits s p small = omega (arith, ints)

    sum_fits : (s p : ℤ) → nat_abs s + nat_abs p < 2 ^ 127 → SFits w128 (s +ℤ p)
    sum_fits s p small = omega (arith, ints)

-- a product of two numbers with bounds
pub product_within : (x y : ℤ) (m n : ℕ) → nat_abs x ≤ m → nat_abs y ≤ n → nat_abs (x *ℤ y) ≤ m * n
product_within x y m n hx hy = rw (unsigned_abs-mul x y) (mul-le-mul hx hy)

-- the size of a sum of products of bounded numbers
pub size_within : (m n : ℕ) (a b : List ℤ) → All (IsWithin m) a → All (IsWithin n) b → size_of_dot a b ≤ length a * (m * n)
size_within m n [] b ha hb = omega arith
size_within m n (x ∷ a) [] ha hb = omega arith
size_within m n (x ∷ a) (y ∷ b) ha hb =
    let first : nat_abs (x *ℤ y) ≤ m * n = product_within x y m n (All-head (IsWithin m) x a ha) (All-head (IsWithin n) y b hb) in
    let rest : size_of_dot a b ≤ length a * (m * n) = size_within m n a b (All-tail (IsWithin m) x a ha) (All-tail (IsWithin n) y b hb) in
    more (nat_abs (x *ℤ y)) (size_of_dot a b) (length a) (m * n) first rest
  where
    more : (x s l w : ℕ) → x ≤ w → s ≤ l * w → x + s ≤ suc l * w
    more x s l w p q = omega arith

pub within_below : (m : ℕ) (a : List ℤ) → All (IsBelow m) a → All (IsWithin m) a
within_below m a h = λ k d p. omega (arith, h k d p)
