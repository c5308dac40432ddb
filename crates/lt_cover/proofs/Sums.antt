-- Sums of products, made place by place.
use Rattle.std.proofs.Common.{◌≡◌, ℕ, ℤ, pos, ◌+ℤ◌, ◌-ℤ◌, ◌*ℤ◌, ◌≤ℤ◌, ◌+◌, ◌*◌, ◌^◌, ◌<◌, ◌≤◌, arith, List, length, drop, get_or, nat_abs}
use Rattle.std.specs.Prelude.{FitsSigned}
use Rattle.std.proofs.lemmas.Int.{ints, to_z-of_z}
use mir.Val.{SFits, to_z, of_z}
use mir.Syntax.{w128, w64}
use Rattle.lt_model.specs.Vectors.{dot}
use Rattle.lt_lattice.proofs.Dots.{inner_step, product_within}

-- what is summed so far, and how large it is
pub record IsSummed (xs ys : List ℤ) (i : ℕ) (sum : ℤ) : Type 0 where
  pub so_far : sum +ℤ dot (drop i xs) (drop i ys) ≡ dot xs ys
  pub small : nat_abs sum ≤ i * (2 ^ 56 * 400)

pub summed_more : (xs ys : List ℤ) (i : ℕ) (sum x y new : ℤ) → IsSummed xs ys i sum → i < length xs → i < length ys → x ≡ get_or xs i (pos 0) → y ≡ get_or ys i (pos 0) → nat_abs x ≤ 2 ^ 56 → nat_abs y ≤ 400 → new ≡ sum +ℤ x *ℤ y → IsSummed xs ys (i + 1) new
summed_more xs ys i sum x y new h hx hy ex ey bx by e =
    let t : new ≡ sum +ℤ get_or xs i (pos 0) *ℤ get_or ys i (pos 0) = rw (← ex, ← ey) e in
    let l = h.small in
    let b = product_within x y (2 ^ 56) 400 bx by in
    record { so_far = inner_step xs ys i sum new hx hy t h.so_far; small = omega (arith, ints, e, l, b) }

pub product_fits : (x y : ℤ) → nat_abs x ≤ 2 ^ 56 → nat_abs y ≤ 400 → FitsSigned w128 (x *ℤ y)
product_fits x y bx by = let b = product_within x y (2 ^ 56) 400 bx by in omega (arith, ints, b)

pub sum_fits : (i : ℕ) (s x y : ℤ) → i ≤ 6 → nat_abs s ≤ i * (2 ^ 56 * 400) → nat_abs x ≤ 2 ^ 56 → nat_abs y ≤ 400 → FitsSigned w128 (s +ℤ x *ℤ y)
sum_fits i s x y few small bx by = let b = product_within x y (2 ^ 56) 400 bx by in omega (arith, ints, b, few, small)

product_kept : (x y : ℤ) → nat_abs x ≤ 2 ^ 56 → nat_abs y ≤ 400 → SFits w128 (x *ℤ y)
product_kept x y bx by = let b = product_within x y (2 ^ 56) 400 bx by in omega (arith, ints, b)

sum_kept : (i : ℕ) (s x y : ℤ) → i ≤ 6 → nat_abs s ≤ i * (2 ^ 56 * 400) → nat_abs x ≤ 2 ^ 56 → nat_abs y ≤ 400 → SFits w128 (s +ℤ x *ℤ y)
sum_kept i s x y few small bx by = let b = product_within x y (2 ^ 56) 400 bx by in omega (arith, ints, b, few, small)

pub wide : (x : ℤ) → nat_abs x ≤ 2 ^ 56 → to_z w128 (of_z w128 x) ≡ x
wide x h = to_z-of_z w128 x (fits x h)
  where
    fits : (x : ℤ) → nat_abs x ≤ 2 ^ 56 → SFits w128 x
    fits x h = omega (arith, ints, h)

pub narrow : (x : ℤ) → nat_abs x ≤ 4000 → to_z w64 (of_z w64 x) ≡ x
narrow x h = to_z-of_z w64 x (fits x h)
  where
    fits : (x : ℤ) → nat_abs x ≤ 4000 → SFits w64 x
    fits x h = omega (arith, ints, h)

-- the product of casts is that of the numbers, and so is the sum
pub cast_product : (x y : ℤ) → nat_abs x ≤ 2 ^ 56 → nat_abs y ≤ 400 → to_z w128 (of_z w128 (to_z w128 (of_z w128 x) *ℤ to_z w128 (of_z w128 y))) ≡ x *ℤ y
cast_product x y bx by = rw (wide x bx, wide y (omega (arith, by))) (to_z-of_z w128 (x *ℤ y) (product_kept x y bx by))

pub cast_sum : (i : ℕ) (s x y : ℤ) → i ≤ 6 → nat_abs s ≤ i * (2 ^ 56 * 400) → nat_abs x ≤ 2 ^ 56 → nat_abs y ≤ 400 → to_z w128 (of_z w128 (s +ℤ to_z w128 (of_z w128 (to_z w128 (of_z w128 x) *ℤ to_z w128 (of_z w128 y))))) ≡ s +ℤ x *ℤ y
cast_sum i s x y few small bx by = rw (cast_product x y bx by) (to_z-of_z w128 (s +ℤ x *ℤ y) (sum_kept i s x y few small bx by))

pub product_cast_fits : (x y : ℤ) → nat_abs x ≤ 2 ^ 56 → nat_abs y ≤ 400 → FitsSigned w128 (to_z w128 (of_z w128 x) *ℤ to_z w128 (of_z w128 y))
product_cast_fits x y bx by = rw (wide x bx, wide y (omega (arith, by))) (product_fits x y bx by)

pub sum_cast_fits : (i : ℕ) (s x y : ℤ) → i ≤ 6 → nat_abs s ≤ i * (2 ^ 56 * 400) → nat_abs x ≤ 2 ^ 56 → nat_abs y ≤ 400 → FitsSigned w128 (s +ℤ to_z w128 (of_z w128 (to_z w128 (of_z w128 x) *ℤ to_z w128 (of_z w128 y))))
sum_cast_fits i s x y few small bx by = rw (cast_product x y bx by) (sum_fits i s x y few small bx by)

-- the same of a sum of two small numbers less a third
pub cast_three : (a b c : ℤ) → pos 0 ≤ℤ a → a ≤ℤ pos 400 → pos 0 ≤ℤ b → b ≤ℤ pos 400 → pos 0 ≤ℤ c → c ≤ℤ pos 400 → to_z w64 (of_z w64 (to_z w64 (of_z w64 (to_z w64 (of_z w64 a) +ℤ to_z w64 (of_z w64 b))) -ℤ to_z w64 (of_z w64 c))) ≡ a +ℤ b -ℤ c
cast_three a b c la ha lb hb lc hc =
    rw (narrow a (small a la ha), narrow b (small b lb hb), narrow c (small c lc hc), narrow (a +ℤ b) (two a b la ha lb hb)) (narrow (a +ℤ b -ℤ c) (three a b c la ha lb hb lc hc))
  where
    small : (a : ℤ) → pos 0 ≤ℤ a → a ≤ℤ pos 400 → nat_abs a ≤ 4000
    small a la ha = omega (arith, ints, la, ha)

    two : (a b : ℤ) → pos 0 ≤ℤ a → a ≤ℤ pos 400 → pos 0 ≤ℤ b → b ≤ℤ pos 400 → nat_abs (a +ℤ b) ≤ 4000
    two a b la ha lb hb = omega (arith, ints, la, ha, lb, hb)

    three : (a b c : ℤ) → pos 0 ≤ℤ a → a ≤ℤ pos 400 → pos 0 ≤ℤ b → b ≤ℤ pos 400 → pos 0 ≤ℤ c → c ≤ℤ pos 400 → nat_abs (a +ℤ b -ℤ c) ≤ 4000
    three a b c la ha lb hb lc hc = omega (arith, ints, la, ha, lb, hb, lc, hc)
