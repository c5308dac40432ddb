-- The laws of the ring ℤ that std lacks.
use Rattle.std.proofs.Common.{◌≡◌, refl, ap, ℤ, pos, negsuc, ◌+ℤ◌, ◌*ℤ◌, neg_ℤ, arith, ℕ, ◌+◌, ◌*◌}
use Rattle.std.proofs.lemmas.Int.{ints}
use borrow.Author.Differences.{up, down, product_is, sum_is_lem, neg_is, same_in}

pub up_mul : (a b : ℤ) → up (a *ℤ b) ≡ up a * up b + down a * down b
up_mul a b = (product_is a b).0

pub down_mul : (a b : ℤ) → down (a *ℤ b) ≡ up a * down b + down a * up b
down_mul a b = (product_is a b).1

pub up_neg : (a : ℤ) → up (neg_ℤ a) ≡ down a
up_neg a = (neg_is a).0

pub down_neg : (a : ℤ) → down (neg_ℤ a) ≡ up a
down_neg a = (neg_is a).1

pub add_assoc_z : (a b c : ℤ) → (a +ℤ b) +ℤ c ≡ a +ℤ (b +ℤ c)
add_assoc_z a b c = omega (arith, ints)

pub add_comm_z : (a b : ℤ) → a +ℤ b ≡ b +ℤ a
add_comm_z a b = omega (arith, ints)

pub add_left_comm_z : (a b c : ℤ) → a +ℤ (b +ℤ c) ≡ b +ℤ (a +ℤ c)
add_left_comm_z a b c = omega (arith, ints)

pub add_zero_z : (a : ℤ) → a +ℤ pos 0 ≡ a
add_zero_z a = omega (arith, ints)

pub zero_add_z : (a : ℤ) → pos 0 +ℤ a ≡ a
zero_add_z a = omega (arith, ints)

pub mul_comm_z : (a b : ℤ) → a *ℤ b ≡ b *ℤ a
mul_comm_z a b = omega (arith, ints)

pub mul_assoc_z : (a b c : ℤ) → (a *ℤ b) *ℤ c ≡ a *ℤ (b *ℤ c)
mul_assoc_z a b c = same_in _ _ (simp (up_mul, down_mul) (omega arith))

pub mul_left_comm_z : (a b c : ℤ) → a *ℤ (b *ℤ c) ≡ b *ℤ (a *ℤ c)
mul_left_comm_z a b c = same_in _ _ (simp (up_mul, down_mul) (omega arith))

pub mul_add_z : (a b c : ℤ) → a *ℤ (b +ℤ c) ≡ a *ℤ b +ℤ a *ℤ c
mul_add_z a b c =
    let e = sum_is_lem b c in
    same_in _ _ (omega (arith, ints, ap (λ (n : ℕ). up a * n) e, ap (λ (n : ℕ). down a * n) e))

pub add_mul_z : (a b c : ℤ) → (a +ℤ b) *ℤ c ≡ a *ℤ c +ℤ b *ℤ c
add_mul_z a b c =
    let e = sum_is_lem a b in
    same_in _ _ (omega (arith, ints, ap (λ (n : ℕ). n * up c) e, ap (λ (n : ℕ). n * down c) e))

pub mul_zero_z : (a : ℤ) → a *ℤ pos 0 ≡ pos 0
mul_zero_z a = omega (arith, ints)

pub zero_mul_z : (a : ℤ) → pos 0 *ℤ a ≡ pos 0
zero_mul_z a = omega (arith, ints)

pub mul_one_z : (a : ℤ) → a *ℤ pos 1 ≡ a
mul_one_z a = omega (arith, ints)

pub one_mul_z : (a : ℤ) → pos 1 *ℤ a ≡ a
one_mul_z a = omega (arith, ints)

pub neg_is_mul : (a : ℤ) → neg_ℤ a ≡ negsuc 0 *ℤ a
neg_is_mul a = omega (arith, ints)

pub mul_neg_z : (a b : ℤ) → a *ℤ neg_ℤ b ≡ neg_ℤ (a *ℤ b)
mul_neg_z a b = same_in _ _ (simp (up_mul, down_mul, up_neg, down_neg) (omega arith))

pub neg_mul_z : (a b : ℤ) → neg_ℤ a *ℤ b ≡ neg_ℤ (a *ℤ b)
neg_mul_z a b = same_in _ _ (simp (up_mul, down_mul, up_neg, down_neg) (omega arith))

-- for `simp`: sums of products, sorted
pub ruleset sorts = (mul_add_z, add_mul_z, mul_assoc_z, add_assoc_z, mul_comm_z, mul_left_comm_z, add_comm_z, add_left_comm_z)

-- for `simp`: products of sums multiplied out
pub ruleset spread = (mul_add_z, add_mul_z, mul_neg_z, neg_mul_z, mul_assoc_z)

-- a product of three, for `omega`: its parts as polynomials of the parts of its factors
pub triple_is : (a b c : ℤ) → (up (a *ℤ (b *ℤ c)) ≡ up a * (up b * up c + down b * down c) + down a * (up b * down c + down b * up c)) × (down (a *ℤ (b *ℤ c)) ≡ up a * (up b * down c + down b * up c) + down a * (up b * up c + down b * down c))
triple_is a b c = simp (up_mul, down_mul) (refl, refl)
