-- The order of ℤ with products.
use Rattle.std.proofs.Common.{T, List, [], ◌∷◌, ◌≢◌, ◌≡◌, sym, ◌∙◌, ap, ℤ, pos, negsuc, ◌+ℤ◌, ◌-ℤ◌, ◌*ℤ◌, neg_ℤ, ◌≤ℤ◌, ◌<ℤ◌, arith, ◌<◌, mul-le-mul_left, mul-lt-mul_of_pos_right, ℕ, refl}
use Rattle.std.proofs.lemmas.Int.{ints, by_lt_z}
use borrow.Author.Differences.{le_out, lt_out}
use Rattle.lt_model.proofs.Integers.{neg_mul_z}
use Rattle.lt_model.proofs.Ring.{ring, Expr, var, num, ◌⊕◌, ◌⊖◌, ◌⊗◌, eval, norm, is_zero}

pub le_refl_z : (a : ℤ) → a ≤ℤ a
le_refl_z a = omega (arith, ints)

pub le_trans_z : (a b c : ℤ) → a ≤ℤ b → b ≤ℤ c → a ≤ℤ c
le_trans_z a b c h k = omega (arith, ints)

pub mul_le_mul_z : (a b c : ℤ) → pos 0 ≤ℤ a → b ≤ℤ c → (a *ℤ b) ≤ℤ (a *ℤ c)
mul_le_mul_z (pos n) b c h k = omega (arith, ints, mul-le-mul_left n (le_out b c k))
mul_le_mul_z (negsuc n) b c h k = absurd (omega (arith, ints))

pub mul_nonneg_z : (a b : ℤ) → pos 0 ≤ℤ a → pos 0 ≤ℤ b → pos 0 ≤ℤ (a *ℤ b)
mul_nonneg_z (pos m) (pos n) h k = omega (arith, ints)
mul_nonneg_z (pos m) (negsuc n) h k = absurd (omega (arith, ints))
mul_nonneg_z (negsuc m) b h k = absurd (omega (arith, ints))

pub square_nonneg_z : (a : ℤ) → pos 0 ≤ℤ (a *ℤ a)
square_nonneg_z (pos n) = omega (arith, ints)
square_nonneg_z (negsuc n) = omega (arith, ints)

-- more than 0 times more is more, and back
pub mul_lt_mul_z : (a b c : ℤ) → pos 0 <ℤ a → b <ℤ c → (a *ℤ b) <ℤ (a *ℤ c)
mul_lt_mul_z (pos n) b c h k = let p : 0 < n = omega (arith, ints) in omega (arith, ints, mul-lt-mul_of_pos_right (lt_out b c k) p)
mul_lt_mul_z (negsuc n) b c h k = absurd (omega (arith, ints))

pub mul_pos_z : (a b : ℤ) → pos 0 <ℤ a → pos 0 <ℤ b → pos 0 <ℤ (a *ℤ b)
mul_pos_z a b h k = let e = mul_lt_mul_z a (pos 0) b h k in omega (arith, ints)

pub le_of_mul_le_mul_z : (a b c : ℤ) → pos 0 <ℤ a → (a *ℤ b) ≤ℤ (a *ℤ c) → b ≤ℤ c
le_of_mul_le_mul_z a b c h k = by_lt_z c b (λ l. let e = mul_lt_mul_z a c b h l in absurd (omega (arith, ints))) (λ l. l)

pub cancel_z : (a b c : ℤ) → pos 0 <ℤ a → a *ℤ b ≡ a *ℤ c → b ≡ c
cancel_z a b c h e =
    let p = le_of_mul_le_mul_z a b c h (omega (arith, ints)) in
    let q = le_of_mul_le_mul_z a c b h (omega (arith, ints)) in
    omega (arith, ints)

pub cancel_nonzero_z : (a b c : ℤ) → a ≢ pos 0 → a *ℤ b ≡ a *ℤ c → b ≡ c
cancel_nonzero_z a b c n e = by_lt_z a (pos 0)
    (λ l. let f : neg_ℤ a *ℤ b ≡ neg_ℤ a *ℤ c = neg_mul_z a b ∙ ap neg_ℤ e ∙ sym (neg_mul_z a c) in cancel_z (neg_ℤ a) b c (omega (arith, ints)) f)
    (λ l. cancel_z a b c (omega (arith, ints, n)) e)

pub natural : (c : ℤ) → pos 0 <ℤ c → (m : ℕ) × (c ≡ pos m) × (0 < m)
natural (pos m) h = (m, refl, omega (arith, ints))
natural (negsuc m) h = absurd (omega (arith, ints))
