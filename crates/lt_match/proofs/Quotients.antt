-- Whole quotients.
use Rattle.std.proofs.Common.{◌≡◌, ◌<◌, ◌≤◌, ◌*◌, ◌∙◌, ℕ, zero, suc, ℤ, pos, ◌+ℤ◌, ◌*ℤ◌, neg_ℤ, refl, sym, ap, arith, int_div, int_rem, unsigned_abs, mul-le-mul}
use Rattle.std.specs.Prelude.{◌<ℤ◌}
use Rattle.std.proofs.lemmas.Int.{ints, quot-rem, rem_below, unsigned_abs-mul}
use Rattle.lt_model.proofs.Integers.{mul_add_z, mul_neg_z, mul_comm_z}

no_magnitude : (k : ℤ) → unsigned_abs k ≡ 0 → k ≡ pos 0
no_magnitude k h = omega (arith, ints)

least_multiple : (d k r : ℕ) → d * k ≡ r → r < d → k ≡ 0
least_multiple d zero r e h = refl
least_multiple d (suc k) r e h = let m : d * 1 ≤ d * suc k = mul-le-mul (same d) (omega arith) in absurd (omega (arith, m, e, h))
  where
    same : (n : ℕ) → n ≤ n
    same n = omega arith

-- the quotient of a multiple
pub quotient_of : (a d x : ℤ) → pos 0 <ℤ d → d *ℤ x ≡ a → int_div a d ≡ x
quotient_of a d x positive e =
    let q = int_div a d in
    let r = int_rem a d in
    let k = x +ℤ neg_ℤ q in
    let spread : d *ℤ k ≡ d *ℤ x +ℤ neg_ℤ (q *ℤ d) = mul_add_z d x (neg_ℤ q) ∙ ap (λ z. d *ℤ x +ℤ z) (mul_neg_z d q ∙ ap neg_ℤ (mul_comm_z d q)) in
    let rest : d *ℤ k ≡ r = omega (arith, ints, spread, quot-rem a d, e) in
    let below : unsigned_abs r < unsigned_abs d = rem_below a d (omega (arith, ints)) in
    let none : unsigned_abs k ≡ 0 = least_multiple (unsigned_abs d) (unsigned_abs k) (unsigned_abs r) (sym (unsigned_abs-mul d k) ∙ ap unsigned_abs rest) below in
    omega (arith, ints, no_magnitude k none)
