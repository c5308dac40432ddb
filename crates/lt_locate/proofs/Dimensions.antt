-- A form has one dimension.
use Rattle.std.proofs.Common.{◌≡◌, ℕ, zero, suc, ◌<◌, ◌≤◌, arith, subst}
use native.Mathlib.Decide.{dec_le}
use Rattle.lt_model.specs.Forms.{numbers_of_form}

more_numbers : (d e : ℕ) → d < e → numbers_of_form d < numbers_of_form e
more_numbers d zero h = absurd (omega arith)
more_numbers d (suc e) h = step d e h (dec_le e d) (more_numbers d e)
  where
    step : (d e : ℕ) → d < suc e → Dec (e ≤ d) → (d < e → numbers_of_form d < numbers_of_form e) → numbers_of_form d < numbers_of_form (suc e)
    step d e h (yes k) r =
        let s : e ≡ d = omega arith in
        subst (λ (n : ℕ). numbers_of_form n < numbers_of_form (suc e)) s (omega arith)
    step d e h (no k) r = let m = r (omega arith) in omega arith

pub one_dimension : (d e : ℕ) → numbers_of_form d ≡ numbers_of_form e → d ≡ e
one_dimension d e h = go (dec_le d e) (dec_le e d)
  where
    go : Dec (d ≤ e) → Dec (e ≤ d) → d ≡ e
    go (yes a) (yes b) = omega arith
    go (yes a) (no b) = let r = more_numbers d e (omega arith) in absurd (omega arith)
    go (no a) b = let r = more_numbers e d (omega arith) in absurd (omega arith)
