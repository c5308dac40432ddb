-- Fractions of small denominators as whole digits, and numbers of digits in lexicographic order.
use Rattle.std.proofs.Common.{◌≡◌, sym, ap, ℕ, zero, suc, ◌*◌, ◌/◌, ◌≤◌, ◌<◌, arith, mul-le-mul_right}
use Rattle.std.proofs.Math.Nat.{le_of_mul-le-mul_right}
use Rattle.std.proofs.lemmas.Nat.{le-div}
use Rattle.lt_lp.specs.Rule.{power, digits}

product_less : (a b c e k q : ℕ) → b * e ≤ k → a * e < c * b → q * b ≤ a * k → (suc q * e) * b ≤ (c * k) * b
product_less a b c e k q h l d =
    let x : (q * b) * e ≤ (a * k) * e = mul-le-mul_right e d in
    let y : suc (a * e) * k ≤ (c * b) * k = mul-le-mul_right k l in
    omega arith

pub fraction_less : (a b c e k : ℕ) → 0 < b → 0 < e → b * e ≤ k → a * e < c * b → a * k / b < c * k / e
fraction_less a b c e k hb he h l =
    let q = a * k / b in
    let d : q * b ≤ a * k = omega arith in
    le-div (suc q) (c * k) e he (le_of_mul-le-mul_right (product_less a b c e k q h l d) hb)

half : (a b c e k : ℕ) → 0 < b → 0 < e → a * e ≡ c * b → a * k / b ≤ c * k / e
half a b c e k hb he h =
    let q = a * k / b in
    let d : q * b ≤ a * k = omega arith in
    let x : (q * b) * e ≤ (a * k) * e = mul-le-mul_right e d in
    let y : (a * e) * k ≡ (c * b) * k = ap (λ (n : ℕ). n * k) h in
    let z : (q * e) * b ≤ (c * k) * b = omega arith in
    le-div q (c * k) e he (le_of_mul-le-mul_right z hb)

pub fraction_same : (a b c e k : ℕ) → 0 < b → 0 < e → a * e ≡ c * b → a * k / b ≡ c * k / e
fraction_same a b c e k hb he h =
    let x = half a b c e k hb he h in
    let y = half c e a b k he hb (sym h) in
    omega arith

digits_below : (b n : ℕ) (g : ℕ → ℕ) → ((m : ℕ) → m ≤ n → g m < b) → digits b n g < power b (suc n)
digits_below b zero g h = let x = h 0 (omega arith) in omega arith
digits_below b (suc n) g h =
    let x = h 0 (omega arith) in
    let r = digits_below b n (λ (m : ℕ). g (suc m)) (λ m l. h (suc m) (omega arith)) in
    let y : suc (g 0) * power b (suc n) ≤ b * power b (suc n) = mul-le-mul_right (power b (suc n)) x in
    omega arith

pub digits_less : (b n : ℕ) (g h : ℕ → ℕ) (at : ℕ) → at ≤ n → g at < h at → ((m : ℕ) → m < at → g m ≡ h m) → ((m : ℕ) → m ≤ n → g m < b) → digits b n g < digits b n h
digits_less b zero g h zero l s e d = s
digits_less b zero g h (suc at) l s e d = absurd (omega arith)
digits_less b (suc n) g h zero l s e d =
    let r = digits_below b n (λ (m : ℕ). g (suc m)) (λ m l. d (suc m) (omega arith)) in
    let y : suc (g 0) * power b (suc n) ≤ h 0 * power b (suc n) = mul-le-mul_right (power b (suc n)) s in
    omega arith
digits_less b (suc n) g h (suc at) l s e d =
    let r = digits_less b n (λ (m : ℕ). g (suc m)) (λ (m : ℕ). h (suc m)) at (omega arith) s (λ m k. e (suc m) (omega arith)) (λ m k. d (suc m) (omega arith)) in
    let z = e 0 (omega arith) in
    rw z (omega arith)
