-- Numbers without a common divisor.
use Rattle.std.proofs.Common.{◌≡◌, refl, ◌∙◌, ap, subst, ℕ, zero, suc, ◌+◌, ◌-◌, ◌*◌, ◌<◌, ◌≤◌, arith, mul_comm, mul-le-mul, inl, inr}
use Rattle.std.proofs.lemmas.Bool.{cases_lt}
use Rattle.std.proofs.lemmas.Nat.Gcd.{dvd_trans, IsGcd-from_zero, IsGcd-from_sub, IsGcd-swap, same_from_IsGcd}
use Rattle.std.proofs.Math.Nat.{one-dvd, dvd-mul_right, dvd_of_mul-dvd-mul_right, one-mul, mul-sub, mul-dvd-mul_right}
use Rattle.std.specs.Int.{IsGcd, ◌∣◌}

-- ---- a common factor goes into the greatest common divisor
record HasScaledGcd (a b : ℕ) : Type 0 where
  g : ℕ
  is : IsGcd a b g
  scaled : (c : ℕ) → IsGcd (a * c) (b * c) (g * c)

scaled_swap : (a b : ℕ) → HasScaledGcd a b → HasScaledGcd b a
scaled_swap a b h = record { g = h.g; is = IsGcd-swap a b h.g h.is; scaled = λ c. IsGcd-swap (a * c) (b * c) (h.g * c) (h.scaled c) }

scaled_sub : (a b : ℕ) → b ≤ a → HasScaledGcd (a - b) b → HasScaledGcd a b
scaled_sub a b l h = record {
  g = h.g;
  is = IsGcd-from_sub a b h.g l h.is;
  scaled = λ c. IsGcd-from_sub (a * c) (b * c) (h.g * c) (mul-le-mul l (let r : c ≤ c = omega arith in r)) (subst (λ (m : ℕ). IsGcd m (b * c) (h.g * c)) (less c) (h.scaled c));
}
  where
    less : (c : ℕ) → (a - b) * c ≡ a * c - b * c
    less c = mul_comm (a - b) c ∙ mul-sub c a b ∙ rw (mul_comm c a, mul_comm c b) refl

scaled_gcd : (n a b : ℕ) → a + b ≤ n → HasScaledGcd a b
scaled_gcd n a zero h = record { g = a; is = IsGcd-from_zero a 0 refl; scaled = λ c. IsGcd-from_zero (a * c) (0 * c) (omega arith) }
scaled_gcd n zero (suc b) h = scaled_swap (suc b) 0 (record { g = suc b; is = IsGcd-from_zero (suc b) 0 refl; scaled = λ c. IsGcd-from_zero (suc b * c) (0 * c) (omega arith) })
scaled_gcd zero (suc a) (suc b) h = absurd (omega arith)
scaled_gcd (suc n) (suc a) (suc b) h = elim (cases_lt (suc a) (suc b)) [
  | inl l ↦ scaled_swap (suc b) (suc a) (scaled_sub (suc b) (suc a) (omega arith) (scaled_gcd n (suc b - suc a) (suc a) (omega arith)))
  | inr l ↦ scaled_sub (suc a) (suc b) l (scaled_gcd n (suc a - suc b) (suc b) (omega arith))
]

-- Euclid's lemma
pub divides_other : (a b c : ℕ) → IsGcd a b 1 → a ∣ b * c → a ∣ c
divides_other a b c h k =
    let s = scaled_gcd (a + b) a b (omega arith) in
    let one : s.g ≡ 1 = same_from_IsGcd a b s.g 1 s.is h in
    let all : IsGcd (a * c) (b * c) c = subst (λ (g : ℕ). IsGcd (a * c) (b * c) g) (ap (λ (g : ℕ). g * c) one ∙ one-mul c) (s.scaled c) in
    all.2 a (dvd-mul_right a c) k

pub coprime_part : (d a b : ℕ) → d ∣ a → IsGcd a b 1 → IsGcd d b 1
coprime_part d a b h k = (one-dvd d, one-dvd b, λ e p q. k.2 e (dvd_trans e p h) q)

coprime_product : (a b c : ℕ) → IsGcd a b 1 → IsGcd a c 1 → IsGcd a (b * c) 1
coprime_product a b c h k = (one-dvd a, one-dvd (b * c), λ d p q. k.2 d p (divides_other d b c (coprime_part d a b p h) q))

-- both parts of a product of ratios that have no common divisors across
pub coprime_products : (x y z w : ℕ) → IsGcd x z 1 → IsGcd x w 1 → IsGcd y z 1 → IsGcd y w 1 → IsGcd (x * y) (z * w) 1
coprime_products x y z w xz xw yz yw =
    coprime_product (x * y) z w
    (IsGcd-swap z (x * y) 1 (coprime_product z x y (IsGcd-swap x z 1 xz) (IsGcd-swap y z 1 yz)))
    (IsGcd-swap w (x * y) 1 (coprime_product w x y (IsGcd-swap x w 1 xw) (IsGcd-swap y w 1 yw)))

-- what is left after the greatest common divisor is taken out
pub coprime_rest : (g x y : ℕ) → 0 < g → IsGcd (g * x) (g * y) g → IsGcd x y 1
coprime_rest g x y p h = (
  one-dvd x,
  one-dvd y,
  λ d k l.
      let all : (d * g) ∣ g = h.2 (d * g) (rw (mul_comm g x) (mul-dvd-mul_right d k g)) (rw (mul_comm g y) (mul-dvd-mul_right d l g)) in
      dvd_of_mul-dvd-mul_right d p (let r : (d * g) ∣ (1 * g) = rw (one-mul g) all in r),
)
