-- A matrix that carries a triangulation onto another has small numbers, where both are within the limit of spans.
use Rattle.std.proofs.Common.{◌≡◌, ℕ, zero, suc, ℤ, pos, nat_abs, ◌*ℤ◌, ◌≤ℤ◌, ◌+◌, ◌*◌, ◌^◌, ◌<◌, ◌≤◌, inl, inr, sym, subst, arith, List, [], ◌∷◌, length, lit≤, mul-le-mul}
use Rattle.std.specs.List.{All, Contains}
use Rattle.std.proofs.lemmas.Bool.{cases_lt}
use Rattle.std.proofs.lemmas.Int.{ints, unsigned_abs-mul}
use Rattle.std.proofs.Math.Nat.{pow-succ', pow-zero}
use Rattle.lt_model.specs.Exterior.{volume}
use Rattle.lt_model.specs.Limits.{span_limit}
use Rattle.lt_model.specs.Vectors.{dot}
use Rattle.lt_model.proofs.Hadamard.{hadamard, squared_lengths, dot_nonneg}
use Rattle.lt_model.proofs.Inequalities.{le_trans_z, mul_le_mul_z}
use Rattle.lt_model.proofs.Sets.{Contains-head, Contains-tail}
use Rattle.lt_lattice.specs.Ranges.{IsWithin}
use Rattle.lt_read.proofs.Expressed.{dot_most}

-- ---- volumes

-- a volume of vectors of small length
squares_most : (q : ℕ) (cs : List (List ℤ)) → ((c : List ℤ) → Contains cs c → dot c c ≤ℤ pos q) → squared_lengths cs ≤ℤ pos (q ^ length cs)
squares_most q [] h = rw (pow-zero q) (omega (arith, ints))
squares_most q (c ∷ cs) h =
    let rest = squares_most q cs (λ e m. h e (Contains-tail c cs e m)) in
    let one = h c (Contains-head c cs) in
    let p : (dot c c *ℤ squared_lengths cs) ≤ℤ (dot c c *ℤ pos (q ^ length cs)) = mul_le_mul_z (dot c c) (squared_lengths cs) (pos (q ^ length cs)) (dot_nonneg c) rest in
    let s : (dot c c *ℤ pos (q ^ length cs)) ≤ℤ pos (q * q ^ length cs) = times (dot c c) q (q ^ length cs) (dot_nonneg c) one in
    rw (pow-succ' q (length cs)) (le_trans_z (dot c c *ℤ squared_lengths cs) (dot c c *ℤ pos (q ^ length cs)) (pos (q * q ^ length cs)) p s)
  where
    times : (x : ℤ) (q n : ℕ) → pos 0 ≤ℤ x → x ≤ℤ pos q → (x *ℤ pos n) ≤ℤ pos (q * n)
    times x q n low high =
        let a : nat_abs x ≤ q = omega (arith, ints, low, high) in
        let b : nat_abs x * n ≤ q * n = mul-le-mul a (same n) in
        let c = unsigned_abs-mul x (pos n) in
        at_most (x *ℤ pos n) (q * n) (omega (arith, ints, b, c))
      where
        same : (n : ℕ) → n ≤ n
        same n = omega arith

        at_most : (y : ℤ) (m : ℕ) → nat_abs y ≤ m → y ≤ℤ pos m
        at_most y m h = omega (arith, ints, h)

-- a number whose square is at most 2^100
root : (x : ℤ) → (x *ℤ x) ≤ℤ pos (2 ^ 100) → nat_abs x ≤ 2 ^ 50
root x h =
    elim (cases_lt (2 ^ 50) (nat_abs x)) [
      | inr le ↦ le
      | inl l ↦
          let p : (2 ^ 50 + 1) * (2 ^ 50 + 1) ≤ nat_abs x * nat_abs x = mul-le-mul (next (nat_abs x) l) (next (nat_abs x) l) in
          let e = unsigned_abs-mul x x in
          let f : nat_abs (x *ℤ x) ≤ 2 ^ 100 = small (x *ℤ x) (dot_square x) h in
          absurd (omega (arith, p, e, f))
    ]
  where
    next : (n : ℕ) → 2 ^ 50 < n → 2 ^ 50 + 1 ≤ n
    next n l = omega (arith, l)

    dot_square : (x : ℤ) → pos 0 ≤ℤ (x *ℤ x)
    dot_square x = grind (arith, ints)

    small : (y : ℤ) → pos 0 ≤ℤ y → y ≤ℤ pos (2 ^ 100) → nat_abs y ≤ 2 ^ 100
    small y a b = omega (arith, ints, a, b)

-- the greatest volume of d vectors within the limit
greatest_power : (d : ℕ) → 2 ≤ d → d ≤ 6 → (d * (span_limit d * span_limit d)) ^ d ≤ 2 ^ 100
greatest_power zero low high = absurd (omega (arith, low))
greatest_power (suc zero) low high = absurd (omega (arith, low))
greatest_power (suc (suc zero)) low high = lit≤ tt
greatest_power (suc (suc (suc zero))) low high = lit≤ tt
greatest_power (suc (suc (suc (suc zero)))) low high = lit≤ tt
greatest_power (suc (suc (suc (suc (suc zero))))) low high = lit≤ tt
greatest_power (suc (suc (suc (suc (suc (suc zero)))))) low high = lit≤ tt
greatest_power (suc (suc (suc (suc (suc (suc (suc d))))))) low high = absurd (omega (arith, high))

square_most : (d m : ℕ) (v : List ℤ) → length v ≡ d → All (IsWithin m) v → dot v v ≤ℤ pos (d * (m * m))
square_most d m v l all = let h = dot_most m m v v all all in bound (dot v v) (d * (m * m)) (subst (λ (n : ℕ). nat_abs (dot v v) ≤ n * (m * m)) l h)
  where
    bound : (y : ℤ) (n : ℕ) → nat_abs y ≤ n → y ≤ℤ pos n
    bound y n h = omega (arith, ints, h)

module _ (d : ℕ) (low : 2 ≤ d) (high : d ≤ 6) (cs : List (List ℤ)) (long : length cs ≡ d) where
  pub volume_most : ((c : List ℤ) → Contains cs c → (length c ≡ d) × All (IsWithin (span_limit d)) c) → nat_abs (volume d cs) ≤ 2 ^ 50
  volume_most h =
      let q = d * (span_limit d * span_limit d) in
      let p = squares_most q cs (λ c m. square_most d (span_limit d) c (h c m).0 (h c m).1) in
      let e : q ^ length cs ≤ 2 ^ 100 = subst (λ (n : ℕ). q ^ n ≤ 2 ^ 100) (sym long) (greatest_power d low high) in
      root (volume d cs) (le_trans_z (volume d cs *ℤ volume d cs) (squared_lengths cs) (pos (2 ^ 100)) (hadamard d cs) (le_trans_z (squared_lengths cs) (pos (q ^ length cs)) (pos (2 ^ 100)) p (up (q ^ length cs) e)))
    where
      up : (n : ℕ) → n ≤ 2 ^ 100 → pos n ≤ℤ pos (2 ^ 100)
      up n h = omega (arith, ints, h)
