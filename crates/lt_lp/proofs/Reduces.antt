-- A list with a number that isn't 0, divided by its greatest common divisor.
use Rattle.std.proofs.Common.{◌≡◌, ◌≢◌, sym, ◌∙◌, subst, arith, ℕ, zero, suc, ◌*◌, ◌^◌, ◌<◌, ◌≤◌, ℤ, pos, negsuc, ◌*ℤ◌, ◌≤ℤ◌, List, [], ◌∷◌, nat_abs, unsigned_abs, mul-le-mul}
use Rattle.std.specs.Int.{◌∣◌}
use Rattle.std.proofs.lemmas.Int.{ints, unsigned_abs-mul}
use Rattle.std.proofs.lemmas.List.Elements.{All-cons, All-head, All-tail}
use Rattle.std.proofs.lemmas.Nat.Gcd.{le_of_dvd, dvd_antisymm, dvd-zero}
use Rattle.std.proofs.Math.Nat.{one-dvd, dvd-mul_right}
use Rattle.lt_model.specs.Padded.{lookup}
use Rattle.lt_model.specs.Vectors.{scale, IsPrimitive}
use Rattle.lt_model.specs.Cones.{AreBelow}
use Rattle.lt_model.proofs.Vectors.{map-is-scale}
use Rattle.lt_num.specs.Divisors.{DividesEach, IsGcdOf, MadePrimitive}
use Rattle.lt_lp.specs.Reduced.{IsReduced}
use Rattle.lt_tableau.proofs.Sums.{lookup_none}

each_multiple : (g : ℕ) (m : List ℤ) → DividesEach g (scale (pos g) m)
each_multiple g [] = tt
each_multiple g (x ∷ m) = (subst (λ (n : ℕ). g ∣ n) (sym (unsigned_abs-mul (pos g) x)) (dvd-mul_right g (unsigned_abs x)), each_multiple g m)

pub primitive_from_gcd : (xs : List ℤ) → IsGcdOf xs 1 → IsPrimitive xs
primitive_from_gcd xs h g m e = dvd_antisymm (h.greatest g (subst (DividesEach g) (sym e) (each_multiple g m))) (one-dvd g)

none_past : (q : ℕ) → lookup [] q ≢ pos 0 → ⊥
none_past q h = h (lookup_none q)

divides_at : (g : ℕ) (xs : List ℤ) (q : ℕ) → lookup xs q ≢ pos 0 → DividesEach g xs → g ∣ nat_abs (lookup xs q)
divides_at g [] q h d = absurd (none_past q h)
divides_at g (x ∷ xs) zero h d = d.0
divides_at g (x ∷ xs) (suc q) h d = divides_at g xs q h d.1

size_at : (n : ℕ) (xs : List ℤ) (q : ℕ) → lookup xs q ≢ pos 0 → AreBelow n xs → nat_abs (lookup xs q) < n
size_at n [] q h l = absurd (none_past q h)
size_at n (x ∷ xs) zero h l = All-head (λ (z : ℤ). nat_abs z < n) x xs l
size_at n (x ∷ xs) (suc q) h l = size_at n xs q h (All-tail (λ (z : ℤ). nat_abs z < n) x xs l)

some_size : (x : ℤ) → x ≢ pos 0 → 0 < nat_abs x
some_size x h = omega (arith, ints, h)

-- the divisor can't be 2^127
pub not_large : (xs : List ℤ) (q : ℕ) → lookup xs q ≢ pos 0 → AreBelow (2 ^ 62) xs → IsGcdOf xs (2 ^ 127) → ⊥
not_large xs q h l g =
    let s = size_at (2 ^ 62) xs q h l in
    let d : 2 ^ 127 ≤ nat_abs (lookup xs q) = le_of_dvd (some_size (lookup xs q) h) (divides_at (2 ^ 127) xs q h g.divides) in
    absurd (omega arith)

pub zero_divides : (n : ℕ) → 0 < n → 0 ∣ n → ⊥
zero_divides n p d = no n p (dvd_antisymm (zero_from d) d)
  where
    zero_from : 0 ∣ n → n ∣ 0
    zero_from d = dvd-zero n

    no : (n : ℕ) → 0 < n → n ≡ 0 → ⊥
    no n p e = omega arith

pub reduced : (old new : List ℤ) (g : ℤ) (q : ℕ) → lookup old q ≢ pos 0 → MadePrimitive old g new → IsReduced old new
reduced old new (pos zero) q h m = absurd (zero_divides (nat_abs (lookup old q)) (some_size (lookup old q) h) (divides_at 0 old q h m.divisor.divides))
reduced old new (pos (suc n)) q h m = record {
  factor = suc n;
  some = omega arith;
  times = m.times ∙ map-is-scale (pos (suc n)) new;
  primitive = primitive_from_gcd new (m.primitive (λ e. absurd (not_zero n e)));
}
  where
    not_zero : (n : ℕ) → pos (suc n) ≡ pos 0 → ⊥
    not_zero n e = omega (arith, ints)
reduced old new (negsuc n) q h m = absurd (negative n m.positive)
  where
    negative : (n : ℕ) → pos 0 ≤ℤ negsuc n → ⊥
    negative n h = omega (arith, ints)

-- sizes do not grow
quotient_small : (g : ℕ) (x : ℤ) (n : ℕ) → 0 < g → nat_abs (pos g *ℤ x) < n → nat_abs x < n
quotient_small g x n p h =
    let m = unsigned_abs-mul (pos g) x in
    let one : 1 ≤ g = p in
    let up : 1 * nat_abs x ≤ g * nat_abs x = mul-le-mul one (let r : nat_abs x ≤ nat_abs x = omega arith in r) in
    omega arith

pub below_scale : (n g : ℕ) (xs : List ℤ) → 0 < g → AreBelow n (scale (pos g) xs) → AreBelow n xs
below_scale n g [] p l = l
below_scale n g (x ∷ xs) p l =
    All-cons (λ (z : ℤ). nat_abs z < n) x xs (quotient_small g x n p (All-head (λ (z : ℤ). nat_abs z < n) (pos g *ℤ x) (scale (pos g) xs) l)) (below_scale n g xs p (All-tail (λ (z : ℤ). nat_abs z < n) (pos g *ℤ x) (scale (pos g) xs) l))

pub reduced_below : (n : ℕ) (xs ys : List ℤ) → IsReduced xs ys → AreBelow n xs → AreBelow n ys
reduced_below n xs ys r l = below_scale n r.factor ys r.some (subst (AreBelow n) r.times l)
