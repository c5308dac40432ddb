-- Sums of walls: number by number, how large, and not 0.
use Rattle.std.proofs.Common.{◌≡◌, ◌≢◌, refl, sym, ◌∙◌, ap, ℕ, zero, suc, ◌+◌, ◌*◌, ◌^◌, ◌≤◌, ◌<◌, ℤ, pos, ◌+ℤ◌, arith, List, [], ◌∷◌, ◌++◌, length, get_or, drop, drop-cons, add-one, set, length-set, get_or-set_same, get_or-set_other, nat_abs, FitsSigned}
use Rattle.std.specs.List.{All}
use Rattle.std.specs.Int.{w128}
use Rattle.std.proofs.lemmas.Int.{ints, fits_signed_from_abs}
use native.Mathlib.Decide.{ℕ_discrete, dec_le}
use Rattle.lt_model.specs.Padded.{lookup}
use Rattle.lt_model.specs.Vectors.{plus, zeros}
use Rattle.lt_model.specs.Cones.{Row, Verdict, wall, combination, AreBelow, sum_of_walls, wall_or_none}
use Rattle.lt_model.proofs.Opposite.{length-zeros}
use Rattle.lt_model.proofs.Squares.{length-plus}
use Rattle.lt_tableau.proofs.Sums.{lookup_none, lookup_is, lookup_plus}
use Rattle.std.specs.Int.{◌∣◌}
use Rattle.std.proofs.lemmas.Nat.Gcd.{le_of_dvd}
use Rattle.lt_num.specs.Divisors.{DividesEach, IsGcdOf}
use Rattle.lt_tableau.proofs.Starts.{lookup_past}

zeros_last : (n : ℕ) → zeros (suc n) ≡ zeros n ++ pos 0 ∷ []
zeros_last zero = refl
zeros_last (suc n) = ap (λ (xs : List ℤ). pos 0 ∷ xs) (zeros_last n)

pub zeros_more : (n : ℕ) → zeros (n + 1) ≡ zeros n ++ pos 0 ∷ []
zeros_more n = rw add-one (zeros_last n)

pub lookup_zeros : (n q : ℕ) → lookup (zeros n) q ≡ pos 0
lookup_zeros zero q = lookup_none q
lookup_zeros (suc n) zero = refl
lookup_zeros (suc n) (suc q) = lookup_zeros n q

-- one number more
pub add_step : (old xs : List ℤ) (f : ℕ → ℤ) (i : ℕ) (v : ℤ) → i < length xs → length xs ≡ length old → ((q : ℕ) → q < i → lookup xs q ≡ lookup old q +ℤ f q) → ((q : ℕ) → i ≤ q → lookup xs q ≡ lookup old q) → v ≡ lookup old i +ℤ f i →
    record { size : length (set xs i v) ≡ length old; done : (q : ℕ) → q < i + 1 → lookup (set xs i v) q ≡ lookup old q +ℤ f q; rest : (q : ℕ) → i + 1 ≤ q → lookup (set xs i v) q ≡ lookup old q }
add_step old xs f i v h s d r e = record {
  size = length-set xs i v ∙ s;
  done = λ q l. pick q l (ℕ_discrete q i);
  rest = λ q l. other q (λ z. absurd (omega arith)) ∙ r q (omega arith);
}
  where
    own : lookup (set xs i v) i ≡ v
    own = lookup_is (set xs i v) i ∙ get_or-set_same xs i v (pos 0) h

    other : (q : ℕ) → (q ≡ i → ⊥) → lookup (set xs i v) q ≡ lookup xs q
    other q n = lookup_is (set xs i v) q ∙ get_or-set_other xs i q v (pos 0) n ∙ sym (lookup_is xs q)

    pick : (q : ℕ) → q < i + 1 → Dec (q ≡ i) → lookup (set xs i v) q ≡ lookup old q +ℤ f q
    pick q l (yes z) = rw z (own ∙ e)
    pick q l (no z) = other q z ∙ d q (omega arith)

pub sum_size : (x y : ℤ) (count : ℕ) → count < 2 ^ 60 → nat_abs x ≤ count * 2 ^ 62 → nat_abs y < 2 ^ 62 → record { fits : FitsSigned w128 (x +ℤ y); small : nat_abs (x +ℤ y) ≤ (count + 1) * 2 ^ 62 }
sum_size x y count h k l =
    let a : nat_abs (x +ℤ y) ≤ nat_abs x + nat_abs y = omega (arith, ints) in
    record { fits = fits_signed_from_abs w128 (x +ℤ y) (omega arith); small = omega arith }

pub small_at : (ys : List ℤ) → All (λ x. nat_abs x < 2 ^ 62) ys → (q : ℕ) → nat_abs (lookup ys q) < 2 ^ 62
small_at ys h q = pick (dec_le (length ys) q)
  where
    pick : Dec (length ys ≤ q) → nat_abs (lookup ys q) < 2 ^ 62
    pick (yes l) = rw (lookup_past ys q l) (omega arith)
    pick (no l) = rw (lookup_is ys q) (h q (pos 0) (omega arith))

-- ---- one row more
next_rows : (n : ℕ) (rows : List Row) (k : ℕ) (r : Row) → k < length rows → sum_of_walls n (drop k rows) ≡ plus (wall_or_none (get_or rows k r).verdict) (sum_of_walls n (drop (k + 1) rows))
next_rows n rows k r h = rw (add-one k, drop-cons rows k r h) refl

pub wall_step : (n : ℕ) (rows : List Row) (k : ℕ) (r : Row) (w : List ℤ) (old new : ℕ → ℤ) → k < length rows → (get_or rows k r).verdict ≡ wall w → ((q : ℕ) → old q +ℤ lookup (sum_of_walls n (drop k rows)) q ≡ lookup (sum_of_walls n rows) q) → ((q : ℕ) → new q ≡ old q +ℤ lookup w q) → (q : ℕ) → new q +ℤ lookup (sum_of_walls n (drop (k + 1) rows)) q ≡ lookup (sum_of_walls n rows) q
wall_step n rows k r w old new h v s m q =
    let a : lookup (sum_of_walls n (drop k rows)) q ≡ lookup w q +ℤ lookup (sum_of_walls n (drop (k + 1) rows)) q = ap (λ (x : List ℤ). lookup x q) (next_rows n rows k r h ∙ ap (λ (u : Verdict). plus (wall_or_none u) (sum_of_walls n (drop (k + 1) rows))) v) ∙ lookup_plus w (sum_of_walls n (drop (k + 1) rows)) q in
    let b = s q in
    let c = m q in
    omega (arith, ints, a, b, c)

pub none_step : (n : ℕ) (rows : List Row) (k : ℕ) (r : Row) (f : ℤ) (ts : List (ℕ × ℤ)) → k < length rows → (get_or rows k r).verdict ≡ combination f ts → sum_of_walls n (drop k rows) ≡ sum_of_walls n (drop (k + 1) rows)
none_step n rows k r f ts h v = next_rows n rows k r h ∙ ap (λ (u : Verdict). plus (wall_or_none u) (sum_of_walls n (drop (k + 1) rows))) v

-- ---- the length of the sum
pub long_sum : (n : ℕ) (rows : List Row) → ((k : ℕ) (r : Row) (w : List ℤ) → k < length rows → (get_or rows k r).verdict ≡ wall w → length w ≡ n) → length (sum_of_walls n rows) ≡ n
long_sum n [] h = length-zeros n
long_sum n (r ∷ rows) h = with_row r.verdict refl (long_sum n rows (λ k s w l e. h (suc k) s w (omega arith) e))
  where
    with_row : (v : Verdict) → r.verdict ≡ v → length (sum_of_walls n rows) ≡ n → length (plus (wall_or_none r.verdict) (sum_of_walls n rows)) ≡ n
    with_row (combination f ts) e s = rw e s
    with_row (wall w) e s = let l = h 0 r w (omega arith) e in rw e (length-plus w (sum_of_walls n rows) (l ∙ sym s) ∙ l)

-- ---- the greatest common divisor of numbers below 2^92
divides_at : (g : ℕ) (xs : List ℤ) (q : ℕ) → lookup xs q ≢ pos 0 → DividesEach g xs → g ∣ nat_abs (lookup xs q)
divides_at g [] q h d = absurd (h (lookup_none q))
divides_at g (x ∷ xs) zero h d = d.0
divides_at g (x ∷ xs) (suc q) h d = divides_at g xs q h d.1

pub below_at : (n : ℕ) → 0 < n → (ys : List ℤ) → AreBelow n ys → (q : ℕ) → nat_abs (lookup ys q) < n
below_at n p ys h q = pick (dec_le (length ys) q)
  where
    pick : Dec (length ys ≤ q) → nat_abs (lookup ys q) < n
    pick (yes l) = rw (lookup_past ys q l) (omega arith)
    pick (no l) = rw (lookup_is ys q) (h q (pos 0) (omega arith))

pub not_large : (xs : List ℤ) (q : ℕ) → lookup xs q ≢ pos 0 → AreBelow (2 ^ 92) xs → IsGcdOf xs (2 ^ 127) → ⊥
not_large xs q h l g =
    let s = below_at (2 ^ 92) (omega arith) xs l q in
    let some : 0 < nat_abs (lookup xs q) = omega (arith, ints, h) in
    let d : 2 ^ 127 ≤ nat_abs (lookup xs q) = le_of_dvd some (divides_at (2 ^ 127) xs q h g.divides) in
    absurd (omega arith)

-- numbers one by one
pub below_from : (n : ℕ) (xs : List ℤ) → ((q : ℕ) → nat_abs (lookup xs q) < n) → AreBelow n xs
below_from n [] h k x l = absurd (omega arith)
below_from n (y ∷ xs) h zero x l = h 0
below_from n (y ∷ xs) h (suc k) x l = below_from n xs (λ q. h (suc q)) k x (omega arith)

pub no_more : (n : ℕ) (rows : List Row) (k q : ℕ) → length rows ≤ k → lookup (sum_of_walls n (drop k rows)) q ≡ pos 0
no_more n [] zero q h = lookup_zeros n q
no_more n [] (suc k) q h = lookup_zeros n q
no_more n (r ∷ rows) zero q h = absurd (omega arith)
no_more n (r ∷ rows) (suc k) q h = no_more n rows k q (omega arith)
