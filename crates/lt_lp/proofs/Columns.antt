-- Sums of sums, and numbers of lists filled with zeros.
use Rattle.std.proofs.Common.{◌≡◌, refl, sym, ◌∙◌, ap, arith, ℕ, zero, suc, ◌<◌, ℤ, pos, ◌+ℤ◌, ◌*ℤ◌, List}
use Rattle.std.proofs.lemmas.Int.{ints}
use Rattle.lt_model.specs.Padded.{lookup, tail_z}
use Rattle.lt_model.proofs.Integers.{mul_zero_z, mul_add_z}
use Rattle.lt_tableau.specs.Numbers.{sum_below}
use Rattle.lt_lattice.specs.Points.{filled}

pub sum_below_add : (n : ℕ) (f g : ℕ → ℤ) → sum_below n (λ (i : ℕ). f i +ℤ g i) ≡ sum_below n f +ℤ sum_below n g
sum_below_add zero f g = refl
sum_below_add (suc n) f g = let e = sum_below_add n (λ (i : ℕ). f (suc i)) (λ (i : ℕ). g (suc i)) in omega (arith, ints)

pub sum_below_scale : (n : ℕ) (k : ℤ) (f : ℕ → ℤ) → sum_below n (λ (i : ℕ). k *ℤ f i) ≡ k *ℤ sum_below n f
sum_below_scale zero k f = sym (mul_zero_z k)
sum_below_scale (suc n) k f = let e = sum_below_scale n k (λ (i : ℕ). f (suc i)) in rw e (sym (mul_add_z k (f zero) (sum_below n (λ (i : ℕ). f (suc i)))))

sum_below_zero : (n : ℕ) → sum_below n (λ (i : ℕ). pos 0) ≡ pos 0
sum_below_zero zero = refl
sum_below_zero (suc n) = let e = sum_below_zero n in omega (arith, ints)

-- the order of a double sum is free
pub sum_below_swap : (n m : ℕ) (f : ℕ → ℕ → ℤ) → sum_below n (λ (i : ℕ). sum_below m (λ (j : ℕ). f i j)) ≡ sum_below m (λ (j : ℕ). sum_below n (λ (i : ℕ). f i j))
sum_below_swap zero m f = sym (sum_below_zero m)
sum_below_swap (suc n) m f =
    ap (λ (x : ℤ). sum_below m (λ (j : ℕ). f zero j) +ℤ x) (sum_below_swap n m (λ (i : ℕ). f (suc i)))
    ∙ sym (sum_below_add m (λ (j : ℕ). f zero j) (λ (j : ℕ). sum_below n (λ (i : ℕ). f (suc i) j)))

pub filled_in : (w : ℕ) (x : List ℤ) (i : ℕ) → i < w → lookup (filled w x) i ≡ lookup x i
filled_in zero x i h = absurd (omega arith)
filled_in (suc w) x zero h = refl
filled_in (suc w) x (suc i) h = filled_in w (tail_z x) i (omega arith)
