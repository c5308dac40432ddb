-- The lengths of forms and of matrices.
use Rattle.std.proofs.Common.{◌≡◌, ℕ, zero, suc, ◌<◌, ◌≤◌, ◌*◌, arith, sym, ◌∙◌, List, ℤ, length, inl, inr, mul-le-mul}
use Rattle.std.proofs.lemmas.Bool.{cases_lt}
use Rattle.lt_model.specs.Matrices.{times}
use Rattle.lt_model.specs.Flat.{rows, flat}
use Rattle.lt_model.specs.Forms.{numbers_of_form}
use Rattle.lt_lattice.specs.Ranges.{IsFormLength, IsSquareLength}

-- a form in 2 to 6 variables has one of five lengths
pub form_length : (d n : ℕ) → 2 ≤ d → d ≤ 6 → n ≡ numbers_of_form d → IsFormLength n
form_length zero n p q h = absurd (omega arith)
form_length (suc zero) n p q h = absurd (omega arith)
form_length (suc (suc zero)) n p q h = inl h
form_length (suc (suc (suc zero))) n p q h = inr (inl h)
form_length (suc (suc (suc (suc zero)))) n p q h = inr (inr (inl h))
form_length (suc (suc (suc (suc (suc zero))))) n p q h = inr (inr (inr (inl h)))
form_length (suc (suc (suc (suc (suc (suc zero)))))) n p q h = inr (inr (inr (inr h)))
form_length (suc (suc (suc (suc (suc (suc (suc d))))))) n p q h = absurd (omega arith)

-- no form in at most 6 variables has more than 21 numbers
pub at_most_21 : (m : ℕ) → m ≤ 6 → numbers_of_form m ≤ 21
at_most_21 zero h = omega arith
at_most_21 (suc zero) h = omega arith
at_most_21 (suc (suc zero)) h = omega arith
at_most_21 (suc (suc (suc zero))) h = omega arith
at_most_21 (suc (suc (suc (suc zero)))) h = omega arith
at_most_21 (suc (suc (suc (suc (suc zero))))) h = omega arith
at_most_21 (suc (suc (suc (suc (suc (suc zero)))))) h = omega arith
at_most_21 (suc (suc (suc (suc (suc (suc (suc m))))))) h = absurd (omega arith)

-- a matrix of 2 to 6 rows has one of five lengths
pub square_length : (d n : ℕ) → 2 ≤ d → d ≤ 6 → n ≡ d * d → IsSquareLength n
square_length zero n p q h = absurd (omega arith)
square_length (suc zero) n p q h = absurd (omega arith)
square_length (suc (suc zero)) n p q h = inl h
square_length (suc (suc (suc zero))) n p q h = inr (inl h)
square_length (suc (suc (suc (suc zero)))) n p q h = inr (inr (inl h))
square_length (suc (suc (suc (suc (suc zero))))) n p q h = inr (inr (inr (inl h)))
square_length (suc (suc (suc (suc (suc (suc zero)))))) n p q h = inr (inr (inr (inr h)))
square_length (suc (suc (suc (suc (suc (suc (suc d))))))) n p q h = absurd (omega arith)

pub at_most_36 : (d : ℕ) → d ≤ 6 → d * d ≤ 36
at_most_36 d h = mul-le-mul h h

larger_square : (m n : ℕ) → m < n → m * m < n * n
larger_square m n h = let k : suc m * suc m ≤ n * n = mul-le-mul h h in omega (arith, k)

-- the number of rows is known by that of the numbers
pub same_side : (m n : ℕ) → m * m ≡ n * n → m ≡ n
same_side m n h =
    elim (cases_lt m n) [
      | inl l ↦ let k = larger_square m n l in absurd (omega (arith, h, k))
      | inr l ↦ elim (cases_lt n m) [ inl r ↦ let k = larger_square n m r in absurd (omega (arith, h, k)) | inr r ↦ omega (arith, l, r) ]
    ]

-- the product of two matrices, whichever way their size is told
pub product_at : (m d : ℕ) (u v all : List ℤ) → length u ≡ m * m → length u ≡ d * d → all ≡ flat (times (rows m u) (rows m v)) → all ≡ flat (times (rows d u) (rows d v))
product_at m d u v all hm hd h = let e : m ≡ d = same_side m d (sym hm ∙ hd) in rw e at h
