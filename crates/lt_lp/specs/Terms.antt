-- The values of the columns of a tableau, and the terms that they give.
use Rattle.std.specs.Prelude.{ℕ, zero, suc, ℤ, pos, negsuc, ◌-◌, ◌-ℤ◌, ◌≡◌, List, [], ◌∷◌, cond, nat_eq, nat_lt}
use Rattle.lt_tableau.specs.Numbers.{sum_below}
use Rattle.lt_model.specs.Cones.{Verdict, wall, combination, coefficients, places}
use Rattle.lt_tableau.specs.Table.{Table, right_of, basic_of, units_of}
use Rattle.lt_lp.specs.Reduced.{IsReduced}

-- the value of the column's variable, over the denominator
abbrev pub value_of : Table → ℕ → ℤ
value_of t column = sum_below t.rows (λ (row : ℕ). cond (nat_eq (basic_of t row) column) (right_of t row) (pos 0))

-- the place of the column among all normals, where the k-th is left out
abbrev pub place_of : ℕ → ℕ → ℕ
place_of k column = cond (nat_lt column k) column (suc column)

-- a term more in front, unless its number is 0
abbrev pub with_term : ℕ → ℤ → List (ℕ × ℤ) → List (ℕ × ℤ)
with_term place (pos zero) terms = terms
with_term place (pos (suc n)) terms = (place, pos (suc n)) ∷ terms
with_term place (negsuc n) terms = (place, negsuc n) ∷ terms

-- the terms of m columns, from the column c on, with the numbers f
abbrev pub terms_from : ℕ → (ℕ → ℤ) → ℕ → ℕ → List (ℕ × ℤ)
terms_from k f c zero = []
terms_from k f c (suc m) = with_term (place_of k c) (f c) (terms_from k f (suc c) m)

-- the terms of the columns before p
abbrev pub terms_of : ℕ → Table → List (ℕ × ℤ)
terms_of k t = terms_from k (value_of t) 0 (units_of t - 2)

-- the value of p less that of q
abbrev pub scale_of : Table → ℤ
scale_of t = value_of t (units_of t - 2) -ℤ value_of t (units_of t - 1)

-- the combination of the values, over their greatest common divisor
abbrev pub IsCombinationOf : ℕ → Table → Verdict → Type 0
IsCombinationOf k t (wall w) = ⊥
IsCombinationOf k t (combination factor terms) = (places terms ≡ places (terms_of k t)) × IsReduced (scale_of t ∷ coefficients (terms_of k t)) (factor ∷ coefficients terms)
