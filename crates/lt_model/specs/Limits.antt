-- Span, weight and the limits on them; all of them are this project's own.
use Rattle.std.specs.Prelude.{ℕ, suc, ◌*◌, ◌^◌, max, min, cond, nat_le, ℤ, nat_abs, List, [], ◌∷◌, map, take}
use Rattle.lt_model.specs.Vectors.{minus, dot}
use Rattle.lt_model.specs.Forms.{numbers_of_form}

-- the greatest of the numbers, 0 where there is none
abbrev pub greatest : List ℕ → ℕ
greatest [] = 0
greatest (x ∷ xs) = max x (greatest xs)

-- the greatest absolute difference of two points in one coordinate
abbrev pub gap : List ℤ → List ℤ → ℕ
gap x y = greatest (map nat_abs (minus x y))

-- the greatest gap of two vertices
abbrev pub class_span : List (List ℤ) → ℕ
class_span s = greatest (map (λ v. greatest (map (gap v) s)) s)

-- the greatest span of a member
abbrev pub span : List (List (List ℤ)) → ℕ
span t = greatest (map class_span t)

-- the product of the numbers
abbrev pub product : List ℕ → ℕ
product [] = 1
product (x ∷ xs) = x * product xs

-- x among numbers that descend
abbrev pub put : ℕ → List ℕ → List ℕ
put x [] = x ∷ []
put x (y ∷ ys) = cond (nat_le y x) (x ∷ y ∷ ys) (y ∷ put x ys)

-- the numbers in descending order
abbrev pub descending : List ℕ → List ℕ
descending [] = []
descending (x ∷ xs) = put x (descending xs)

-- the product of the n + 1 greatest of the sums of squared coefficients, plus 1, and at most 2^120
abbrev pub weight : ℕ → List (List ℤ) → ℕ
weight d ns = min (2 ^ 120) (product (take (suc (numbers_of_form d)) (descending (map (λ n. suc (nat_abs (dot n n))) ns))))

-- the greatest span limit, which is that of the lowest dimension
abbrev pub widest : ℕ
widest = 400

-- the greatest span of an entry of an atlas of dimension d
abbrev pub span_limit : ℕ → ℕ
span_limit d = cond (nat_le d 5) widest 100

-- the greatest step limit, which is that of the lowest dimension
abbrev pub most_steps : ℕ
most_steps = 100000

-- the greatest step limit of a run in dimension d
abbrev pub step_limit : ℕ → ℕ
step_limit d = cond (nat_le d 5) most_steps 2000

-- the greatest number of bytes of an input of dimension d
abbrev pub input_limit : ℕ → ℕ
input_limit d = cond (nat_le d 5) (2 ^ 26) (2 ^ 30)

-- the weight of an entry is below this
abbrev pub weight_limit : ℕ
weight_limit = 2 ^ 112
