-- Quadratic forms in d variables: the d (d + 1) / 2 numbers a_11 a_12 .. a_1d a_22 .. a_dd.
-- Schürmann, Computational Geometry of Positive Definite Quadratic Forms, chapter 1.
use Rattle.std.specs.Prelude.{ℕ, zero, suc, ◌+◌, ℤ, pos, ◌<ℤ◌, List, [], ◌∷◌, ◌++◌, length, ◌≡◌, ◌≢◌}
use Rattle.lt_model.specs.Vectors.{plus, scale, dot, zeros}

-- how many numbers a form has: d (d + 1) / 2
abbrev pub numbers_of_form : ℕ → ℕ
numbers_of_form zero = 0
numbers_of_form (suc d) = suc d + numbers_of_form d

-- the products x_i x_j with i <= j, in the order of a form's numbers
abbrev pub squares : List ℤ → List ℤ
squares [] = []
squares (x ∷ xs) = scale x (x ∷ xs) ++ squares xs

-- Q[x], the sum of the a_ij x_i x_j
abbrev pub value : List ℤ → List ℤ → ℤ
value q x = dot q (squares x)

-- the products x_i y_j + y_i x_j with i <= j, in the order of a form's numbers
abbrev pub cross : List ℤ → List ℤ → List ℤ
cross [] ys = []
cross (x ∷ xs) [] = []
cross (x ∷ xs) (y ∷ ys) = plus (scale x (y ∷ ys)) (scale y (x ∷ xs)) ++ cross xs ys

-- Q[x + y] - Q[x] - Q[y]
abbrev pub polar : List ℤ → List ℤ → List ℤ → ℤ
polar q x y = dot q (cross x y)

-- Q[x] > 0 for every integer point x but 0
pub record IsPositiveDefinite (d : ℕ) (q : List ℤ) : Type 0 where
  pub numbers : length q ≡ numbers_of_form d
  pub positive : (x : List ℤ) → length x ≡ d → x ≢ zeros d → pos 0 <ℤ value q x
