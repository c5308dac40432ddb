-- The first laws of forms, excesses and expressions.
use Rattle.std.specs.Prelude.{ℕ, ℤ, pos, ◌+ℤ◌, ◌*ℤ◌, List, ◌≡◌, length}
use Rattle.lt_model.specs.Vectors.{plus, minus, scale, dot}
use Rattle.lt_model.specs.Forms.{value}
use Rattle.lt_model.specs.Simplices.{AllOfDimension, IsSimplex, IsExpression, excess, translate}

-- N(Q) is linear in Q
abbrev pub NormalsAreLinear : Type 0
NormalsAreLinear =
    ((n q r : List ℤ) → dot n (plus q r) ≡ dot n q +ℤ dot n r)
    × ((n : List ℤ) (k : ℤ) (q : List ℤ) → dot n (scale k q) ≡ k *ℤ dot n q)

-- Q[x] is linear in Q
abbrev pub ValuesAreLinear : Type 0
ValuesAreLinear =
    ((q r x : List ℤ) → value (plus q r) x ≡ value q x +ℤ value r x)
    × ((k : ℤ) (q x : List ℤ) → value (scale k q) x ≡ k *ℤ value q x)

-- Q[x + y] + Q[x - y] = 2 Q[x] + 2 Q[y]
abbrev pub ParallelogramLaw : Type 0
ParallelogramLaw =
    (q x y : List ℤ) → length x ≡ length y → value q (plus x y) +ℤ value q (minus x y)
    ≡ pos 2 *ℤ value q x +ℤ pos 2 *ℤ value q y

-- an excess stays the same where simplex and point are moved together
abbrev pub ExcessesMoveAlong : Type 0
ExcessesMoveAlong =
    (d : ℕ) (q : List ℤ) (vs : List (List ℤ)) (x t : List ℤ) (c : ℤ) (b : List ℤ) → AllOfDimension d vs → length x ≡ d
    → length t ≡ d → IsExpression vs x c b →
    excess q (translate t vs) (plus x t) c b ≡ excess q vs x c b

-- two expressions of one point over a simplex are multiples of each other
abbrev pub ExpressionsAreProportional : Type 0
ExpressionsAreProportional =
    (d : ℕ) (vs : List (List ℤ)) (x : List ℤ) (c c' : ℤ) (b b' : List ℤ) → IsSimplex d vs → IsExpression vs x c b
    → IsExpression vs x c' b' → scale c' b ≡ scale c b'
