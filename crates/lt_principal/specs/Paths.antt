-- All paths of steps along different coordinates, in ascending order.
use Rattle.std.specs.Prelude.{ℕ, zero, suc, ℤ, pos, negsuc, List, [], ◌∷◌, ◌++◌, ◌-◌, map, length, get_or}
use Rattle.arrayvec.specs.ArrayVec.{ArrayVec}
use Rattle.lt_model.specs.Vectors.{plus, unit}
use Rattle.lt_model.specs.Facets.{number_at}

-- the points of each list
abbrev pub points_of : List (ArrayVec (List ℤ)) → List (List (List ℤ))
points_of classes = map (λ c. c.items) classes

-- the last of the points
abbrev pub last_point : List (List ℤ) → List ℤ
last_point path = get_or path (length path - 1) []

-- the list where the number is 0, and none where it isn't
abbrev pub when_zero : ℤ → List (List (List ℤ)) → List (List (List ℤ))
when_zero (pos zero) all = all
when_zero (pos (suc n)) all = []
when_zero (negsuc n) all = []

-- the ways on from x by a step along a coordinate below k where x is 0, the last coordinate first
abbrev pub ways_below : ℕ → (List ℤ → List (List (List ℤ))) → List ℤ → ℕ → List (List (List ℤ))
ways_below d rest x zero = []
ways_below d rest x (suc k) =
    when_zero (number_at k x) (map (λ t. plus x (unit d k) ∷ t) (rest (plus x (unit d k)))) ++ ways_below d rest x k

-- the ways on from x by n steps along different coordinates, without x
abbrev pub ways : ℕ → ℕ → List ℤ → List (List (List ℤ))
ways d zero x = [] ∷ []
ways d (suc n) x = ways_below d (ways d n) x d

-- the path before each of the ways
abbrev pub before_each : List (List ℤ) → List (List (List ℤ)) → List (List (List ℤ))
before_each path [] = []
before_each path (t ∷ all) = (path ++ t) ∷ before_each path all
