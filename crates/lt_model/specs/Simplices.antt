-- Lattice simplices, their classes under translation, and empty ellipsoids.
-- Voronoi 1908; Schürmann, chapter 4.
use Rattle.std.specs.Prelude.{ℕ, suc, ℤ, pos, ◌-ℤ◌, ◌*ℤ◌, ◌<ℤ◌, ◌≤ℤ◌, List, [], map, ◌≡◌, ◌↔◌, length, get_or}
use Rattle.std.specs.List.{Contains, AllByRecursion}
use Rattle.std.specs.List.Sorted.{IsStrictlySortedBy}
use Rattle.lt_model.specs.Order.{number_list_cmp}
use Rattle.lt_model.specs.Vectors.{plus, scale, dot, zeros, total, combine}
use Rattle.lt_model.specs.Forms.{value}

-- every point has d coordinates
abbrev pub AllOfDimension : ℕ → List (List ℤ) → Type 0
AllOfDimension d vs = AllByRecursion (λ v. length v ≡ d) vs

-- no numbers but zeros with the sum 0 combine the points to 0
abbrev pub AreIndependent : ℕ → List (List ℤ) → Type 0
AreIndependent d vs =
    (b : List ℤ) → length b ≡ length vs → total b ≡ pos 0 → combine b vs ≡ zeros d → b ≡ zeros (length vs)

-- d + 1 affinely independent integer points
pub record IsSimplex (d : ℕ) (vs : List (List ℤ)) : Type 0 where
  pub count : length vs ≡ suc d
  pub points : AllOfDimension d vs
  pub independent : AreIndependent d vs

-- a simplex whose points ascend, the first of them 0
pub record IsClass (d : ℕ) (vs : List (List ℤ)) : Type 0 where
  pub simplex : IsSimplex d vs
  pub ascending : IsStrictlySortedBy number_list_cmp vs
  pub first : get_or vs 0 [] ≡ zeros d

-- the points moved by t
abbrev pub translate : List ℤ → List (List ℤ) → List (List ℤ)
translate t vs = map (λ v. plus v t) vs

-- the class s is that of the points: a translate of it has the same points
pub record IsClassOf (d : ℕ) (points s : List (List ℤ)) : Type 0 where
  pub shift : List ℤ
  pub dimension : length shift ≡ d
  pub «class» : IsClass d s
  pub same : (x : List ℤ) → Contains points x ↔ Contains (translate shift s) x

-- c > 0, c x is the sum of the b_i v_i, and c is the sum of the b_i
pub record IsExpression (vs : List (List ℤ)) (x : List ℤ) (c : ℤ) (b : List ℤ) : Type 0 where
  pub positive : pos 0 <ℤ c
  pub one_each : length b ≡ length vs
  pub point : combine b vs ≡ scale c x
  pub sum : total b ≡ c

-- c Q[x] less the sum of the b_i Q[v_i]
abbrev pub excess : List ℤ → List (List ℤ) → List ℤ → ℤ → List ℤ → ℤ
excess q vs x c b = c *ℤ value q x -ℤ dot b (map (value q) vs)

-- every expression of every integer point has an excess of at least 0, and 0 only at vertices
pub record IsStrictlyEmpty (d : ℕ) (q : List ℤ) (vs : List (List ℤ)) : Type 0 where
  pub outside : (x : List ℤ) (c : ℤ) (b : List ℤ) → length x ≡ d → IsExpression vs x c b → pos 0 ≤ℤ excess q vs x c b
  pub touches : (x : List ℤ) (c : ℤ) (b : List ℤ) → length x ≡ d → IsExpression vs x c b → excess q vs x c b ≡ pos 0 → Contains vs x
