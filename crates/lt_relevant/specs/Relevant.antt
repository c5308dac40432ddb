-- Voronoi's relevant vectors of a form, one of each pair of opposite ones.
use Rattle.std.specs.Prelude.{ℕ, ℤ, negsuc, ◌≡◌, ◌⊎◌, List, length}
use Rattle.std.specs.List.{Contains}
use Rattle.lt_model.specs.Vectors.{scale, zeros}
use Rattle.lt_model.specs.Triangulations.{IsDelaunay}
use Rattle.lt_laws.specs.Edges.{AreOfOneParity, IsOnlyShortest}

-- a point of d coordinates that are not all even
pub record IsOdd (d : ℕ) (x : List ℤ) : Type 0 where
  pub dimension : length x ≡ d
  pub odd : AreOfOneParity d (zeros d) x → ⊥

-- the list has one point of the parity of y
pub record HasOne (d : ℕ) (vectors : List (List ℤ)) (y : List ℤ) : Type 0 where
  pub vector : List ℤ
  pub listed : Contains vectors vector
  pub parity : AreOfOneParity d vector y
  pub only : (x : List ℤ) → Contains vectors x → AreOfOneParity d x y → x ≡ vector

-- the list has one point of each parity but that of 0; each is the only shortest of its parity, and each other point
-- that is the only shortest of such a parity is the negative of a listed one
pub record AreRelevant (d : ℕ) (q : List ℤ) (vectors : List (List ℤ)) : Type 0 where
  pub odd : (x : List ℤ) → Contains vectors x → IsOdd d x
  pub one : (y : List ℤ) → IsOdd d y → HasOne d vectors y
  pub shortest : (x : List ℤ) → Contains vectors x → IsOnlyShortest d q x
  pub all : (x : List ℤ) → IsOdd d x → IsOnlyShortest d q x → Contains vectors x ⊎ Contains vectors (scale (negsuc 0) x)

-- this holds for each form with the triangulation t
abbrev pub AreRelevantOf : ℕ → List (List (List ℤ)) → List (List ℤ) → Type 0
AreRelevantOf d t vectors = (q : List ℤ) → IsDelaunay d q t → AreRelevant d q vectors
