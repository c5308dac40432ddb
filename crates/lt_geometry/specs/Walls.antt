-- Laws of wall forms and their empty ellipsoids.
use Rattle.std.specs.Prelude.{ℕ, suc, ℤ, pos, ◌+ℤ◌, ◌*ℤ◌, ◌<ℤ◌, ◌≤ℤ◌, ◌≤◌, List, length, ◌≡◌}
use Rattle.std.specs.List.{Contains}
use Rattle.std.specs.List.Sorted.{IsStrictlySortedBy}
use Rattle.lt_model.specs.Order.{number_list_cmp}
use Rattle.lt_model.specs.Vectors.{dot}
use Rattle.lt_model.specs.Forms.{value, IsPositiveDefinite}
use Rattle.lt_model.specs.Simplices.{AllOfDimension, IsExpression, excess}
use Rattle.lt_model.specs.Triangulations.{IsDelaunay}
use Rattle.lt_model.specs.Walls.{IsWallForm}

-- in dimension 2 and more the wall forms of a Delaunay triangulation are positive definite
abbrev pub WallFormsAreDefinite : Type 0
WallFormsAreDefinite = (d : ℕ) (a w n : List ℤ) (t : List (List (List ℤ))) → 2 ≤ d → IsDelaunay d a t
    → IsWallForm d t n w → IsPositiveDefinite d w

-- of the points that are no vertices of a member, at most one has the excess 0 at a wall form
abbrev pub OnePointOnEllipsoid : Type 0
OnePointOnEllipsoid =
    (d : ℕ) (a w n : List ℤ) (t : List (List (List ℤ))) (s : List (List ℤ)) → 2 ≤ d → IsDelaunay d a t
    → IsWallForm d t n w → Contains t s →
    (x x' : List ℤ) → length x ≡ d → length x' ≡ d → (Contains s x → ⊥) → (Contains s x' → ⊥)
    → (c c' : ℤ) (b b' : List ℤ) → IsExpression s x c b → IsExpression s x' c' b' →
    excess w s x c b ≡ pos 0 → excess w s x' c' b' ≡ pos 0 → x ≡ x'

-- the ellipsoid e W[x] = l x + k has no integer point inside
pub record IsEmptyEllipsoid (d : ℕ) (w : List ℤ) (e : ℤ) (l : List ℤ) (k : ℤ) : Type 0 where
  pub positive : pos 0 <ℤ e
  pub outside : (x : List ℤ) → length x ≡ d → (dot l x +ℤ k) ≤ℤ (e *ℤ value w x)

-- and goes through each of the points
pub record AreOnEllipsoid (d : ℕ) (w : List ℤ) (e : ℤ) (l : List ℤ) (k : ℤ) (ps : List (List ℤ)) : Type 0 where
  pub dimension : AllOfDimension d ps
  pub on : (x : List ℤ) → Contains ps x → e *ℤ value w x ≡ dot l x +ℤ k

-- on an empty ellipsoid of a wall form are at most d + 2 integer points
abbrev pub FewPointsOnEllipsoid : Type 0
FewPointsOnEllipsoid =
    (d : ℕ) (a w n : List ℤ) (t : List (List (List ℤ))) (e : ℤ) (l : List ℤ) (k : ℤ) (ps : List (List ℤ)) → 2 ≤ d
    → IsDelaunay d a t → IsWallForm d t n w → IsEmptyEllipsoid d w e l k →
    IsStrictlySortedBy number_list_cmp ps → AreOnEllipsoid d w e l k ps → length ps ≤ suc (suc d)
