-- The circumradii of a Delaunay triangulation cover: each rational point is as near to an integer point as a
-- circumradius of some member.
use Rattle.std.specs.Prelude.{ℕ, ℤ, pos, ◌*ℤ◌, ◌<ℤ◌, ◌≤ℤ◌, List, length, ◌≡◌}
use Rattle.std.specs.List.{Contains}
use Rattle.lt_model.specs.Vectors.{plus, minus, scale}
use Rattle.lt_model.specs.Forms.{value}
use Rattle.lt_model.specs.Simplices.{AllOfDimension, translate}
use Rattle.lt_model.specs.Triangulations.{IsDelaunay}
use Rattle.lt_laws.specs.Circumradii.{IsCentre}

-- the centre moves along with the points, and the squared circumradius stays
abbrev pub CentresMoveAlong : Type 0
CentresMoveAlong =
    (d : ℕ) (q : List ℤ) (vs : List (List ℤ)) (n e g : ℤ) (c p : List ℤ) → AllOfDimension d vs → length p ≡ d
    → IsCentre d q vs n e g c → IsCentre d q (translate p vs) n e g (plus c (scale g p))

-- the translate of a member has a vertex whose squared distance from x / m is at most the squared circumradius n / e of
-- the member
pub record IsCovered (d : ℕ) (q : List ℤ) (t : List (List (List ℤ))) (m : ℤ) (x : List ℤ) : Type 0 where
  pub owner : List (List ℤ)
  pub member : Contains t owner
  pub n : ℤ
  pub e : ℤ
  pub g : ℤ
  pub centre : List ℤ
  pub is_centre : IsCentre d q owner n e g centre
  pub shift : List ℤ
  pub dimension : length shift ≡ d
  pub vertex : List ℤ
  pub is_vertex : Contains (translate shift owner) vertex
  pub near : (e *ℤ value q (minus (scale m vertex) x)) ≤ℤ (n *ℤ (m *ℤ m))

abbrev pub EachPointIsCovered : Type 0
EachPointIsCovered = (d : ℕ) (q : List ℤ) (t : List (List (List ℤ))) (m : ℤ) (x : List ℤ) → IsDelaunay d q t
    → pos 0 <ℤ m → length x ≡ d → IsCovered d q t m x

-- so where n / e is at least each squared circumradius, it is at least each squared distance from the integer points
abbrev pub GreatestRadiusCovers : Type 0
GreatestRadiusCovers =
    (d : ℕ) (q : List ℤ) (t : List (List (List ℤ))) (n e : ℤ) → IsDelaunay d q t → pos 0 <ℤ e →
    ((s : List (List ℤ)) (n' e' g : ℤ) (c : List ℤ) → Contains t s → IsCentre d q s n' e' g c → (n' *ℤ e) ≤ℤ (n *ℤ e'))
    → (m : ℤ) (x : List ℤ) → pos 0 <ℤ m → length x ≡ d →
    (v : List ℤ) × (length v ≡ d) × ((e *ℤ value q (minus (scale m v) x)) ≤ℤ (n *ℤ (m *ℤ m)))
