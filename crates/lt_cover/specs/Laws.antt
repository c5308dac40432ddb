-- The greatest squared circumradius is the squared covering radius.
use Rattle.std.specs.Prelude.{ℕ, ℤ, pos, ◌*ℤ◌, ◌<ℤ◌, ◌≤ℤ◌, ◌≡◌, List, length}
use Rattle.lt_model.specs.Vectors.{minus, scale}
use Rattle.lt_model.specs.Forms.{value}
use Rattle.lt_model.specs.Triangulations.{IsDelaunay}
use Rattle.lt_num.specs.Fractions.{Ratio}
use Rattle.lt_cover.specs.Covers.{IsCover}

-- some integer point has at most the squared distance r from the rational point x / m
abbrev pub HasNearPoint : ℕ → List ℤ → Ratio → ℤ → List ℤ → Type 0
HasNearPoint d q r m x = (v : List ℤ) × (length v ≡ d) × ((r.den *ℤ value q (minus (scale m v) x)) ≤ℤ
    (r.num *ℤ (m *ℤ m)))

-- no integer point has less than the squared distance r from the rational point p / g
pub record IsDeepest (d : ℕ) (q : List ℤ) (r : Ratio) (g : ℤ) (p : List ℤ) : Type 0 where
  pub dimension : length p ≡ d
  pub multiple : pos 0 <ℤ g
  pub far : (v : List ℤ) → length v ≡ d → (r.num *ℤ (g *ℤ g)) ≤ℤ (r.den *ℤ value q (minus (scale g v) p))

-- r is the greatest squared distance of a rational point from the integer points
pub record IsCoveringRadius (d : ℕ) (q : List ℤ) (r : Ratio) : Type 0 where
  pub near : (m : ℤ) (x : List ℤ) → pos 0 <ℤ m → length x ≡ d → HasNearPoint d q r m x
  pub reached : (g : ℤ) × (p : List ℤ) × IsDeepest d q r g p

abbrev pub CoversAreCoveringRadii : Type 0
CoversAreCoveringRadii = (d : ℕ) (q : List ℤ) (t : List (List (List ℤ))) (r : Ratio) (k : ℕ) → IsDelaunay d q t
    → IsCover d q t r k → IsCoveringRadius d q r
