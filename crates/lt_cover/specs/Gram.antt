-- The products of vertices with one another, and classes whose edges are short.
use Rattle.std.specs.Prelude.{ℕ, ℤ, pos, ◌*◌, ◌≤◌, ◌≤ℤ◌, ◌^◌, List, map}
use Rattle.std.specs.List.{All, Contains}
use Rattle.lt_model.specs.Vectors.{minus}
use Rattle.lt_model.specs.Forms.{value, polar, IsPositiveDefinite}
use Rattle.lt_model.specs.Simplices.{IsClass}
use Rattle.lt_model.specs.Limits.{span_limit}
use Rattle.lt_lattice.specs.Ranges.{IsWithin}
use Rattle.lt_triang.specs.Bounds.{AreNear}

-- for each point a column of its products with all
abbrev pub gram : List ℤ → List (List ℤ) → List (List ℤ)
gram q vs = map (λ w. map (λ v. polar q v w) vs) vs

-- q is positive definite, and at most the span limit at each difference of two vertices of the class
pub record IsMeasured (d : ℕ) (q : List ℤ) (s : List (List ℤ)) : Type 0 where
  pub low : 2 ≤ d
  pub high : d ≤ 6
  pub «class» : IsClass d s
  pub near : AreNear (2 * span_limit d) s
  pub positive : IsPositiveDefinite d q
  pub within : All (IsWithin (2 ^ 40)) q
  pub short : (x y : List ℤ) → Contains s x → Contains s y → value q (minus x y) ≤ℤ pos (span_limit d)
