-- A multiple of a point as a sum of multiples of the vertices of a class.
use Rattle.std.specs.Prelude.{ℤ, List}

-- what the point is multiplied by, and a number for each vertex
pub record Expression : Type 0 where
  pub scale : ℤ
  pub coefficients : List ℤ
