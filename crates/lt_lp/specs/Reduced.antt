-- Lists divided by their greatest common divisor.
use Rattle.std.specs.Prelude.{ℕ, ◌<◌, ℤ, pos, ◌≡◌, List}
use Rattle.lt_model.specs.Vectors.{scale, IsPrimitive}

-- ys is primitive, and xs is a positive multiple of it
pub record IsReduced (xs ys : List ℤ) : Type 0 where
  pub factor : ℕ
  pub some : 0 < factor
  pub times : xs ≡ scale (pos factor) ys
  pub primitive : IsPrimitive ys
