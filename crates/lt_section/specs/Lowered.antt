-- Lists divided by their greatest common divisor, unless all of their numbers are 0.
use Rattle.std.specs.Prelude.{ℕ, ℤ, pos, ◌<◌, ◌≡◌, ◌⊎◌, List, length}
use Rattle.lt_model.specs.Vectors.{scale, zeros, IsPrimitive}

-- xs is a positive multiple of ys, and ys is primitive or a list of zeros
pub record IsLowered (xs ys : List ℤ) : Type 0 where
  pub factor : ℕ
  pub some : 0 < factor
  pub times : xs ≡ scale (pos factor) ys
  pub lowest : IsPrimitive ys ⊎ (ys ≡ zeros (length ys))
