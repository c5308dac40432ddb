-- The excess of a point, number by number.
use Rattle.std.specs.Prelude.{ℕ, ℤ, ◌*ℤ◌, ◌-ℤ◌, List, map}
use Rattle.lt_model.specs.Vectors.{dot}
use Rattle.lt_model.specs.Facets.{number_at}

-- the product of two coordinates
abbrev pub product_at : ℕ → ℕ → List ℤ → ℤ
product_at i j x = number_at i x *ℤ number_at j x

-- the number of the excess of w over s at a pair of coordinates
abbrev pub excess_at : ℕ → ℕ → List (List ℤ) → List ℤ → ℤ → List ℤ → ℤ
excess_at i j s w c b = c *ℤ product_at i j w -ℤ dot b (map (product_at i j) s)
