-- How far points lie from 0 and from one another.
use Rattle.std.specs.Prelude.{ℕ, ℤ, List}
use Rattle.std.specs.List.{All, AllByRecursion, Contains}
use Rattle.lt_model.specs.Vectors.{minus}
use Rattle.lt_lattice.specs.Ranges.{IsWithin}

-- every coordinate of every point is at most m in absolute value
abbrev pub AreWithin : ℕ → List (List ℤ) → Type 0
AreWithin m vs = AllByRecursion (All (IsWithin m)) vs

-- two of the points differ by at most m in each coordinate
abbrev pub AreNear : ℕ → List (List ℤ) → Type 0
AreNear m ps = (x y : List ℤ) → Contains ps x → Contains ps y → All (IsWithin m) (minus x y)
