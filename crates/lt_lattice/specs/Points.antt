-- How a point is kept: its coordinates, and zeros behind them.
use Rattle.std.specs.Prelude.{ℕ, zero, suc, ℤ, List, [], ◌∷◌, ◌≡◌, ◌≤◌, ◌^◌, take}
use Rattle.std.specs.List.{All}
use Rattle.lt_model.specs.Padded.{head_z, tail_z}
use Rattle.lt_lattice.specs.Ranges.{IsWithin}

-- the first m numbers of the list, with zeros where it has none
abbrev pub filled : ℕ → List ℤ → List ℤ
filled zero xs = []
filled (suc m) xs = head_z xs ∷ filled m (tail_z xs)

-- six numbers are d coordinates and zeros
pub record IsPoint (d : ℕ) (xs : List ℤ) : Type 0 where
  pub low : 2 ≤ d
  pub high : d ≤ 6
  pub padded : xs ≡ filled 6 (take d xs)
  pub within : All (IsWithin (2 ^ 20)) (take d xs)
