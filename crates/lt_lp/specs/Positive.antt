-- Forms that are positive at all normals of a list.
use Rattle.std.specs.Prelude.{ℕ, ℤ, pos, ◌<ℤ◌, ◌<◌, List, [], length, get_or}
use Rattle.lt_model.specs.Vectors.{dot}

-- each normal is positive at the form
abbrev pub IsPositiveAt : List ℤ → List (List ℤ) → Type 0
IsPositiveAt form ns = (i : ℕ) → i < length ns → pos 0 <ℤ dot (get_or ns i []) form
