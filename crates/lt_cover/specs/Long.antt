-- Edges with a value above the span limit.
use Rattle.std.specs.Prelude.{ℕ, ℤ, pos, ◌<ℤ◌, ◌≤ℤ◌, ◌<◌, ◌≡◌, List, [], length, get_or}
use Rattle.lt_model.specs.Forms.{value}
use Rattle.lt_model.specs.Limits.{span_limit}
use Rattle.lt_laws.specs.Edges.{IsEdge}
use Rattle.lt_locate.specs.Firsts.{IsFirst}
use Rattle.lt_cover.specs.declared.answers.CoverError.{CoverError}
use Rattle.lt_cover.specs.declared.answers.CoverError.TheVariants.{LongEdge, Memory}

-- an edge with a value above the span limit
abbrev pub IsLongEdge : ℕ → List ℤ → List (List (List ℤ)) → List ℤ → Type 0
IsLongEdge d q t x = IsEdge d t x × (pos (span_limit d) <ℤ value q x)

-- LongEdge names the first such edge and its value; Memory says nothing
abbrev pub IsLong : ℕ → List ℤ → List (List (List ℤ)) → CoverError → Type 0
IsLong d q t (LongEdge x l) = IsFirst (IsLongEdge d q t) x × (l ≡ value q x)
IsLong d q t Memory = Unit

-- the first m points are within the limit
abbrev pub AreShortAt : ℕ → List ℤ → List (List ℤ) → ℕ → Type 0
AreShortAt d q xs m = (k : ℕ) → k < m → value q (get_or xs k []) ≤ℤ pos (span_limit d)

-- x is the first point of the list above the limit, and l its value
pub record IsFirstLong (d : ℕ) (q : List ℤ) (xs : List (List ℤ)) (x : List ℤ) (l : ℤ) : Type 0 where
  pub place : ℕ
  pub within : place < length xs
  pub is : x ≡ get_or xs place []
  pub long : pos (span_limit d) <ℤ value q (get_or xs place [])
  pub before : AreShortAt d q xs place
  pub value_is : l ≡ value q x

abbrev pub IsLongAt : ℕ → List ℤ → List (List ℤ) → CoverError → Type 0
IsLongAt d q xs (LongEdge x l) = IsFirstLong d q xs x l
IsLongAt d q xs Memory = ⊥
