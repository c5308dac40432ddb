-- Where a form lies as seen from a triangulation.
use Rattle.std.specs.Prelude.{ℕ, ℤ, pos, ◌<ℤ◌, ◌≤ℤ◌, ◌<◌, ◌≡◌, List, [], length, get_or}
use Rattle.lt_model.specs.Vectors.{dot}
use Rattle.lt_model.specs.Forms.{value}
use Rattle.lt_model.specs.Walls.{IsFacet}
use Rattle.lt_laws.specs.Facets.{IsInside}
use Rattle.lt_locate.specs.declared.sides.Side.{Side}
use Rattle.lt_locate.specs.declared.sides.Side.TheVariants.{Inside, Beyond}
use Rattle.lt_locate.specs.declared.sides.Off.{Off}
use Rattle.lt_locate.specs.declared.sides.Off.TheVariants.{NotPositive, Heavy, OnWall, Memory}
use Rattle.lt_locate.specs.Firsts.{IsFirst}
use Rattle.lt_locate.specs.Walks.{IsNegativeFacet, IsZeroFacet}
use Rattle.lt_locate.specs.Endings.{IsBadEdge, IsHeavy, AreEdgesPositive, IsOpen}

-- x is the first point of the list at which q isn't positive
pub record IsFirstPoint (q : List ℤ) (xs : List (List ℤ)) (x : List ℤ) : Type 0 where
  pub place : ℕ
  pub within : place < length xs
  pub is : x ≡ get_or xs place []
  pub bad : value q (get_or xs place []) ≤ℤ pos 0
  pub before : (j : ℕ) → j < place → pos 0 <ℤ value q (get_or xs j [])

abbrev pub IsSide : ℕ → List (List (List ℤ)) → List ℤ → Side → Type 0
IsSide d t q Inside = IsOpen d t q × IsInside d t q
IsSide d t q (Beyond n) = IsOpen d t q × IsFirst (IsNegativeFacet d t q) n

abbrev pub IsOff : ℕ → List (List (List ℤ)) → List ℤ → Off → Type 0
IsOff d t q (NotPositive x) = IsFirst (IsBadEdge d t q) x
IsOff d t q (Heavy w) = AreEdgesPositive d t q × IsHeavy d t w
IsOff d t q (OnWall n) = IsOpen d t q × ((m : List ℤ) → IsFacet d t m → pos 0 ≤ℤ dot m q)
    × IsFirst (IsZeroFacet d t q) n
IsOff d t q Memory = Unit
