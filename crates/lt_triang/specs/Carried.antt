-- Walls that are taken over from a triangulation with classes in common.
use Rattle.std.specs.Prelude.{ℕ, ℤ, ◌<◌, ◌≡◌, List, [], length, get_or, Option}
use Rattle.std.specs.declared.option.Option.TheVariants.{Some, None}
use Rattle.lt_triang.specs.Walled.{IsWall, IsRow}
use Rattle.lt_triang.specs.declared.walls.Wall.{Wall}

-- a place among the classes `into` at which the class stands, or none
abbrev pub IsPlaceIn : List (List (List ℤ)) → List (List ℤ) → Option ℕ → Type 0
IsPlaceIn into s place = (n : ℕ) → place ≡ Some n → (n < length into) × (get_or into n [] ≡ s)

-- such a place for each class of `from`
pub record ArePlacesIn (from into : List (List (List ℤ))) (places : List (Option ℕ)) : Type 0 where
  pub count : length places ≡ length from
  pub each : (q : ℕ) (e : Option ℕ) → q < length from → IsPlaceIn into (get_or from q []) (get_or places q e)

-- w says what v says, of a neighbour at place m
pub record IsMoved (v : Wall) (m : ℕ) (w : Wall) : Type 0 where
  pub class : w.class ≡ m
  pub vertex : w.vertex ≡ v.vertex
  pub numbers : w.numbers.items ≡ v.numbers.items

-- the neighbour of v has a place, and w says of it what v says
pub record IsTakenOver (places : List (Option ℕ)) (v w : Wall) : Type 0 where
  pub place : ℕ
  pub known : get_or places v.class None ≡ Some place
  pub moved : IsMoved v place w

-- v is the wall of facet i of the class s in a list of classes whose places in t are known
abbrev pub IsKnownWall : ℕ → List (List (List ℤ)) → List (Option ℕ) → List (List ℤ) → ℕ → Wall → Type 0
IsKnownWall d t places s i v = (old : List (List (List ℤ))) × ArePlacesIn old t places × IsWall d old s i v

-- the walls of all facets of the class s in such a list
abbrev pub IsKnownRow : ℕ → List (List (List ℤ)) → List (Option ℕ) → List (List ℤ) → List Wall → Type 0
IsKnownRow d t places s row = (old : List (List (List ℤ))) × ArePlacesIn old t places × IsRow d old s row
