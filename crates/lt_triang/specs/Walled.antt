-- Neighbours as they are kept, in little room.
use Rattle.std.specs.Prelude.{ℕ, suc, ℤ, neg_ℤ, ◌<◌, ◌≡◌, ◌⊎◌, ◌∷◌, List, [], length, get_or, Option, MatchOption}
use Rattle.lt_model.specs.Facets.{without, with_at, number_at}
use Rattle.lt_model.specs.Vectors.{plus, minus}
use Rattle.lt_triang.specs.Across.{IsFacing, IsNotFacing, IsOpen, IsFirstAcross}
use Rattle.lt_triang.specs.Indexed.{AreNotFacing, IsOuterIn}
use Rattle.lt_triang.specs.declared.walls.Wall.{Wall}

-- all of the numbers, or none
abbrev pub AreKept : List ℤ → List ℤ → Type 0
AreKept all kept = (kept ≡ []) ⊎ (kept ≡ all)

-- the wall keeps the places, and the numbers of the expression where it can
pub record IsWallOf (m j : ℕ) (c : ℤ) (b : List ℤ) (w : Wall) : Type 0 where
  pub class : w.class ≡ m
  pub vertex : w.vertex ≡ j
  pub numbers : AreKept (c ∷ b) w.numbers.items

-- the place j and that of the vertex that lies outside are among those of the coefficients that are kept
abbrev pub HasPlaces : Wall → ℕ → Type 0
HasPlaces w j = (c : ℤ) (b : List ℤ) → w.numbers.items ≡ c ∷ b → (j < length b) × (w.vertex < length b)

-- v is seen from the other side: w is the wall of facet j of the class at place m, and its scale and the number at j change places
pub record IsMirrored (w : Wall) (m j : ℕ) (v : Wall) : Type 0 where
  pub scale : ℤ
  pub coefficients : List ℤ
  pub kept : w.numbers.items ≡ scale ∷ coefficients
  pub class : v.class ≡ m
  pub vertex : v.vertex ≡ j
  pub numbers : v.numbers.items ≡ neg_ℤ (number_at j coefficients) ∷ with_at w.vertex (neg_ℤ scale) (without j coefficients)

-- the shift that takes the first vertex of facet j of the class next to that of facet i of the class s
abbrev pub shift_to : List (List ℤ) → ℕ → List (List ℤ) → ℕ → List ℤ
shift_to s i next j = minus (get_or (without i s) 0 []) (get_or (without j next) 0 [])

-- vertex j of the class next, moved by that shift
abbrev pub vertex_to : List (List ℤ) → ℕ → List (List ℤ) → ℕ → List ℤ
vertex_to s i next j = plus (get_or next j []) (shift_to s i next j)

-- what the wall says of facet i of the class s: the first member across it, and, all or none of it, the expression of the outer vertex
pub record IsWall (d : ℕ) (t : List (List (List ℤ))) (s : List (List ℤ)) (i : ℕ) (w : Wall) : Type 0 where
  pub scale : ℤ
  pub coefficients : List ℤ
  pub first : IsFirstAcross d t s i w.class (shift_to s i (get_or t w.class []) w.vertex) w.vertex
  pub outer : IsOuterIn s (get_or t w.class []) (shift_to s i (get_or t w.class []) w.vertex) w.vertex (vertex_to s i (get_or t w.class []) w.vertex) scale coefficients
  pub numbers : AreKept (scale ∷ coefficients) w.numbers.items

-- the wall says that facet j of the class at place m lies across facet i of the class s
pub record IsWallTo (d : ℕ) (t : List (List (List ℤ))) (s : List (List ℤ)) (i m j : ℕ) (w : Wall) : Type 0 where
  pub class : w.class ≡ m
  pub vertex : w.vertex ≡ j
  pub scale : ℤ
  pub coefficients : List ℤ
  pub facing : IsFacing d s i (get_or t m []) (shift_to s i (get_or t m []) j) j
  pub outer : IsOuterIn s (get_or t m []) (shift_to s i (get_or t m []) j) j (vertex_to s i (get_or t m []) j) scale coefficients
  pub numbers : AreKept (scale ∷ coefficients) w.numbers.items

-- a wall of facet j of the class at place m, or that facet doesn't lie across
abbrev pub IsWallAnswer : ℕ → List (List (List ℤ)) → List (List ℤ) → ℕ → ℕ → ℕ → Option Wall → Type 0
IsWallAnswer d t s i m j r = MatchOption r (IsNotFacing d s i (get_or t m []) j) (IsWallTo d t s i m j)

-- the wall tells of the first of the facets that lies across the facet
pub record IsFirstIn (d : ℕ) (t : List (List (List ℤ))) (s : List (List ℤ)) (i : ℕ) (fs : List (ℕ × ℕ)) (w : Wall) : Type 0 where
  pub at : ℕ
  pub within : at < length fs
  pub told : IsWallTo d t s i (get_or fs at (0, 0)).0 (get_or fs at (0, 0)).1 w
  pub before : AreNotFacing d t s i fs at

-- a wall of the first of the facets that lies across, or none lies across
abbrev pub IsFirstAnswer : ℕ → List (List (List ℤ)) → List (List ℤ) → ℕ → List (ℕ × ℕ) → Option Wall → Type 0
IsFirstAnswer d t s i fs r = MatchOption r (AreNotFacing d t s i fs (length fs)) (IsFirstIn d t s i fs)

-- the wall of the facet, or no member lies across it
abbrev pub IsAcrossAnswer : ℕ → List (List (List ℤ)) → List (List ℤ) → ℕ → Option Wall → Type 0
IsAcrossAnswer d t s i r = MatchOption r (IsOpen d t s i) (IsWall d t s i)

-- one for each facet of the class s
pub record IsRow (d : ℕ) (t : List (List (List ℤ))) (s : List (List ℤ)) (row : List Wall) : Type 0 where
  pub count : length row ≡ suc d
  pub each : (i : ℕ) (e : Wall) → i < suc d → IsWall d t s i (get_or row i e)

-- one row for each of the first n classes
pub record AreRows (d : ℕ) (t : List (List (List ℤ))) (n : ℕ) (rows : List (List Wall)) : Type 0 where
  pub count : length rows ≡ n
  pub each : (m : ℕ) → m < n → IsRow d t (get_or t m []) (get_or rows m [])
