-- Regulators, walls of the secondary cone, and the triangulation across a wall.
-- Voronoi 1908 ("régulateurs"); Schürmann and Vallentin 2006; Schürmann, chapter 4.
use Rattle.std.specs.Prelude.{ℕ, suc, ℤ, pos, ◌<ℤ◌, ◌<◌, ◌≤◌, ◌≢◌, List, [], map, ◌≡◌, ◌↔◌, length, get_or}
use Rattle.std.specs.List.{Contains}
use Rattle.std.specs.List.Sorted.{IsStrictlySortedBy}
use Rattle.lt_model.specs.Order.{number_list_cmp}
use Rattle.lt_model.specs.Vectors.{minus, scale, dot, combine, IsPrimitive}
use Rattle.lt_model.specs.Forms.{numbers_of_form, squares}
use Rattle.lt_model.specs.Simplices.{IsExpression, translate}
use Rattle.lt_model.specs.Facets.{IsNeighbour}
use Rattle.lt_model.specs.Triangulations.{IsDelaunay}

-- the excess of x over the simplex as a function of the form: N with N(Q) the excess at Q
abbrev pub excess_normal : List (List ℤ) → List ℤ → ℤ → List ℤ → List ℤ
excess_normal vs x c b = minus (scale c (squares x)) (combine b (map squares vs))

-- n is the regulator of the member s and its neighbour at a facet: the primitive list of which the excess of the
-- neighbour's outer vertex w over s is a positive multiple, with c w the sum of the b_i v_i
pub record IsPair (d : ℕ) (t : List (List (List ℤ))) (n : List ℤ) (s : List (List ℤ)) (w : List ℤ) (c : ℤ) (b : List ℤ) : Type 0 where
  pub member : Contains t s
  pub facet : ℕ
  pub place : facet < suc d
  pub next : List (List ℤ)
  pub shift : List ℤ
  pub outer : ℕ
  pub neighbour : IsNeighbour d t s facet next shift outer
  pub vertex : w ≡ get_or (translate shift next) outer []
  pub expression : IsExpression s w c b
  pub primitive : IsPrimitive n
  pub factor : ℕ
  pub some : 0 < factor
  pub multiple : excess_normal s w c b ≡ scale (pos factor) n

-- n is the regulator of some pair of members that share a facet
abbrev pub IsRegulator : ℕ → List (List (List ℤ)) → List ℤ → Type 0
IsRegulator d t n = (s : List (List ℤ)) × (w : List ℤ) × (c : ℤ) × (b : List ℤ) × IsPair d t n s w c b

-- the list of the distinct regulators, in ascending order
pub record AreRegulators (d : ℕ) (t : List (List (List ℤ))) (ns : List (List ℤ)) : Type 0 where
  pub ascending : IsStrictlySortedBy number_list_cmp ns
  pub members : (n : List ℤ) → Contains ns n ↔ IsRegulator d t n

-- the regulator n is 0 at w, and every other one is positive there
pub record IsWallForm (d : ℕ) (t : List (List (List ℤ))) (n w : List ℤ) : Type 0 where
  pub regulator : IsRegulator d t n
  pub numbers : length w ≡ numbers_of_form d
  pub zero_there : dot n w ≡ pos 0
  pub others : (m : List ℤ) → IsRegulator d t m → m ≢ n → pos 0 <ℤ dot m w

-- n is a facet of the secondary cone: it has a wall form
abbrev pub IsFacet : ℕ → List (List (List ℤ)) → List ℤ → Type 0
IsFacet d t n = (w : List ℤ) × IsWallForm d t n w

-- t' is the Delaunay triangulation of m W - A for every large m, with W a wall form of n and t that of A
pub record IsAcross (d : ℕ) (t : List (List (List ℤ))) (n : List ℤ) (t' : List (List (List ℤ))) : Type 0 where
  pub wall : List ℤ
  pub wall_form : IsWallForm d t n wall
  pub form : List ℤ
  pub delaunay : IsDelaunay d form t
  pub bound : ℕ
  pub beyond : (m : ℕ) → bound ≤ m → IsDelaunay d (minus (scale (pos m) wall) form) t'
