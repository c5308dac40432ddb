-- Laws of regulators and of the facets of members.
use Rattle.std.specs.Prelude.{ℕ, suc, ℤ, pos, negsuc, ◌<ℤ◌, ◌≤ℤ◌, ◌<◌, ◌≢◌, List, [], length, get_or, ◌≡◌, ◌↔◌}
use Rattle.std.specs.List.{Contains, All}
use Rattle.lt_model.specs.Vectors.{scale, dot, IsPrimitive}
use Rattle.lt_model.specs.Forms.{numbers_of_form, IsPositiveDefinite}
use Rattle.lt_model.specs.Simplices.{IsSimplex, IsExpression, IsStrictlyEmpty, translate}
use Rattle.lt_model.specs.Facets.{without, IsBeyond, IsNeighbour}
use Rattle.lt_model.specs.Triangulations.{IsDelaunay}
use Rattle.lt_model.specs.Walls.{excess_normal, IsRegulator}

-- the outer vertex of the neighbour
abbrev pub outer_vertex : List (List ℤ) → List ℤ → ℕ → List ℤ
outer_vertex next p j = get_or (translate p next) j []

-- n is the regulator of the member s and its neighbour at facet i
pub record IsRegulatorAt (d : ℕ) (t : List (List (List ℤ))) (s : List (List ℤ)) (i : ℕ) (n : List ℤ) : Type 0 where
  pub next : List (List ℤ)
  pub shift : List ℤ
  pub outer : ℕ
  pub neighbour : IsNeighbour d t s i next shift outer
  pub c : ℤ
  pub b : List ℤ
  pub expression : IsExpression s (outer_vertex next shift outer) c b
  pub primitive : IsPrimitive n
  pub factor : ℕ
  pub some : 0 < factor
  pub multiple : excess_normal s (outer_vertex next shift outer) c b ≡ scale (pos factor) n

-- an integer point that is a combination of the vertices with no negative number is a vertex, where the simplex is
-- strictly empty
abbrev pub PointsInsideAreVertices : Type 0
PointsInsideAreVertices =
    (d : ℕ) (q : List ℤ) (vs : List (List ℤ)) (x : List ℤ) (c : ℤ) (b : List ℤ) → IsPositiveDefinite d q
    → IsSimplex d vs → IsStrictlyEmpty d q vs → length x ≡ d → IsExpression vs x c b →
    All (λ z. pos 0 ≤ℤ z) b → Contains vs x

-- two members that share a facet and differ lie on opposite sides of it
abbrev pub MembersLieOpposite : Type 0
MembersLieOpposite =
    (d : ℕ) (a : List ℤ) (t : List (List (List ℤ))) (s : List (List ℤ)) (i : ℕ) (next : List (List ℤ)) (p : List ℤ)
    (j : ℕ) → IsDelaunay d a t → Contains t s → Contains t next → length p ≡ d → i < suc d → j < suc d →
    without j (translate p next) ≡ without i s → translate p next ≢ s → IsBeyond s i (outer_vertex next p j)

-- a facet of a member has one neighbour
abbrev pub NeighboursAreUnique : Type 0
NeighboursAreUnique =
    (d : ℕ) (a : List ℤ) (t : List (List (List ℤ))) (s : List (List ℤ)) (i : ℕ) (next next' : List (List ℤ))
    (p p' : List ℤ) (j j' : ℕ) → IsDelaunay d a t → Contains t s → i < suc d →
    IsNeighbour d t s i next p j → IsNeighbour d t s i next' p' j' → (next ≡ next') × (p ≡ p') × (j ≡ j')

-- and a member is the neighbour of its neighbour
abbrev pub NeighboursAreMutual : Type 0
NeighboursAreMutual =
    (d : ℕ) (a : List ℤ) (t : List (List (List ℤ))) (s : List (List ℤ)) (i : ℕ) (next : List (List ℤ)) (p : List ℤ)
    (j : ℕ) → IsDelaunay d a t → Contains t s → i < suc d →
    IsNeighbour d t s i next p j → IsNeighbour d t next j s (scale (negsuc 0) p) i

-- each facet of a member has one regulator, and these are the regulators of the triangulation
abbrev pub FacetsHaveOneRegulator : Type 0
FacetsHaveOneRegulator =
    (d : ℕ) (a : List ℤ) (t : List (List (List ℤ))) → IsDelaunay d a t →
    ((s : List (List ℤ)) (i : ℕ) → Contains t s → i < suc d → (n : List ℤ) × IsRegulatorAt d t s i n)
    × ((s : List (List ℤ)) (i : ℕ) (n n' : List ℤ) → Contains t s → i < suc d → IsRegulatorAt d t s i n
    → IsRegulatorAt d t s i n' → n ≡ n')
    × ((n : List ℤ) → IsRegulator d t n ↔ ((s : List (List ℤ)) × (i : ℕ) × Contains t s × (i < suc d)
    × IsRegulatorAt d t s i n))

-- it is the same from both sides
abbrev pub RegulatorsAreMutual : Type 0
RegulatorsAreMutual =
    (d : ℕ) (a : List ℤ) (t : List (List (List ℤ))) (s : List (List ℤ)) (i : ℕ) (next : List (List ℤ)) (p : List ℤ)
    (j : ℕ) (n : List ℤ) → IsDelaunay d a t → Contains t s → i < suc d →
    IsNeighbour d t s i next p j → IsRegulatorAt d t s i n → IsRegulatorAt d t next j n

-- regulators are primitive lists of as many numbers as a form has, and positive at each form of the triangulation; so
-- none is a list of zeros
abbrev pub RegulatorsArePositive : Type 0
RegulatorsArePositive =
    (d : ℕ) (a : List ℤ) (t : List (List (List ℤ))) (n : List ℤ) → IsDelaunay d a t → IsRegulator d t n → IsPrimitive n
    × (length n ≡ numbers_of_form d) × (pos 0 <ℤ dot n a)

-- the excess of the outer vertex of a neighbour is positive at each form of the triangulation, by each expression
abbrev pub OuterVerticesLieAbove : Type 0
OuterVerticesLieAbove =
    (d : ℕ) (a : List ℤ) (t : List (List (List ℤ))) (s : List (List ℤ)) (i : ℕ) (next : List (List ℤ)) (p : List ℤ)
    (j : ℕ) (c : ℤ) (b : List ℤ) → IsDelaunay d a t → Contains t s → i < suc d →
    IsNeighbour d t s i next p j → IsExpression s (outer_vertex next p j) c b
    → pos 0 <ℤ dot (excess_normal s (outer_vertex next p j) c b) a

-- each Delaunay triangulation has a regulator
abbrev pub TriangulationsHaveRegulators : Type 0
TriangulationsHaveRegulators = (d : ℕ) (a : List ℤ) (t : List (List (List ℤ))) → IsDelaunay d a t → (n : List ℤ)
    × IsRegulator d t n

-- a Delaunay triangulation of some form is that of the forms at which all its regulators are positive, and of no others
abbrev pub LocalToGlobal : Type 0
LocalToGlobal =
    (d : ℕ) (a q : List ℤ) (t : List (List (List ℤ))) → IsDelaunay d a t → length q ≡ numbers_of_form d
    → IsDelaunay d q t ↔ ((n : List ℤ) → IsRegulator d t n → pos 0 <ℤ dot n q)
