-- Laws of the simplices that a flip exchanges, in the words of members and facets.
use Rattle.std.specs.Prelude.{ℕ, suc, ℤ, pos, negsuc, ◌<ℤ◌, ◌<◌, ◌≤◌, List, ◌∷◌, ◌≡◌, ◌↔◌}
use Rattle.std.specs.List.{Contains}
use Rattle.lt_model.specs.Simplices.{IsExpression, IsClassOf}
use Rattle.lt_model.specs.Facets.{without, number_at, IsNeighbour}
use Rattle.lt_model.specs.Triangulations.{IsDelaunay}
use Rattle.lt_model.specs.Walls.{IsFacet}
use Rattle.lt_model.specs.Flips.{IsExchanged}
use Rattle.lt_geometry.specs.Regulators.{outer_vertex, IsRegulatorAt}

-- the simplices that a flip takes out are the members that have the regulator at one of their facets; so all of them
-- are members
abbrev pub ExchangedAreMembers : Type 0
ExchangedAreMembers =
    (d : ℕ) (a n : List ℤ) (t : List (List (List ℤ))) (s : List (List ℤ)) → 2 ≤ d → IsDelaunay d a t → IsFacet d t n →
    IsExchanged d t n (pos 1) s ↔ (Contains t s × ((i : ℕ) × (i < suc d) × IsRegulatorAt d t s i n))

-- across all such facets of one member lies one outer vertex: a member stands in one cell at most
abbrev pub OneOuterVertex : Type 0
OneOuterVertex =
    (d : ℕ) (a n : List ℤ) (t : List (List (List ℤ))) (s : List (List ℤ)) (i i' : ℕ) (next next' : List (List ℤ))
    (p p' : List ℤ) (j j' : ℕ) → 2 ≤ d → IsDelaunay d a t → IsFacet d t n → Contains t s → i < suc d → i' < suc d →
    IsRegulatorAt d t s i n → IsRegulatorAt d t s i' n → IsNeighbour d t s i next p j → IsNeighbour d t s i' next' p' j'
    → outer_vertex next p j ≡ outer_vertex next' p' j'

-- the class s' is that of the outer vertex and the vertices of s but one whose number in the expression is positive
pub record IsMadeFrom (d : ℕ) (s : List (List ℤ)) (w : List ℤ) (b : List ℤ) (k : ℕ) (s' : List (List ℤ)) : Type 0 where
  pub place : k < suc d
  pub positive : pos 0 <ℤ number_at k b
  pub class_of : IsClassOf d (without (suc k) (w ∷ s)) s'

-- the simplices that a flip puts in are made from the members that it takes out, from each by any one of these facets
abbrev pub MadeFromExchanged : Type 0
MadeFromExchanged =
    ((d : ℕ) (a n : List ℤ) (t : List (List (List ℤ))) (s : List (List ℤ)) (i : ℕ) (next : List (List ℤ)) (p : List ℤ)
    (j : ℕ) (c : ℤ) (b : List ℤ) (k : ℕ) (s' : List (List ℤ)) → IsDelaunay d a t → Contains t s → i < suc d →
    IsRegulatorAt d t s i n → IsNeighbour d t s i next p j → IsExpression s (outer_vertex next p j) c b
    → IsMadeFrom d s (outer_vertex next p j) b k s' → IsExchanged d t n (negsuc 0) s')
    × ((d : ℕ) (a n : List ℤ) (t : List (List (List ℤ))) (s' : List (List ℤ)) → 2 ≤ d → IsDelaunay d a t → IsFacet d t n
    → IsExchanged d t n (negsuc 0) s' →
    (s : List (List ℤ)) × Contains t s × ((i : ℕ) × (i < suc d) × IsRegulatorAt d t s i n)
    × ((i : ℕ) (next : List (List ℤ)) (p : List ℤ) (j : ℕ) (c : ℤ) (b : List ℤ) → i < suc d → IsRegulatorAt d t s i n
    → IsNeighbour d t s i next p j → IsExpression s (outer_vertex next p j) c b →
    (k : ℕ) × IsMadeFrom d s (outer_vertex next p j) b k s'))
