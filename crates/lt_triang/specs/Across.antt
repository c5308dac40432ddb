-- Members that lie across a facet of a member: the first of them, and facets that have none.
use Rattle.std.specs.Prelude.{ℕ, suc, ℤ, ◌<◌, ◌≤◌, ◌^◌, ◌≡◌, ◌↔◌, List, [], ◌∷◌, length, get_or}
use Rattle.std.specs.List.{Contains}
use Rattle.std.specs.List.Sorted.{IsStrictlySortedBy}
use Rattle.lt_model.specs.Cones.{AreBelow}
use Rattle.lt_model.specs.Order.{simplex_cmp}
use Rattle.lt_model.specs.Simplices.{AllOfDimension, IsExpression, translate}
use Rattle.lt_model.specs.Vectors.{IsPrimitive}
use Rattle.lt_model.specs.Facets.{without, IsBeyond, IsNeighbour}

-- d + 1 points of d coordinates, and a place among them
pub record HasFacet (d : ℕ) (s : List (List ℤ)) (i : ℕ) : Type 0 where
  pub low : 2 ≤ d
  pub high : d ≤ 6
  pub count : length s ≡ suc d
  pub dimension : AllOfDimension d s
  pub place : i < suc d

-- the class next, moved by p, has facet i of s, and its vertex j lies on the other side
pub record IsFacing (d : ℕ) (s : List (List ℤ)) (i : ℕ) (next : List (List ℤ)) (p : List ℤ) (j : ℕ) : Type 0 where
  pub dimension : length p ≡ d
  pub facet : without j (translate p next) ≡ without i s
  pub beyond : IsBeyond s i (get_or (translate p next) j [])

abbrev pub IsNotFacing : ℕ → List (List ℤ) → ℕ → List (List ℤ) → ℕ → Type 0
IsNotFacing d s i next j = (p : List ℤ) → IsFacing d s i next p j → ⊥

-- the first vertex with which the class lies across the facet
pub record IsFirstVertex (d : ℕ) (s : List (List ℤ)) (i : ℕ) (next : List (List ℤ)) (p : List ℤ) (j : ℕ) : Type 0 where
  pub place : j < suc d
  pub facing : IsFacing d s i next p j
  pub before : (k : ℕ) → k < j → IsNotFacing d s i next k

-- across a facet of a member lies one member at most
abbrev pub HasOneAcross : ℕ → List (List (List ℤ)) → Type 0
HasOneAcross d t =
    (s : List (List ℤ)) (i m n : ℕ) (p q : List ℤ) (j k : ℕ) → Contains t s → i < suc d → m < length t → n < length t → j < suc d → k < suc d →
    IsFacing d s i (get_or t m []) p j → IsFacing d s i (get_or t n []) q k → m ≡ n

-- no member, at no vertex, lies across the facet
abbrev pub IsOpen : ℕ → List (List (List ℤ)) → List (List ℤ) → ℕ → Type 0
IsOpen d t s i = (n j : ℕ) → n < length t → j < suc d → IsNotFacing d s i (get_or t n []) j

-- the first member, in the order of members and vertices, that lies across the facet
pub record IsFirstAcross (d : ℕ) (t : List (List (List ℤ))) (s : List (List ℤ)) (i n : ℕ) (p : List ℤ) (j : ℕ) : Type 0 where
  pub member : n < length t
  pub place : j < suc d
  pub facing : IsFacing d s i (get_or t n []) p j
  pub earlier : (m k : ℕ) → m < n → k < suc d → IsNotFacing d s i (get_or t m []) k
  pub before : (k : ℕ) → k < j → IsNotFacing d s i (get_or t n []) k

-- some member lies across the facet
abbrev pub HasAcross : ℕ → List (List (List ℤ)) → List (List ℤ) → ℕ → Type 0
HasAcross d t s i = (n : ℕ) × (p : List ℤ) × (j : ℕ) × IsFirstAcross d t s i n p j

-- the first facet of the class across which no member lies
pub record IsFirstOpenOf (d : ℕ) (t : List (List (List ℤ))) (s : List (List ℤ)) (i : ℕ) : Type 0 where
  pub place : i < suc d
  pub none : IsOpen d t s i
  pub before : (k : ℕ) → k < i → HasAcross d t s k

-- the first facet, in the order of members and facets, across which no member lies
pub record IsFirstOpen (d : ℕ) (t : List (List (List ℤ))) (n i : ℕ) : Type 0 where
  pub member : n < length t
  pub facet : IsFirstOpenOf d t (get_or t n []) i
  pub earlier : (m k : ℕ) → m < n → k < suc d → HasAcross d t (get_or t m []) k

-- the list in ascending order, each class once, has an open facet, of which this is the first
pub record IsOpenAnswer (d : ℕ) (given : List (List (List ℤ))) (n i : ℕ) : Type 0 where
  pub t : List (List (List ℤ))
  pub ascending : IsStrictlySortedBy simplex_cmp t
  pub members : (s : List (List ℤ)) → Contains t s ↔ Contains given s
  pub first : IsFirstOpen d t n i

-- w is the vertex of the neighbour of s at facet i that lies outside s
pub record IsOuterVertex (d : ℕ) (t : List (List (List ℤ))) (s : List (List ℤ)) (i : ℕ) (w : List ℤ) : Type 0 where
  pub next : List (List ℤ)
  pub shift : List ℤ
  pub outer : ℕ
  pub neighbour : IsNeighbour d t s i next shift outer
  pub vertex : w ≡ get_or (translate shift next) outer []

-- the numbers of the expression of that vertex over s in lowest terms, below 2^59 in absolute value: the scale, then
-- the coefficients
pub record AreOuterNumbers (d : ℕ) (t : List (List (List ℤ))) (s : List (List ℤ)) (i : ℕ) (numbers : List ℤ) : Type 0 where
  pub vertex : List ℤ
  pub scale : ℤ
  pub coefficients : List ℤ
  pub outer : IsOuterVertex d t s i vertex
  pub expression : IsExpression s vertex scale coefficients
  pub primitive : IsPrimitive (scale ∷ coefficients)
  pub below : AreBelow (2 ^ 59) (scale ∷ coefficients)
  pub is : numbers ≡ scale ∷ coefficients
