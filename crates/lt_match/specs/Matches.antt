-- Candidate matrices in their order: first by the member of the second triangulation, then by the order of its vertices.
use Rattle.std.specs.Prelude.{ℕ, suc, ℤ, ◌<◌, ◌≤◌, ◌≡◌, ◌≢◌, List, [], map, length, get_or}
use Rattle.lt_model.specs.Vectors.{minus}
use Rattle.lt_model.specs.Matrices.{Carries}
use Rattle.lt_model.specs.Principal.{IsOrder}
use Rattle.lt_geometry.specs.Carrying.{IsCandidate}

-- the vertices in an order, less the first in that order
abbrev pub in_order : List (List ℤ) → List ℕ → List (List ℤ)
in_order s p = map (λ k. minus (get_or s k []) (get_or s (get_or p 0 0) [])) p

-- the lists agree before a place at which p has the lesser number
abbrev pub IsEarlier : List ℕ → List ℕ → Type 0
IsEarlier p q = (k : ℕ) × (k < length q) × ((i : ℕ) → i < k → get_or p i 0 ≡ get_or q i 0) × (get_or p k 0 < get_or q k 0)

-- u sends the vertices of the first class of t to those of s, in the order p and less the first in that order, and carries t onto t2
pub record IsMatch (d : ℕ) (t t2 : List (List (List ℤ))) (s : List (List ℤ)) (p : List ℕ) (u : List (List ℤ)) : Type 0 where
  pub order : IsOrder (suc d) p
  pub candidate : IsCandidate d (get_or t 0 []) s p u
  pub carries : Carries d u t t2

-- no candidate of the order carries
abbrev pub HasNoMatch : ℕ → List (List (List ℤ)) → List (List (List ℤ)) → List (List ℤ) → List ℕ → Type 0
HasNoMatch d t t2 s p = (u : List (List ℤ)) → IsMatch d t t2 s p u → ⊥

-- the order begins with the numbers
abbrev pub BeginsWith : List ℕ → List ℕ → Type 0
BeginsWith chosen p = (i : ℕ) → i < length chosen → get_or p i 0 ≡ get_or chosen i 0

-- the first order that begins with the numbers and has a match, with that match
pub record IsFirstOrder (d : ℕ) (t t2 : List (List (List ℤ))) (s : List (List ℤ)) (chosen : List ℕ) (u : List (List ℤ)) : Type 0 where
  pub order : List ℕ
  pub begins : BeginsWith chosen order
  pub «match» : IsMatch d t t2 s order u
  pub before : (q : List ℕ) → BeginsWith chosen q → IsEarlier q order → HasNoMatch d t t2 s q

-- the first match of all
pub record IsFirstMatch (d : ℕ) (t t2 : List (List (List ℤ))) (u : List (List ℤ)) : Type 0 where
  pub member : ℕ
  pub within : member < length t2
  pub first : IsFirstOrder d t t2 (get_or t2 member []) [] u
  pub earlier : (n : ℕ) → n < member → (q : List ℕ) → HasNoMatch d t t2 (get_or t2 n []) q

-- where an order takes a vertex of the first class of t to one of s, and the facets opposite to them have other signatures ps and qs, the
-- order has no match
pub record AreSigned (d : ℕ) (t t2 : List (List (List ℤ))) (s ps qs : List (List ℤ)) : Type 0 where
  pub count : length ps ≡ suc d
  pub count_too : length qs ≡ suc d
  pub none : (p : List ℕ) (i : ℕ) → i < suc d → get_or ps i [] ≢ get_or qs (get_or p i 0) [] → HasNoMatch d t t2 s p

-- different numbers below n
pub record IsBeginning (n : ℕ) (chosen : List ℕ) : Type 0 where
  pub few : length chosen ≤ n
  pub below : (i : ℕ) → i < length chosen → get_or chosen i 0 < n
  pub distinct : (i j : ℕ) → i < j → j < length chosen → get_or chosen i 0 ≢ get_or chosen j 0
