-- Facets of simplices, and the simplex on the other side of one.
-- Facet i of a simplex is the one opposite to its vertex i. Schürmann, chapter 4.
use Rattle.std.specs.Prelude.{ℕ, zero, suc, ℤ, pos, ◌<ℤ◌, ◌<◌, List, [], ◌∷◌, ◌≡◌, length, get_or}
use Rattle.std.specs.List.{Contains}
use Rattle.lt_model.specs.Simplices.{IsExpression, translate}

-- the list without the member at place i
abbrev pub without : {X : Type 0} → ℕ → List X → List X
without i [] = []
without zero (x ∷ xs) = xs
without (suc i) (x ∷ xs) = x ∷ without i xs

-- the list with a member more, which stands at place i
abbrev pub with_at : {X : Type 0} → ℕ → X → List X → List X
with_at zero y xs = y ∷ xs
with_at (suc i) y [] = y ∷ []
with_at (suc i) y (x ∷ xs) = x ∷ with_at i y xs

-- the number at place i
abbrev pub number_at : ℕ → List ℤ → ℤ
number_at i b = get_or b i (pos 0)

-- w lies on the other side of facet i
pub record IsBeyond (vs : List (List ℤ)) (i : ℕ) (w : List ℤ) : Type 0 where
  pub scale : ℤ
  pub coefficients : List ℤ
  pub expression : IsExpression vs w scale coefficients
  pub negative : number_at i coefficients <ℤ pos 0

-- the translate by p of the member next has facet i of s, and its vertex j lies on the other side
pub record IsNeighbour (d : ℕ) (t : List (List (List ℤ))) (s : List (List ℤ)) (i : ℕ) (next : List (List ℤ)) (p : List ℤ) (j : ℕ) : Type 0 where
  pub member : Contains t next
  pub dimension : length p ≡ d
  pub place : j < suc d
  pub facet : without j (translate p next) ≡ without i s
  pub beyond : IsBeyond s i (get_or (translate p next) j [])

-- each facet of each member lies in a second simplex of the triangulation, on the other side
abbrev pub IsClosed : ℕ → List (List (List ℤ)) → Type 0
IsClosed d t =
    (s : List (List ℤ)) (i : ℕ) → Contains t s → i < suc d → (next : List (List ℤ)) × (p : List ℤ) × (j : ℕ) × IsNeighbour d t s i next p j
