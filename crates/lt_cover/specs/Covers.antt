-- The greatest squared circumradius of a triangulation.
use Rattle.std.specs.Prelude.{ℕ, ℤ, pos, ◌*ℤ◌, ◌<ℤ◌, ◌≤ℤ◌, ◌<◌, List, [], length, get_or}
use Rattle.lt_model.specs.Forms.{value}
use Rattle.lt_model.specs.Limits.{span_limit}
use Rattle.lt_num.specs.Fractions.{Ratio}
use Rattle.lt_laws.specs.Edges.{IsEdge}
use Rattle.lt_laws.specs.Circumradii.{IsCentre}

-- no edge has a value above the span limit
abbrev pub AreShort : ℕ → List ℤ → List (List (List ℤ)) → Type 0
AreShort d q t = (x : List ℤ) → IsEdge d t x → value q x ≤ℤ pos (span_limit d)

-- r is the squared circumradius of the points: some rational point p / g has the squared distance r from each of them
abbrev pub IsRadius : ℕ → List ℤ → List (List ℤ) → Ratio → Type 0
IsRadius d q s r = (g : ℤ) × (p : List ℤ) × IsCentre d q s r.num r.den g p

-- the member at place k has the squared circumradius r, no member has a greater one, and no earlier member the same
pub record IsCover (d : ℕ) (q : List ℤ) (t : List (List (List ℤ))) (r : Ratio) (k : ℕ) : Type 0 where
  pub within : k < length t
  pub radius : IsRadius d q (get_or t k []) r
  pub greatest : (j : ℕ) (x : Ratio) → j < length t → IsRadius d q (get_or t j []) x
      → (x.num *ℤ r.den) ≤ℤ (r.num *ℤ x.den)
  pub first : (j : ℕ) (x : Ratio) → j < k → IsRadius d q (get_or t j []) x → (x.num *ℤ r.den) <ℤ (r.num *ℤ x.den)
