-- Where and why the walk of a form ends.
use Rattle.std.specs.Prelude.{ℕ, ℤ, pos, ◌<ℤ◌, ◌≤ℤ◌, ◌<◌, ◌≤◌, ◌≡◌, List, [], get_or}
use Rattle.lt_model.specs.Vectors.{dot}
use Rattle.lt_model.specs.Forms.{value}
use Rattle.lt_model.specs.Limits.{weight, weight_limit, class_span, span, span_limit}
use Rattle.lt_model.specs.Walls.{AreRegulators, IsFacet, IsAcross}
use Rattle.lt_laws.specs.Edges.{IsEdge}
use Rattle.lt_laws.specs.Facets.{IsInside}
use Rattle.lt_flip.specs.Flipped.{IsFirstWide}
use Rattle.lt_locate.specs.Firsts.{IsFirst}
use Rattle.lt_locate.specs.Walks.{IsNegativeFacet, IsZeroFacet, IsWalked}

-- why a walk ends: an edge at which the form isn't positive; a weight; a facet that is 0 at the form; the form lies
-- inside; the steps are used up; a span
pub data Ending : Type 0 where
  not_positive : List ℤ → Ending
  heavy : ℤ → Ending
  on_wall : List ℤ → Ending
  inside : Ending
  out_of_steps : Ending
  wide : ℤ → Ending

-- an edge at which q isn't positive
abbrev pub IsBadEdge : ℕ → List (List (List ℤ)) → List ℤ → List ℤ → Type 0
IsBadEdge d t q x = IsEdge d t x × (value q x ≤ℤ pos 0)

-- the weight of the regulators of t is w, at the limit or above it
abbrev pub IsHeavy : ℕ → List (List (List ℤ)) → ℤ → Type 0
IsHeavy d t w = (ns : List (List ℤ)) × AreRegulators d t ns × (w ≡ pos (weight d ns)) × (weight_limit ≤ weight d ns)

-- the form is positive at each edge
abbrev pub AreEdgesPositive : ℕ → List (List (List ℤ)) → List ℤ → Type 0
AreEdgesPositive d t q = (x : List ℤ) → IsEdge d t x → pos 0 <ℤ value q x

-- the form is positive at each edge, and the weight is below the limit
pub record IsOpen (d : ℕ) (t : List (List (List ℤ))) (q : List ℤ) : Type 0 where
  pub edges : AreEdgesPositive d t q
  pub light : (ns : List (List ℤ)) → AreRegulators d t ns → weight d ns < weight_limit

-- the first class above the limit of the triangulation across the facet has the span c
pub record IsWideAcross (d : ℕ) (t : List (List (List ℤ))) (n : List ℤ) (c : ℤ) : Type 0 where
  pub next : List (List (List ℤ))
  pub across : IsAcross d t n next
  pub place : ℕ
  pub first : IsFirstWide d next place
  pub span_is : c ≡ pos (class_span (get_or next place []))

-- the reason for which a walk of at most so many steps ends at t, after i crossings
abbrev pub IsReason : ℕ → List ℤ → ℕ → ℕ → List (List (List ℤ)) → Ending → Type 0
IsReason d q steps i t (not_positive x) = IsFirst (IsBadEdge d t q) x
IsReason d q steps i t (heavy w) = AreEdgesPositive d t q × IsHeavy d t w
IsReason d q steps i t (on_wall n) = IsOpen d t q × ((m : List ℤ) → IsFacet d t m → pos 0 ≤ℤ dot m q)
    × IsFirst (IsZeroFacet d t q) n
IsReason d q steps i t inside = IsOpen d t q × IsInside d t q
IsReason d q steps i t out_of_steps = IsOpen d t q × ((n : List ℤ) × IsFirst (IsNegativeFacet d t q) n) × (i ≡ steps)
IsReason d q steps i t (wide c) = IsOpen d t q × ((n : List ℤ) × IsFirst (IsNegativeFacet d t q) n
    × IsWideAcross d t n c) × (i < steps)

-- there is no reason to end at t, after i crossings
pub record Passes (d : ℕ) (q : List ℤ) (steps i : ℕ) (t : List (List (List ℤ))) : Type 0 where
  pub is_open : IsOpen d t q
  pub facet : List ℤ
  pub first : IsFirst (IsNegativeFacet d t q) facet
  pub below : i < steps
  pub next : List (List (List ℤ))
  pub across : IsAcross d t facet next
  pub narrow : span next ≤ span_limit d

-- the walk comes to t after i crossings: there was no reason to end before
pub record ComesTo (d : ℕ) (q : List ℤ) (steps i : ℕ) (t : List (List (List ℤ))) : Type 0 where
  pub walked : IsWalked d q i t
  pub passed : (j : ℕ) → j < i → (s : List (List (List ℤ))) × IsWalked d q j s × Passes d q steps j s

-- the walk of q, of at most so many steps, ends at t after i crossings, for this reason
pub record EndsWith (d : ℕ) (q : List ℤ) (steps i : ℕ) (t : List (List (List ℤ))) (e : Ending) : Type 0 where
  pub comes : ComesTo d q steps i t
  pub reason : IsReason d q steps i t e
