-- What a worker knows outside the lock.
use Rattle.std.specs.Prelude.{ℕ, ℤ, ◌<◌, ◌≤◌, ◌≡◌, List, [], length, map, get_or}
use Rattle.std.specs.Arc.{arc_value}
use Rattle.lt_model.specs.Limits.{span, span_limit}
use Rattle.lt_model.specs.Walls.{IsFacet, IsAcross}
use Rattle.lt_model.specs.Matrices.{AreEquivalent}
use Rattle.lt_model.specs.Atlases.{Classes, Atlas, entry_at}
use Rattle.lt_triang.specs.Kept.{dimension_of, IsOfSomeForm}
use Rattle.lt_colour.specs.Signatures.{IsFingerprint}
use Rattle.lt_match.specs.Matches.{IsFirstMatch}
use Rattle.lt_crew.specs.declared.desk.Task.{Task}
use Rattle.lt_crew.specs.declared.desk.Test.{Test}

-- the triangulation that stands at the position
abbrev pub home_of : Task → Classes
home_of t = arc_value t.home

-- the triangulations of the known ones
abbrev pub known_of : Test → List Classes
known_of t = map arc_value t.known.items

-- the normal is a facet of the triangulation of a form
pub record IsTask (t : Task) : Type 0 where
  pub delaunay : IsOfSomeForm (home_of t)
  pub facet : IsFacet (dimension_of (home_of t)) (home_of t) t.normal

-- r lies across the facet, and is within the limit of spans
pub record IsBeyond (t : Task) (r : Classes) : Type 0 where
  pub across : IsAcross (dimension_of (home_of t)) (home_of t) t.normal r
  pub delaunay : IsOfSomeForm r
  pub dimension : dimension_of r ≡ dimension_of (home_of t)
  pub narrow : span r ≤ span_limit (dimension_of (home_of t))

-- no known one is equivalent to r
abbrev pub IsUnlikeKnown : Classes → List Classes → Type 0
IsUnlikeKnown r known = (j : ℕ) → j < length known → AreEquivalent (dimension_of r) r (get_or known j []) → ⊥

-- each entry below the number with this fingerprint is a known one
abbrev pub AreKnown : Atlas → List ℤ → List Classes → ℕ → Type 0
AreKnown a print known n =
    (i : ℕ) → i < n → i < length a.entries → IsFingerprint a.dimension (entry_at a.entries i).triangulation print
    → (j : ℕ) × (j < length known) × (get_or known j [] ≡ (entry_at a.entries i).triangulation)

-- u is the first matrix that carries what lies beyond the facet onto the image
pub record IsCarried (t : Task) (image : Classes) (u : List (List ℤ)) : Type 0 where
  pub beyond : Classes
  pub is_beyond : IsBeyond t beyond
  pub first : IsFirstMatch (dimension_of (home_of t)) beyond image u

-- the fingerprint is that of r, and no known one is equivalent to it
pub record IsTest (r : Classes) (t : Test) : Type 0 where
  pub print : IsFingerprint (dimension_of r) r t.print.items
  pub unlike : IsUnlikeKnown r (known_of t)
