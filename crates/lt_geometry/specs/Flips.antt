-- Laws of flips and crossings.
use Rattle.std.specs.Prelude.{ℕ, ℤ, pos, ◌≤◌, ◌≡◌, ◌↔◌, List}
use Rattle.lt_model.specs.Vectors.{minus, scale}
use Rattle.lt_model.specs.Triangulations.{IsDelaunay}
use Rattle.lt_model.specs.Walls.{IsWallForm, IsFacet, IsAcross}
use Rattle.lt_model.specs.Flips.{IsFlipOf}
use Rattle.lt_model.specs.Reached.{IsReached, IsReachedBy}

-- the flip of a Delaunay triangulation of a at the facet with the wall form w is the Delaunay triangulation of m w - a
-- for every large m
abbrev pub FlipsAreDelaunay : Type 0
FlipsAreDelaunay =
    (d : ℕ) (a w n : List ℤ) (t t' : List (List (List ℤ))) → 2 ≤ d → IsDelaunay d a t → IsWallForm d t n w
    → IsFlipOf d t n t' →
    (bound : ℕ) × ((m : ℕ) → bound ≤ m → IsDelaunay d (minus (scale (pos m) w) a) t')

-- so the flip at a facet lies across it
abbrev pub FlipsAreAcross : Type 0
FlipsAreAcross = (d : ℕ) (a n : List ℤ) (t t' : List (List (List ℤ))) → 2 ≤ d → IsDelaunay d a t → IsFacet d t n
    → IsFlipOf d t n t' → IsAcross d t n t'

-- each facet has a flip
abbrev pub FlipsExist : Type 0
FlipsExist = (d : ℕ) (a n : List ℤ) (t : List (List (List ℤ))) → 2 ≤ d → IsDelaunay d a t → IsFacet d t n
    → (t' : List (List (List ℤ))) × IsFlipOf d t n t'

-- and what lies across a facet is its flip
abbrev pub AcrossIsFlip : Type 0
AcrossIsFlip = (d : ℕ) (n : List ℤ) (t t' : List (List (List ℤ))) → 2 ≤ d → IsAcross d t n t' → IsFlipOf d t n t'

-- so each facet has exactly one triangulation across
abbrev pub OneAcross : Type 0
OneAcross =
    ((d : ℕ) (a n : List ℤ) (t : List (List (List ℤ))) → 2 ≤ d → IsDelaunay d a t → IsFacet d t n
    → (t' : List (List (List ℤ))) × IsAcross d t n t')
    × ((d : ℕ) (n : List ℤ) (t t' t'' : List (List (List ℤ))) → 2 ≤ d → IsAcross d t n t' → IsAcross d t n t''
    → t' ≡ t'')

-- the same triangulations are reached by crossings and by flips, and each is the Delaunay triangulation of some form
abbrev pub ReachedByFlips : Type 0
ReachedByFlips =
    ((d : ℕ) → 2 ≤ d → (t : List (List (List ℤ))) → IsReached d t ↔ IsReachedBy (λ t n t'. IsFlipOf d t n t') d t)
    × ((d : ℕ) → 2 ≤ d → (t : List (List (List ℤ))) → IsReached d t → (a : List ℤ) × IsDelaunay d a t)
