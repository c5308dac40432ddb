-- The same triangulations are reached by crossings and by flips.
use Rattle.std.proofs.Common.{List, ◌↔◌, ℕ, ◌≤◌, arith, ℤ, pos}
use Rattle.lt_geometry.proofs.Neighbours.{principal_delaunay}
use Rattle.lt_geometry.proofs.FlipOf.{flips_are_across}
use Rattle.lt_geometry.proofs.Listed.{across_is_flip}
use Rattle.lt_model.specs.Vectors.{minus, scale}
use Rattle.lt_model.specs.Triangulations.{IsDelaunay}
use Rattle.lt_model.specs.Walls.{IsAcross}
use Rattle.lt_model.specs.Flips.{IsFlipOf}
use Rattle.lt_model.specs.Principal.{principal_numbers}
use Rattle.lt_model.specs.Reached.{IsReachedBy}
use Rattle.lt_model.specs.Reached.IsReachedBy.{start, next}

abbrev pub IsFlipAcross : ℕ → List (List (List ℤ)) → List ℤ → List (List (List ℤ)) → Type 0
IsFlipAcross d t n t' = IsFlipOf d t n t'

to_flips : (d : ℕ) → 2 ≤ d → (t : List (List (List ℤ))) → IsReachedBy (IsAcross d) d t → IsReachedBy (IsFlipAcross d) d t
to_flips d two t (start p) = start p
to_flips d two t (next {t = s} n r facet across) = next n (to_flips d two s r) facet (across_is_flip d n s t two across)

-- a triangulation that flips reach is reached by crossings, and is that of some form
to_crossings : (d : ℕ) → 2 ≤ d → (t : List (List (List ℤ))) → IsReachedBy (IsFlipAcross d) d t → IsReachedBy (IsAcross d) d t × ((a : List ℤ) × IsDelaunay d a t)
to_crossings d two t (start p) = (start p, (principal_numbers d, principal_delaunay d t (omega (arith, two)) p))
to_crossings d two t (next {t = s} n r facet flip) =
    let i = to_crossings d two s r in
    let x = flips_are_across d (i.1.0) n s t two (i.1.1) facet flip in
    (next n (i.0) facet x, (minus (scale (pos x.bound) x.wall) x.form, x.beyond x.bound (omega arith)))

pub reached_by_flips : (d : ℕ) → 2 ≤ d → (t : List (List (List ℤ))) → IsReachedBy (IsAcross d) d t ↔ IsReachedBy (IsFlipAcross d) d t
reached_by_flips d two t = (to_flips d two t, λ r. (to_crossings d two t r).0)

-- a reached triangulation is that of some form
pub reached_delaunay : (d : ℕ) → 2 ≤ d → (t : List (List (List ℤ))) → IsReachedBy (IsAcross d) d t → (a : List ℤ) × IsDelaunay d a t
reached_delaunay d two t r = (to_crossings d two t (to_flips d two t r)).1
