-- A wide flip at the first negative facet lies across it.
use Rattle.std.proofs.Common.{ℕ, ℤ, ◌≤◌, ap, ◌∙◌, List}
use Rattle.lt_model.specs.Triangulations.{IsDelaunay}
use Rattle.lt_model.specs.Walls.{IsFacet}
use Rattle.lt_flip.specs.Flipped.{IsWideFlip}
use Rattle.lt_geometry.proofs.FlipOf.{flips_are_across}
use Rattle.lt_model.specs.Limits.{class_span}
use Rattle.std.specs.Prelude.{pos}
use Rattle.lt_locate.specs.Endings.{IsWideAcross}

pub wide_across : (d : ℕ) (a n : List ℤ) (t : List (List (List ℤ))) (s : List (List ℤ)) (c : ℤ) → 2 ≤ d → IsDelaunay d a t → IsFacet d t n → IsWideFlip d t n s c → IsWideAcross d t n c
wide_across d a n t s c two k f h = record {
  next = h.flipped;
  across = flips_are_across d a n t h.flipped two k f h.flip;
  place = h.place;
  first = h.first;
  span_is = h.span_is ∙ ap (λ (r : List (List ℤ)). pos (class_span r)) h.class_is;
}
