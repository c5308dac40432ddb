use Rattle.std.proofs.Common.{◌≡◌, ℕ, ◌<◌, get_or, []}
use Rattle.lt_model.specs.Atlases.{facets_of}
use Rattle.lt_merge.proofs.images.image_facet.Given as goal

abbrev pub invariant-loop-k : goal.invariant-loop-k
invariant-loop-k l = (i : ℕ) → i < l.k → get_or (facets_of l.cone.rows) i [] ≡ l.image.items → ⊥
