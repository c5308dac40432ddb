use Rattle.std.proofs.Common.{◌≡◌, ℕ, ◌<◌}
use Rattle.lt_model.specs.Atlases.{place_at}
use Rattle.lt_merge.proofs.places.position_of.Given as goal

abbrev pub invariant-loop-position : goal.invariant-loop-position
invariant-loop-position l = (i : ℕ) → i < l.position → place_at l.atlas.queue i ≡ (l.entry, l.facet) → ⊥
