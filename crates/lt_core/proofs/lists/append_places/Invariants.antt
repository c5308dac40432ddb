use Rattle.std.proofs.Common.{◌≡◌, ◌≤◌, ◌+◌, ◌++◌, vec_len, vec_capacity}
use Rattle.lt_model.specs.Atlases.{places_from}
use Rattle.lt_core.proofs.lists.append_places.Given as goal

abbrev pub invariant-loop-facet : goal.invariant-loop-facet
invariant-loop-facet l = (l.queue.items ≡ l.initial.queue.items ++ places_from l.entry 0 l.facet) × (vec_len l.queue + l.count ≤ vec_capacity l.queue + l.facet)
