use Rattle.std.proofs.Common.{◌≡◌, ◌<◌, ◌≤◌, ℕ, get_or, []}
use Rattle.lt_core.proofs.atlas.Atlas.likely.Given as goal

abbrev pub invariant-loop-k : goal.invariant-loop-k
invariant-loop-k l = (i : ℕ) → i < l.k → l.from ≤ i → get_or l.self-inside.prints.items i [] ≡ l.print → ⊥
