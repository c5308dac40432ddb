use Rattle.std.proofs.Common.{ℕ, ◌<◌}
use Rattle.lt_tableau.specs.Errors.{AreOfDimension}
use Rattle.lt_locate.specs.Facing.{IsMetAt}
use Rattle.lt_locate.proofs.facing.first_facet.Given as goal

abbrev pub invariant-loop-k : goal.invariant-loop-k
invariant-loop-k l = (d : ℕ) → AreOfDimension d l.normals → (j : ℕ) → j < l.k → IsMetAt d l.normals l.q l.sign j → ⊥
