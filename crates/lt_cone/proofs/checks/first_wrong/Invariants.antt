use Rattle.std.proofs.Common.{◌<◌, ℕ}
use Rattle.lt_tableau.specs.Errors.{AreOfDimension}
use Rattle.lt_cone.specs.Faults.{IsRowOf}
use Rattle.lt_cone.proofs.checks.first_wrong.Given as goal

abbrev pub invariant-loop-k : goal.invariant-loop-k
invariant-loop-k l = (d : ℕ) → AreOfDimension d l.normals → (j : ℕ) → j < l.k → IsRowOf d l.normals l.rows j
