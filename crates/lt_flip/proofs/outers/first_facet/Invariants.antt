use Rattle.std.proofs.Common.{ℕ, ◌<◌, [], get_or}
use Rattle.lt_triang.specs.Kept.{dimension_of}
use Rattle.lt_geometry.specs.Regulators.{IsRegulatorAt}
use Rattle.lt_flip.proofs.outers.first_facet.Given as goal

abbrev pub invariant-loop-facet : goal.invariant-loop-facet
invariant-loop-facet l = (i : ℕ) → i < l.facet → IsRegulatorAt (dimension_of l.t) l.t (get_or l.t l.class []) i l.normal → ⊥
