-- What the faults of cones mean, and which rows of a right cone are facets.
use Rattle.std.specs.Prelude.{ℕ, ℤ, ◌<◌, ◌≡◌, ◌↔◌, true, List, length, get_or}
use Rattle.lt_model.specs.Cones.{Row, Cone, IsRightCone}
use Rattle.lt_model.specs.Walls.{AreRegulators, IsFacet}
use Rattle.lt_lp.specs.Facets.{has_wall}
use Rattle.lt_cone.specs.declared.error.ConeFault.TheVariants.{Wrong}
use Rattle.lt_cone.specs.Faults.{IsFault}

-- a cone with a fault is not right
abbrev pub NoRightConeHasAFault : Type 0
NoRightConeHasAFault =
    (d : ℕ) (t : List (List (List ℤ))) (c : Cone) (ns : List (List ℤ)) (row : ℕ) → AreRegulators d t ns → IsRightCone d t c → IsFault d ns c (Wrong row) → ⊥

-- in a right cone a regulator has a wall form exactly where its row has one
abbrev pub FacetsAreWallRows : Type 0
FacetsAreWallRows =
    (d : ℕ) (t : List (List (List ℤ))) (c : Cone) (k : ℕ) (r : Row) → IsRightCone d t c → k < length c.rows →
    (has_wall (get_or c.rows k r).verdict ≡ true) ↔ IsFacet d t (get_or c.rows k r).normal
