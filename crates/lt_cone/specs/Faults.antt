-- What is wrong with a cone.
use Rattle.std.specs.Prelude.{◌≡◌, ◌⊎◌, ◌<◌, ◌≤◌, ◌+◌, ◌^◌, ℕ, ℤ, List, [], length, get_or}
use Rattle.lt_model.specs.Cones.{Row, Cone, IsRightVerdict, sum_of_walls}
use Rattle.lt_model.specs.Forms.{numbers_of_form}
use Rattle.lt_model.specs.Limits.{weight, weight_limit}
use Rattle.lt_model.specs.Walls.{AreRegulators}
use Rattle.lt_lp.specs.Reduced.{IsReduced}
use Rattle.lt_cone.specs.declared.error.ConeFault.{ConeFault}
use Rattle.lt_cone.specs.declared.error.ConeFault.TheVariants.{Wrong, Memory}

-- there is a row at place k, with the k-th normal and a right verdict on it
abbrev pub IsRowOf : ℕ → List (List ℤ) → List Row → ℕ → Type 0
IsRowOf d ns rows k = (k < length rows) × ((r : Row) → ((get_or rows k r).normal ≡ get_or ns k []) × IsRightVerdict d ns k (get_or rows k r).verdict)

-- the first wrong row; the number of normals where the rows are right; one more where the weight is too large
abbrev pub IsFault : ℕ → List (List ℤ) → Cone → ConeFault → Type 0
IsFault d ns c Memory = Unit
IsFault d ns c (Wrong row) =
    ((weight_limit ≤ weight d ns) × (row ≡ length ns + 1))
    ⊎ ((weight d ns < weight_limit) × (row < length ns) × ((k : ℕ) → k < row → IsRowOf d ns c.rows k) × (IsRowOf d ns c.rows row → ⊥))
    ⊎ ((weight d ns < weight_limit) × (row ≡ length ns) × ((k : ℕ) → k < row → IsRowOf d ns c.rows k)
    × ((length c.rows ≡ length ns) × IsReduced (sum_of_walls (numbers_of_form d) c.rows) c.form → ⊥))

-- the triangulation has the list of its regulators, and the fault is one of it
abbrev pub HasFault : ℕ → List (List (List ℤ)) → Cone → ConeFault → Type 0
HasFault d t c Memory = Unit
HasFault d t c (Wrong row) = (ns : List (List ℤ)) × AreRegulators d t ns × IsFault d ns c (Wrong row)

-- the place of a fault is small
abbrev pub IsSmallFault : ConeFault → Type 0
IsSmallFault Memory = Unit
IsSmallFault (Wrong row) = row ≤ 2 ^ 29 + 1
