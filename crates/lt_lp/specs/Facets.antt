-- The rows of a cone with a wall form.
use Rattle.std.specs.Prelude.{Bool, true, false, List, [], ◌∷◌, cond}
use Rattle.lt_model.specs.Cones.{Verdict, wall, combination, Row}

abbrev pub has_wall : Verdict → Bool
has_wall (wall w) = true
has_wall (combination factor terms) = false

-- the rows with a wall form, in their order
abbrev pub wall_rows : List Row → List Row
wall_rows [] = []
wall_rows (r ∷ rows) = cond (has_wall r.verdict) (r ∷ wall_rows rows) (wall_rows rows)
