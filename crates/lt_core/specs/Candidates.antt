-- Entries that are to be appended.
use Rattle.std.specs.Prelude.{ℕ, ℤ, List}
use Rattle.std.specs.declared.option.Option.TheVariants.{Some}
use Rattle.lt_model.specs.Cones.{Cone}
use Rattle.lt_model.specs.Atlases as model

-- the entry that the triangulation and the cone make at the place at position p
abbrev pub candidate : model.Atlas → ℕ → List (List (List ℤ)) → Cone → model.Entry
candidate a p t c = record { triangulation = t; cone = c; origin = Some (model.place_at a.queue p) }
