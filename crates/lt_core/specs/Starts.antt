-- The atlas that a run starts from.
use Rattle.std.specs.Prelude.{ℕ, ℤ, ◌≡◌, ◌≤◌, ◌<◌, List, [], ◌∷◌, length}
use Rattle.std.specs.declared.option.Option.TheVariants.{None}
use Rattle.lt_model.specs.Cones.{Cone, IsRightCone}
use Rattle.lt_model.specs.Limits.{weight, weight_limit}
use Rattle.lt_model.specs.Walls.{AreRegulators}
use Rattle.lt_model.specs.Principal.{IsPrincipal}
use Rattle.lt_model.specs.Atlases.{Classes, Entry, facets, opens}
use Rattle.lt_model.specs.Atlases as model
use Rattle.lt_model.specs.RightAtlases.{fresh_atlas}

-- the entry of a triangulation across no facet
abbrev pub first_entry : Classes → Cone → Entry
first_entry t c = record { triangulation = t; cone = c; origin = None }

-- it has the principal type alone, with a right cone and every facet open
pub record IsStarting (d : ℕ) (a : model.Atlas) : Type 0 where
  pub triangulation : Classes
  pub cone : Cone
  pub principal : IsPrincipal d triangulation
  pub right : IsRightCone d triangulation cone
  pub atlas : a ≡ fresh_atlas d (first_entry triangulation cone ∷ []) (opens (length (facets (first_entry triangulation cone))) ∷ [])

-- no principal type is heavy
abbrev pub PrincipalTypesAreLight : Type 0
PrincipalTypesAreLight = (d : ℕ) (t : Classes) (ns : List (List ℤ)) → 2 ≤ d → d ≤ 6 → IsPrincipal d t → AreRegulators d t ns → weight d ns < weight_limit
