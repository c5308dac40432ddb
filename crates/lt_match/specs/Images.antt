-- Images of classes among the members of a triangulation, and matrices that take points to points.
use Rattle.std.specs.Prelude.{ℕ, suc, ℤ, ◌<◌, ◌≡◌, List, [], map, get_or}
use Rattle.std.specs.List.{Contains}
use Rattle.lt_model.specs.Matrices.{apply}
use Rattle.lt_model.specs.Simplices.{IsClassOf}

-- the class of the points is a member
abbrev pub HasClassOf : ℕ → List (List ℤ) → List (List (List ℤ)) → Type 0
HasClassOf d points t = (s : List (List ℤ)) × Contains t s × IsClassOf d points s

-- the class of the images of the points is a member
abbrev pub GoesInto : ℕ → List (List ℤ) → List (List ℤ) → List (List (List ℤ)) → Type 0
GoesInto d u points t = HasClassOf d (map (apply u) points) t

-- each point goes to the target at its place
abbrev pub TakesTo : ℕ → List (List ℤ) → List (List ℤ) → List (List ℤ) → Type 0
TakesTo d u points targets = (i : ℕ) → i < suc d → apply u (get_or points i []) ≡ get_or targets i []
