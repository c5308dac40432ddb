-- The parts of the atlas that has the principal type of the plane alone are right.
use Rattle.std.proofs.Common.{ℕ, sym, subst, ◌≡◌, List, [], ◌∷◌, length}
use Rattle.lt_model.specs.Cones.{Cone, IsRightCone}
use Rattle.lt_model.specs.Principal.{IsPrincipal, principal_numbers}
use Rattle.lt_model.specs.Triangulations.{IsDelaunay}
use Rattle.lt_model.specs.Walls.{IsAcross}
use Rattle.lt_model.specs.Atlases.{Classes, Entry, Mark, facets, opens}
use Rattle.lt_model.specs.RightAtlases.{AreRight}
use Rattle.lt_triang.specs.Kept.{dimension_of}
use Rattle.lt_triang.proofs.SomeForm.{delaunay_dimension}
use Rattle.lt_principal.proofs.Narrow.{principal_narrow}
use Rattle.lt_core.specs.Starts.{first_entry}
use Rattle.lt_core.proofs.Reaching.{classes_of_form}
use Rattle.lt_core.proofs.FirstEntry.{first_right}

pub parts_right : (t : Classes) (c : Cone) (es : List Entry) (mss : List (List Mark)) → es ≡ first_entry t c ∷ [] → mss ≡ opens (length (facets (first_entry t c))) ∷ [] → IsPrincipal 2 t → IsDelaunay 2 (principal_numbers 2) t → IsRightCone (dimension_of t) t c → AreRight (IsAcross 2) 2 es mss
parts_right t c es mss e m p h r =
    let right : IsRightCone 2 t c = subst (λ (d : ℕ). IsRightCone d t c) (sym (delaunay_dimension 2 (principal_numbers 2) t h)) r in
    rw (e, m) (first_right 2 t c p (classes_of_form 2 t (principal_numbers 2, h)) (principal_narrow 2 t t p (λ s x. x)) right)
