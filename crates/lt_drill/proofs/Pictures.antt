-- The image that is answered is of the dimension of its origin, and within the limit.
use Rattle.std.proofs.Common.{◌≡◌, ℕ, ℤ, arith, sym, ◌∙◌, subst, List, [], get_or}
use Rattle.lt_model.specs.Matrices.{Carries}
use Rattle.lt_model.specs.Simplices.{IsClass}
use Rattle.lt_geometry.proofs.Images.{classes_carried}
use Rattle.lt_geometry.proofs.Carried.{delaunay_carried}
use Rattle.lt_geometry.proofs.Induced.{pulled}
use Rattle.lt_model.specs.Triangulations.{IsDelaunay}
use Rattle.lt_triang.specs.Kept.{IsTriangulation, dimension_of, IsOfSomeForm}
use Rattle.lt_triang.proofs.SomeForm.{some_form}
use Rattle.lt_match.proofs.Tested.{first_member, dimension_is}
use Rattle.lt_match.specs.Wide.{IsWideImage}
use Rattle.lt_drill.specs.Scrambles.{IsNarrowImage, HasWideImage}

-- a triangulation onto which one of dimension d is carried is of dimension d
pub same_dimension : (d e : ℕ) (u : List (List ℤ)) (t r : List (List (List ℤ))) → IsTriangulation d t → IsTriangulation e r → Carries d u t r → IsTriangulation d r
same_dimension d e u t r h k carries =
    let one : IsClass d (get_or r 0 []) = classes_carried d u t r h.classes carries (get_or r 0 []) (first_member e r k) in
    let other : IsClass e (get_or r 0 []) = k.classes (get_or r 0 []) (first_member e r k) in
    let same : e ≡ d = omega (arith, one.simplex.count, other.simplex.count) in
    subst (λ n. IsTriangulation n r) same k

pub narrow : (e f n : ℕ) (u : List (List ℤ)) (t r : List (List (List ℤ))) → IsTriangulation e t → dimension_of t ≡ n → IsTriangulation f r → Carries n u t r → IsNarrowImage n u t r
narrow e f n u t r h is k carries =
    let same : e ≡ n = sym (dimension_is e t h) ∙ is in
    record { carries = carries; triangulation = same_dimension n f u t r (subst (λ m. IsTriangulation m t) same h) k carries }

pub wide : (n : ℕ) (u : List (List ℤ)) (t : List (List (List ℤ))) (w : ℤ) → IsWideImage n u t w → HasWideImage n u t
wide n u t w h = record { list = h.list; is_image = record { carries = h.carries; ascending = h.ascending }; wide = h.above }

-- the image of the triangulation of a form is that of a form
pub image_form : (d : ℕ) (u : List (List ℤ)) (t r : List (List (List ℤ))) → IsTriangulation d t → IsTriangulation d r → Carries d u t r → IsOfSomeForm t → IsOfSomeForm r
image_form d u t r h k carries (q, is) =
    some_form d (pulled q carries.inverse) r (delaunay_carried d u t r q carries k.ascending (subst (λ m. IsDelaunay m q t) (dimension_is d t h) is))
