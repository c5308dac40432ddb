-- The class of a set of points is unique; a class is that of its own vertices in any order.
use Rattle.std.proofs.Common.{◌≡◌, ℕ, ℤ, negsuc, ◌<◌, refl, ap, ap₂, arith, sym, ◌∙◌, subst, List, [], ◌∷◌, length, get_or}
use Rattle.std.specs.List.{Contains}
use Rattle.lt_model.specs.Order.{number_list_cmp}
use Rattle.lt_model.specs.Vectors.{plus, scale, zeros}
use Rattle.lt_model.specs.Simplices.{IsClass, IsClassOf, translate}
use Rattle.lt_model.proofs.Opposite.{length-zeros}
use Rattle.lt_model.proofs.Sets.{same_members, number_list_cmp_total}
use Rattle.lt_model.proofs.Moved.{translate-back}
use Rattle.lt_model.proofs.Translates.{ascending_translate}
use Rattle.lt_geometry.proofs.LocalWalk.{zeros-plus}
use Rattle.lt_geometry.proofs.Closed.{translate-zeros}

pub first_of_translate : (p : List ℤ) (vs : List (List ℤ)) → 0 < length vs → get_or (translate p vs) 0 [] ≡ plus (get_or vs 0 []) p
first_of_translate p [] h = absurd (omega arith)
first_of_translate p (v ∷ vs) h = refl

-- a class and its shift are those of the translate
pub same_translate : (d : ℕ) (s s' : List (List ℤ)) (p p' : List ℤ) → IsClass d s → IsClass d s' → length p ≡ d → length p' ≡ d → translate p s ≡ translate p' s' → (s ≡ s') × (p ≡ p')
same_translate d s s' p p' c c' l l' up =
    let first : (r : List (List ℤ)) (q : List ℤ) → IsClass d r → length q ≡ d → get_or (translate q r) 0 [] ≡ q = λ r q k m. first_of_translate q r (omega (arith, k.simplex.count)) ∙ ap (λ (v : List ℤ). plus v q) k.first ∙ zeros-plus d q m in
    let shifts : p ≡ p' = sym (first s p c l) ∙ ap (λ (r : List (List ℤ)). get_or r 0 []) up ∙ first s' p' c' l' in
    (sym (translate-back d s p c.simplex.points l) ∙ ap₂ (λ (q : List ℤ) (r : List (List ℤ)). translate (scale (negsuc 0) q) r) shifts up ∙ translate-back d s' p' c'.simplex.points l', shifts)

-- a set of points has one class
pub one_class : (d : ℕ) (ps s s' : List (List ℤ)) → IsClassOf d ps s → IsClassOf d ps s' → s ≡ s'
one_class d ps s s' h k =
    let ch = h.«class» in
    let ck = k.«class» in
    let up : translate h.shift s ≡ translate k.shift s' =
    same_members number_list_cmp number_list_cmp_total (translate h.shift s) (translate k.shift s') (ascending_translate d h.shift s h.dimension ch.simplex.points ch.ascending) (ascending_translate d k.shift s' k.dimension ck.simplex.points ck.ascending)
    (λ x. (λ c. (k.same x).0 ((h.same x).1 c), λ c. (h.same x).0 ((k.same x).1 c)))
    in
    (same_translate d s s' h.shift k.shift ch ck h.dimension k.dimension up).0

-- the class of its own vertices
pub own_class : (d : ℕ) (s : List (List ℤ)) → IsClass d s → IsClassOf d s s
own_class d s c =
    let e : translate (zeros d) s ≡ s = translate-zeros d s c.simplex.points in
    record {
      shift = zeros d;
      dimension = length-zeros d;
      «class» = c;
      same = λ x. (subst (λ (l : List (List ℤ)). Contains l x) (sym e), subst (λ (l : List (List ℤ)). Contains l x) e);
    }
