-- The principal triangulation as a value: its points are classes, and no facet is open.
use Rattle.std.proofs.Common.{◌≡◌, ℕ, zero, suc, ℤ, pos, negsuc, ◌<◌, ◌≤◌, ◌-◌, refl, ap, arith, sym, ◌∙◌, subst, List, [], ◌∷◌, length, get_or, ◌↔◌}
use Rattle.std.specs.List.{Contains}
use Rattle.std.specs.List.Sorted.{IsStrictlySortedBy}
use Rattle.lt_model.specs.Order.{simplex_cmp}
use Rattle.std.proofs.lemmas.List.Elements.{Contains-get_or}
use Rattle.lt_model.specs.Vectors.{zeros}
use Rattle.lt_model.specs.Simplices.{IsClass, IsClassOf}
use Rattle.lt_model.specs.Principal.{IsOrder, IsPrincipal, principal_class}
use Rattle.lt_model.specs.Limits.{span, span_limit}
use Rattle.lt_geometry.proofs.Paths.{principal_is_class}
use Rattle.lt_geometry.proofs.Neighbours.{principal_closed, down_from, down_order}
use Rattle.lt_geometry.proofs.Classes.{one_class, own_class}
use Rattle.lt_triang.specs.Across.{IsOpen, IsOpenAnswer}
use Rattle.lt_triang.specs.Flat.{IsClassAt, IsFlat, leading}
use Rattle.lt_triang.specs.Kept.{IsTriangulation, AreClasses}
use Rattle.lt_triang.proofs.Made.{not_open}
use Rattle.lt_triang.specs.Bounds.{AreNear}
use Rattle.lt_triang.proofs.Signs.{leading_primitive}
use Rattle.lt_triang.proofs.Gaps.{member_near}
use Rattle.lt_principal.proofs.Narrow.{principal_narrow}

-- the class of a class's own vertices is that class
pub class_at_own : (d : ℕ) (s r : List (List ℤ)) (p : List ℤ) → IsClass d s → IsClassAt d s r p → r ≡ s
class_at_own d s r p c h =
    let at : IsClassOf d s r = record { shift = p; dimension = h.dimension; «class» = h.«class»; same = λ x. h.same x } in
    one_class d s r s at (own_class d s c)

pub member_is_class : (d : ℕ) (t : List (List (List ℤ))) (s : List (List ℤ)) → IsPrincipal d t → Contains t s → IsClass d s
member_is_class d t s h c = of_order ((h.members s).0 c)
  where
    of_order : (p : List ℕ) × IsOrder d p × (s ≡ principal_class d p) → IsClass d s
    of_order (p, o, e) = subst (IsClass d) (sym e) (principal_is_class d p o)

pub are_classes : (d : ℕ) (t : List (List (List ℤ))) → 2 ≤ d → d ≤ 6 → IsPrincipal d t → AreClasses d t
are_classes d t l h p = record {
  low = l;
  high = h;
  classes = λ s c. member_is_class d t s p c;
  narrow = principal_narrow d t t p (λ s c. c);
}

-- a list in ascending order with the members of the principal triangulation is it
pub same_principal : (d : ℕ) (t given : List (List (List ℤ))) → IsStrictlySortedBy simplex_cmp t → IsPrincipal d given → ((s : List (List ℤ)) → Contains t s ↔ Contains given s) → IsPrincipal d t
same_principal d t given up h same = record {
  ascending = up;
  members = λ s. (λ c. (h.members s).0 ((same s).0 c), λ o. (same s).1 ((h.members s).1 o));
}

-- it has no open facet
pub none_open : (d : ℕ) (given : List (List (List ℤ))) (n i : ℕ) → 2 ≤ d → d ≤ 6 → IsPrincipal d given → IsOpenAnswer d given n i → ⊥
none_open d given n i l h p a =
    let q : IsPrincipal d a.t = record { ascending = a.ascending; members = λ s. (λ c. (p.members s).0 ((a.members s).0 c), λ o. (a.members s).1 ((p.members s).1 o)) } in
    let k : AreClasses d a.t = are_classes d a.t l h q in
    let t : IsTriangulation d a.t = record {
      low = l;
      high = h;
      occupied = omega (arith, a.first.member);
      ascending = a.ascending;
      classes = λ s c. k.classes s c;
      closed = λ s j c g. principal_closed d a.t (omega arith) q s j c g;
      narrow = k.narrow;
    } in
    not_open d a.t (get_or a.t n []) i t (Contains-get_or a.t n [] a.first.member) a.first.facet.place (λ m j g k. a.first.facet.none m j g k)

-- independent points aren't flat
pub not_flat : (d : ℕ) (s : List (List ℤ)) (terms : List ℤ) → IsClass d s → IsFlat d s terms → ⊥
not_flat d s terms c f =
    let e : terms ≡ zeros (length s) = c.simplex.independent terms f.one_each f.total_is f.sum in
    leading_primitive terms f.primitive (ap leading e ∙ leading-zeros (length s))
  where
    leading-zeros : (n : ℕ) → leading (zeros n) ≡ pos 0
    leading-zeros zero = refl
    leading-zeros (suc n) = leading-zeros n

-- the points of a member differ by no more than the limit
pub near_member : (d : ℕ) (t : List (List (List ℤ))) (n : ℕ) → AreClasses d t → n < length t → AreNear (span_limit d) (get_or t n [])
near_member d t n h l = member_near d t (get_or t n []) h (Contains-get_or t n [] l)

pub some_member : (d : ℕ) (t : List (List (List ℤ))) → IsPrincipal d t → 0 < length t
some_member d t h =
    let c = (h.members (principal_class d (down_from d))).1 (down_from d, down_order d, refl) in
    omega (arith, c.1)

pub first_length : (d : ℕ) (t : List (List (List ℤ))) → IsPrincipal d t → length (get_or t 0 []) - 1 ≡ d
first_length d t h =
    let c = member_is_class d t (get_or t 0 []) h (Contains-get_or t 0 [] (some_member d t h)) in
    omega (arith, c.simplex.count)
