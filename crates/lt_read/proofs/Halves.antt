-- The classes that a text lists tell the triangulation.
use Rattle.std.proofs.Common.{◌≡◌, ℕ, ◌<◌, ◌≤◌, ℤ, Bool, true, false, cond, refl, inl, inr, sym, ap, ap₂, ◌∙◌, subst, arith, List, [], ◌∷◌, map, length}
use Rattle.std.specs.Prelude.{nat_eq}
use Rattle.std.specs.List.{Contains}
use Rattle.lt_model.specs.Flat.{first_rows, flat}
use Rattle.lt_model.specs.Order.{simplex_cmp}
use Rattle.lt_model.specs.Simplices.{IsClass}
use Rattle.lt_model.specs.Negatives.{negative, comes_first, half}
use Rattle.lt_model.specs.Atlases.{Classes}
use Rattle.lt_model.specs.RightAtlases.{AreClasses}
use Rattle.lt_model.proofs.Flat.{first_rows-flat}
use Rattle.lt_model.proofs.Filtered.{from_filter}
use Rattle.lt_model.proofs.Sets.{Contains-head, Contains-tail, same_members, simplex_cmp_total}
use Rattle.lt_core.proofs.Crossings.{HasForm}
use Rattle.lt_laws.proofs.Halved.{halved}
use Rattle.lt_text.specs.Texts.{class_numbers}
use Rattle.lt_text.specs.Values.{listed}
use Rattle.lt_read.proofs.WideMarks.{numbers_flat}

-- classes are known by their numbers
same_class : (d : ℕ) (s r : List (List ℤ)) → IsClass d s → IsClass d r → class_numbers s ≡ class_numbers r → s ≡ r
same_class d s r h g e =
    sym (first_rows-flat d s h.simplex.points)
    ∙ ap (λ (n : ℕ). first_rows n d (flat s)) (h.simplex.count ∙ sym g.simplex.count)
    ∙ ap (first_rows (length r) d) (sym (numbers_flat s) ∙ e ∙ numbers_flat r)
    ∙ first_rows-flat d r g.simplex.points

same_classes : (d : ℕ) (t u : Classes) → AreClasses d t → AreClasses d u → map class_numbers t ≡ map class_numbers u → t ≡ u
same_classes d [] [] h g e = refl
same_classes d [] (r ∷ u) h g e = absurd (cc)
same_classes d (s ∷ t) [] h g e = absurd (cc)
same_classes d (s ∷ t) (r ∷ u) h g e =
    let first : class_numbers s ≡ class_numbers r = cc in
    let rest : map class_numbers t ≡ map class_numbers u = cc in
    ap₂ (λ z zs. z ∷ zs) (same_class d s r (h s (Contains-head s t)) (g r (Contains-head r u)) first)
    (same_classes d t u (λ x c. h x (Contains-tail s t x c)) (λ x c. g x (Contains-tail r u x c)) rest)

-- a listed class is a class of the triangulation
pub from_listed : (version : ℕ) (t : Classes) (s : List (List ℤ)) → Contains (listed version t) s → Contains t s
from_listed version t s c = by (nat_eq version 1) c
  where
    by : (b : Bool) → Contains (cond b t (half t)) s → Contains t s
    by true c = c
    by false c = from_filter comes_first t s c

-- and one is listed, but no more than there are
module _ (version d : ℕ) (t : Classes) (low : 2 ≤ d) (form : HasForm d t) where
  pub some_listed : 0 < length (listed version t)
  some_listed = by (nat_eq version 1)
    where
      by : (b : Bool) → 0 < length (cond b t (half t))
      by true = form.1.occupied
      by false = (let e = (halved d low form.0 t form.1).twice in let o = form.1.occupied in omega (arith, e, o))

  pub few_listed : length (listed version t) ≤ length t
  few_listed = by (nat_eq version 1)
    where
      by : (b : Bool) → length (cond b t (half t)) ≤ length t
      by true = omega arith
      by false = (let e = (halved d low form.0 t form.1).twice in omega (arith, e))

-- ---- one triangulation

classes_of_form : (d : ℕ) (t : Classes) → HasForm d t → AreClasses d t
classes_of_form d t form s c = ((form.1.members s).0 c).0

module _ (d : ℕ) (t u : Classes) (low : 2 ≤ d) (f : HasForm d t) (g : HasForm d u) where
  members_of : half t ≡ half u → (s : List (List ℤ)) → Contains t s → Contains u s
  members_of e s c =
      let k = classes_of_form d t f s c in
      ((halved d low g.0 u g.1).members s k).1 (elim (((halved d low f.0 t f.1).members s k).0 c) [
        | inl m ↦ inl (subst (λ (h : Classes). Contains h s) e m)
        | inr m ↦ inr (subst (λ (h : Classes). Contains h (negative s)) e m)
      ])

same_halves : (d : ℕ) (t u : Classes) → 2 ≤ d → HasForm d t → HasForm d u → half t ≡ half u → t ≡ u
same_halves d t u low f g e =
    same_members simplex_cmp simplex_cmp_total t u f.1.ascending g.1.ascending (λ s. (members_of d t u low f g e s, members_of d u t low g f (sym e) s))

half_classes : (d : ℕ) (t : Classes) → HasForm d t → AreClasses d (half t)
half_classes d t f s c = classes_of_form d t f s (from_filter comes_first t s c)

pub same_listed : (version d : ℕ) (t u : Classes) → 2 ≤ d → HasForm d t → HasForm d u → map class_numbers (listed version t) ≡ map class_numbers (listed version u) → t ≡ u
same_listed version d t u low f g e = by (nat_eq version 1) e
  where
    by : (b : Bool) → map class_numbers (cond b t (half t)) ≡ map class_numbers (cond b u (half u)) → t ≡ u
    by true e = same_classes d t u (classes_of_form d t f) (classes_of_form d u g) e
    by false e = same_halves d t u low f g (same_classes d (half t) (half u) (half_classes d t f) (half_classes d u g) e)
