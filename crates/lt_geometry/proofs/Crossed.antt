-- Crossings of facets are carried.
use Rattle.std.proofs.Common.{◌≡◌, ℕ, zero, suc, ℤ, pos, negsuc, ◌*ℤ◌, ◌<ℤ◌, ◌<◌, ◌⊎◌, refl, ap, arith, sym, ◌∙◌, subst, List, [], ◌∷◌, length, get_or, inl, inr}
use Rattle.std.specs.List.{Contains}
use Rattle.std.specs.List.Sorted.{IsStrictlySortedBy}
use Rattle.lt_model.specs.Facets.{without, number_at}
use Rattle.lt_model.specs.Flips.{IsExchanged, IsFlipOf}
use Rattle.lt_model.specs.Forms.{numbers_of_form}
use Rattle.lt_model.specs.Matrices.{apply, Carries}
use Rattle.lt_model.specs.Order.{simplex_cmp}
use Rattle.lt_model.specs.Simplices.{IsClass, IsClassOf, translate}
use Rattle.lt_model.specs.Triangulations.{IsDelaunay}
use Rattle.lt_model.specs.Vectors.{minus, scale}
use Rattle.lt_model.specs.Walls.{IsPair, IsFacet, IsAcross}
use Rattle.lt_model.proofs.Sets.{Contains-head, Contains-tail, Contains-cases, Contains-none, simplex_cmp_total}
use Rattle.lt_model.proofs.Walk.{number_at-scale}
use Rattle.lt_geometry.specs.Carrying.{IsCrossingOnto, AreClasses}
use Rattle.lt_geometry.proofs.Carried.{carried_numbers, HasCarriedPlace, carried_place, image_without, image_members, carried_shift, image_translated, length-carried_shift, delaunay_carried}
use Rattle.lt_geometry.proofs.Images.{IsImage, class_distinct, IsCarried, carried_back, HasCarried, has_carried, carried_unique, HasOrigin, carries_by, carries_to, carries_from, carries_undone, carries_back, classes_carried}
use Rattle.lt_geometry.proofs.Induced.{induced, pulled, pulled-beyond, normal_back}
use Rattle.lt_geometry.proofs.Matrices.{IsUndone, undone_back}
use Rattle.lt_geometry.proofs.Motions.{moved}
use Rattle.lt_geometry.proofs.Regulated.{pair_carried, wall_form_carried, facet_carried, length-regulator}
use Rattle.lt_geometry.proofs.Sorting.{sorted, HasSorted, simplex_cmp_exact}

-- ---- the image of a triangulation

pub record HasImages (d : ℕ) (u v : List (List ℤ)) (t : List (List (List ℤ))) : Type 0 where
  pub list : List (List (List ℤ))
  pub count : length list ≡ length t
  pub at : (i : ℕ) → i < length t → IsCarried d u v (get_or t i []) (get_or list i [])
  pub to : (s s2 : List (List ℤ)) → Contains t s → IsCarried d u v s s2 → Contains list s2
  pub from : (s2 : List (List ℤ)) → Contains list s2 → HasOrigin d u v t s2

pub images : (d : ℕ) (u v : List (List ℤ)) (t : List (List (List ℤ))) → IsUndone d u v → AreClasses d t → HasImages d u v t
images d u v [] h classes = record { list = []; count = refl; at = λ i l. absurd (omega arith); to = λ s s2 m c. Contains-none s m; from = λ s2 m. Contains-none s2 m }
images d u v (r ∷ t) h classes =
    let rest = images d u v t h (λ s m. classes s (Contains-tail r t s m)) in
    let first = has_carried d u v r h (classes r (Contains-head r t)) in
    record {
      list = first.list ∷ rest.list;
      count = ap suc rest.count;
      at = λ i l. at first.list rest.list first.is rest.at i l;
      to = λ s s2 m c. elim (Contains-cases r t s m) [
        | inl e ↦ subst (λ (z : List (List ℤ)). Contains (first.list ∷ rest.list) z) (carried_unique d u v r first.list s2 first.is (subst (λ (z : List (List ℤ)). IsCarried d u v z s2) (sym e) c)) (Contains-head first.list rest.list)
        | inr k ↦ Contains-tail first.list rest.list s2 (rest.to s s2 k c)
      ];
      from = λ s2 m. elim (Contains-cases first.list rest.list s2 m) [
        | inl e ↦ record { list = r; member = Contains-head r t; is = subst (λ (z : List (List ℤ)). IsCarried d u v r z) e first.is }
        | inr k ↦ let o = rest.from s2 k in record { list = o.list; member = Contains-tail r t o.list o.member; is = o.is }
      ];
    }
  where
    at : (l : List (List ℤ)) (ls : List (List (List ℤ))) → IsCarried d u v r l → ((i : ℕ) → i < length t → IsCarried d u v (get_or t i []) (get_or ls i [])) → (i : ℕ) → i < suc (length t) → IsCarried d u v (get_or (r ∷ t) i []) (get_or (l ∷ ls) i [])
    at l ls f g zero h = f
    at l ls f g (suc i) h = g i (omega arith)

pub record HasImage (d : ℕ) (u v : List (List ℤ)) (t : List (List (List ℤ))) : Type 0 where
  pub list : List (List (List ℤ))
  pub ascending : IsStrictlySortedBy simplex_cmp list
  pub carries : Carries d u t list
  pub inverse : carries.inverse ≡ v

-- each list of classes has an ascending list onto which u carries it
pub has_image : (d : ℕ) (u v : List (List ℤ)) (t : List (List (List ℤ))) → IsUndone d u v → AreClasses d t → HasImage d u v t
unfolding carries_by
has_image d u v t h classes =
    let k : HasImages d u v t = images d u v t h classes in
    let l : HasSorted simplex_cmp simplex_cmp_total simplex_cmp_exact k.list = sorted simplex_cmp simplex_cmp_total simplex_cmp_exact k.list in
    record {
      list = l.list;
      ascending = l.ascending;
      carries = carries_by d u v t l.list h classes (λ s s2 m c. (l.members s2).1 (k.to s s2 m c)) (λ s2 m. k.from s2 ((l.members s2).0 m));
      inverse = refl;
    }

-- ---- across

pub record HasCarriedAcross (d : ℕ) (u : List (List ℤ)) (p : List (List (List ℤ))) (n : List ℤ) (t2 : List (List (List ℤ))) : Type 0 where
  pub list : List (List (List ℤ))
  pub across : IsAcross d p (apply (induced u) n) list
  pub carries : Carries d u t2 list

-- what is across a facet goes to what is across the image of the facet
pub across_carried : (d : ℕ) (u : List (List ℤ)) (t p : List (List (List ℤ))) (n : List ℤ) (t2 : List (List (List ℤ))) → IsStrictlySortedBy simplex_cmp p → Carries d u t p → IsAcross d t n t2 → HasCarriedAcross d u p n t2
across_carried d u t p n t2 asc h a = record {
  list = p2.list;
  across = record {
    wall = pulled a.wall v;
    wall_form = wall_form_carried d u t p n a.wall (λ s m. ((a.delaunay.members s).0 m).0) h a.wall_form;
    form = pulled a.form v;
    delaunay = delaunay_carried d u t p a.form h asc a.delaunay;
    bound = a.bound;
    beyond = λ m large. subst (λ (q : List ℤ). IsDelaunay d q p2.list) (ap (pulled (minus (scale (pos m) a.wall) a.form)) p2.inverse ∙ pulled-beyond (pos m) a.wall a.form v)
        (delaunay_carried d u t2 p2.list (minus (scale (pos m) a.wall) a.form) p2.carries p2.ascending (a.beyond m large));
  };
  carries = p2.carries;
}
  where
    v : List (List ℤ)
    v = h.inverse

    classes2 : AreClasses d t2
    classes2 s m = (((a.beyond a.bound (omega arith)).members s).0 m).0

    p2 : HasImage d u v t2
    p2 = has_image d u v t2 (carries_undone d u t p h) classes2

-- ---- the flip

class_carried : (d : ℕ) (u v : List (List ℤ)) (t : List ℤ) (points points2 s s2 : List (List ℤ)) → length u ≡ d → length t ≡ d → IsImage u t points points2 → (k : IsCarried d u v s s2) → IsClassOf d points s → IsClassOf d points2 s2
class_carried d u v t points points2 s s2 lu lt h k c = record {
  shift = p2;
  dimension = length-carried_shift d u t c.shift k.shift lu lt k.motion.shift;
  «class» = k.target;
  same = λ x. (λ m. image_members u t points points2 (translate p2 s2) h moved_points x m, λ m. image_members u t points (translate p2 s2) points2 moved_points h x m);
}
  where
    p2 : List ℤ
    p2 = carried_shift u t c.shift k.shift

    whole : IsImage u t (translate c.shift s) (translate p2 s2)
    whole = image_translated d u t c.shift k.shift s s2 lu lt k.motion.shift k.image

    moved_points : IsImage u t points (translate p2 s2)
    moved_points = record { to = λ x m. whole.to x ((c.same x).0 m); from = λ y m. back (whole.from y m) }
      where
        back : {y : List ℤ} → ((x : List ℤ) × Contains (translate c.shift s) x × (moved u t x ≡ y)) → (x : List ℤ) × Contains points x × (moved u t x ≡ y)
        back (x, m, e) = (x, (c.same x).1 m, e)

image_more : (u : List (List ℤ)) (t x : List ℤ) (s s2 : List (List ℤ)) → IsImage u t s s2 → IsImage u t (x ∷ s) (moved u t x ∷ s2)
image_more u t x s s2 h = record {
  to = λ y m. elim (Contains-cases x s y m) [
    | inl e ↦ subst (λ (z : List ℤ). Contains (moved u t x ∷ s2) (moved u t z)) e (Contains-head (moved u t x) s2)
    | inr r ↦ Contains-tail (moved u t x) s2 (moved u t y) (h.to y r)
  ];
  from = λ y m. elim (Contains-cases (moved u t x) s2 y m) [
    | inl e ↦ (x, Contains-head x s, e)
    | inr r ↦ more y (h.from y r)
  ];
}
  where
    more : (y : List ℤ) → ((z : List ℤ) × Contains s z × (moved u t z ≡ y)) → (z : List ℤ) × Contains (x ∷ s) z × (moved u t z ≡ y)
    more y (z, m, e) = (z, Contains-tail x s z m, e)

-- a class that the flip takes or adds goes to one that the flip at the image takes or adds
pub exchanged_carried : (d : ℕ) (u : List (List ℤ)) (t p : List (List (List ℤ))) (n : List ℤ) (sign : ℤ) (s s2 : List (List ℤ)) → AreClasses d t → (h : Carries d u t p) → IsCarried d u h.inverse s s2 → IsExchanged d t n sign s → IsExchanged d p (apply (induced u) n) sign s2
exchanged_carried d u t p n sign s s2 classes h k e = by e.place e.within e.side e.class_of
  where
    v : List (List ℤ)
    v = h.inverse

    b : HasCarried d u v e.base
    b = has_carried d u v e.base (carries_undone d u t p h) (classes e.base e.pair.member)

    lu : length u ≡ d
    lu = h.square.rows

    numbers : List ℤ
    numbers = carried_numbers d u v e.base b.list b.is e.b

    pair : IsPair d p (apply (induced u) n) b.list (moved u b.is.shift e.vertex) e.c numbers
    pair = pair_carried d u t p n e.base b.list e.vertex e.c e.b classes h b.is e.pair

    by : (place : ℕ) → place < suc (suc d) → pos 0 <ℤ (sign *ℤ number_at place (e.c ∷ scale (negsuc 0) e.b)) → IsClassOf d (without place (e.vertex ∷ e.base)) s → IsExchanged d p (apply (induced u) n) sign s2
    by zero l side c = record {
      base = b.list;
      vertex = moved u b.is.shift e.vertex;
      c = e.c;
      b = numbers;
      pair = pair;
      place = 0;
      within = omega arith;
      side = side;
      class_of = class_carried d u v b.is.shift e.base b.list s s2 lu b.is.motion.shift b.is.image k c;
    }
    by (suc i) l side c =
        let f : HasCarriedPlace d u v e.base b.list b.is i = carried_place d u v e.base b.list i b.is (omega arith) in
        let same : number_at f.place (scale (negsuc 0) numbers) ≡ number_at i (scale (negsuc 0) e.b) =
        number_at-scale f.place (negsuc 0) numbers ∙ ap (λ z. negsuc 0 *ℤ z) (f.number e.b e.pair.expression.one_each) ∙ sym (number_at-scale i (negsuc 0) e.b)
        in
        let less : IsImage u b.is.shift (without i e.base) (without f.place b.list) =
        image_without d u b.is.shift v b.is.back e.base b.list i f.place b.is.motion b.is.image b.is.origin.simplex.points (class_distinct d e.base b.is.origin) (class_distinct d b.list b.is.target)
        (omega (arith, b.is.origin.simplex.count, l)) (omega (arith, b.is.target.simplex.count, f.within)) f.vertex
        in
        record {
          base = b.list;
          vertex = moved u b.is.shift e.vertex;
          c = e.c;
          b = numbers;
          pair = pair;
          place = suc f.place;
          within = omega (arith, f.within);
          side = subst (λ (z : ℤ). pos 0 <ℤ (sign *ℤ z)) (sym same) side;
          class_of = class_carried d u v b.is.shift (e.vertex ∷ without i e.base) (moved u b.is.shift e.vertex ∷ without f.place b.list) s s2 lu b.is.motion.shift (image_more u b.is.shift e.vertex (without i e.base) (without f.place b.list) less) k c;
        }

pub record HasCarriedFlip (d : ℕ) (u : List (List ℤ)) (p : List (List (List ℤ))) (n : List ℤ) (t2 : List (List (List ℤ))) : Type 0 where
  pub list : List (List (List ℤ))
  pub flip : IsFlipOf d p (apply (induced u) n) list
  pub carries : Carries d u t2 list

-- the flip at a normal goes to the flip at the image of the normal
pub flip_carried : (d : ℕ) (u : List (List ℤ)) (t p : List (List (List ℤ))) (n : List ℤ) (t2 : List (List (List ℤ))) → AreClasses d t → length n ≡ numbers_of_form d → Carries d u t p → IsFlipOf d t n t2 → HasCarriedFlip d u p n t2
unfolding carries_by carries_back carried_back
flip_carried d u t p n t2 classes ln h f = record {
  list = p2.list;
  flip = record { ascending = p2.ascending; members = λ s2. (λ m. to s2 (origin s2 m), λ c. from s2 c) };
  carries = p2.carries;
}
  where
    v : List (List ℤ)
    v = h.inverse

    undo : IsUndone d u v
    undo = carries_undone d u t p h

    back : Carries d v p t
    back = carries_back d u t p classes h

    n2 : List ℤ
    n2 = apply (induced u) n

    of_either : (s : List (List ℤ)) → (Contains t s × (IsExchanged d t n (pos 1) s → ⊥)) ⊎ IsExchanged d t n (negsuc 0) s → IsClass d s
    of_either s (inl c) = classes s c.0
    of_either s (inr e) = e.class_of.«class»

    classes2 : AreClasses d t2
    classes2 s m = of_either s ((f.members s).0 m)

    p2 : HasImage d u v t2
    p2 = has_image d u v t2 undo classes2

    origin : (s2 : List (List ℤ)) → Contains p2.list s2 → HasOrigin d u v t2 s2
    origin s2 m = subst (λ (w : List (List ℤ)). HasOrigin d u w t2 s2) p2.inverse (carries_from d u t2 p2.list s2 classes2 p2.carries m)

    arrives : (s s2 : List (List ℤ)) → Contains t2 s → IsCarried d u v s s2 → Contains p2.list s2
    arrives s s2 m c = carries_to d u t2 p2.list s s2 p2.carries m (subst (λ (w : List (List ℤ)). IsCarried d u w s s2) (sym p2.inverse) c)

    exchanged_back : (sign : ℤ) (s s2 : List (List ℤ)) → IsCarried d u v s s2 → IsExchanged d p n2 sign s2 → IsExchanged d t n sign s
    exchanged_back sign s s2 c e =
        subst (λ (m : List ℤ). IsExchanged d t m sign s) (normal_back d u v n undo ln) (exchanged_carried d v p t n2 sign s2 s (classes_carried d u t p classes h) back (carried_back d u v s s2 c) e)

    to : (s2 : List (List ℤ)) → HasOrigin d u v t2 s2 → (Contains p s2 × (IsExchanged d p n2 (pos 1) s2 → ⊥)) ⊎ IsExchanged d p n2 (negsuc 0) s2
    to s2 o = by ((f.members o.list).0 o.member)
      where
        by : (Contains t o.list × (IsExchanged d t n (pos 1) o.list → ⊥)) ⊎ IsExchanged d t n (negsuc 0) o.list → (Contains p s2 × (IsExchanged d p n2 (pos 1) s2 → ⊥)) ⊎ IsExchanged d p n2 (negsuc 0) s2
        by (inl c) = inl (carries_to d u t p o.list s2 h c.0 o.is, λ e. c.1 (exchanged_back (pos 1) o.list s2 o.is e))
        by (inr e) = inr (exchanged_carried d u t p n (negsuc 0) o.list s2 classes h o.is e)

    from : (s2 : List (List ℤ)) → (Contains p s2 × (IsExchanged d p n2 (pos 1) s2 → ⊥)) ⊎ IsExchanged d p n2 (negsuc 0) s2 → Contains p2.list s2
    from s2 (inl c) =
        let o = carries_from d u t p s2 classes h c.0 in
        arrives o.list s2 ((f.members o.list).1 (inl (o.member, λ e. c.1 (exchanged_carried d u t p n (pos 1) o.list s2 classes h o.is e)))) o.is
    from s2 (inr e) =
        let o : HasCarried d v u s2 = has_carried d v u s2 (undone_back d u v undo) e.class_of.«class» in
        let c : IsCarried d u v o.list s2 = carried_back d v u s2 o.list o.is in
        arrives o.list s2 ((f.members o.list).1 (inr (exchanged_back (negsuc 0) o.list s2 c e))) c

-- ---- carried crossings

-- where u carries t onto p, a crossing of t goes to a crossing of p
pub crossing_carried : (d : ℕ) (u : List (List ℤ)) (t p : List (List (List ℤ))) (n : List ℤ) (t2 : List (List (List ℤ))) → IsStrictlySortedBy simplex_cmp p → Carries d u t p → IsFacet d t n → IsAcross d t n t2 → IsCrossingOnto d u p t2 (IsAcross d)
crossing_carried d u t p n t2 asc h facet a =
    let k = across_carried d u t p n t2 asc h a in
    record { facet = apply (induced u) n; list = k.list; is_facet = facet_carried d u t p n (λ s m. ((a.delaunay.members s).0 m).0) h facet; step = k.across; carries = k.carries }

-- the same with the flip in place of forms
pub flip_crossing_carried : (d : ℕ) (u : List (List ℤ)) (t p : List (List (List ℤ))) (n : List ℤ) (t2 : List (List (List ℤ))) → AreClasses d t → Carries d u t p → IsFacet d t n → IsFlipOf d t n t2 → IsCrossingOnto d u p t2 (IsFlipOf d)
flip_crossing_carried d u t p n t2 classes h facet f =
    let k = flip_carried d u t p n t2 classes (length-regulator d t n classes facet.1.regulator) h f in
    record { facet = apply (induced u) n; list = k.list; is_facet = facet_carried d u t p n classes h facet; step = k.flip; carries = k.carries }
