-- Images of classes; carrying is an equivalence.
use Rattle.std.proofs.lemmas.List.Elements.{Contains-get_or}
use Rattle.std.proofs.Common.{◌≡◌, ℕ, ℤ, negsuc, ◌<◌, ◌↔◌, refl, ap, arith, sym, ◌∙◌, subst, List, [], ◌∷◌, length, map, get_or}
use Rattle.std.specs.List.{Contains}
use Rattle.std.specs.List.Sorted.{IsStrictlySortedBy}
use Rattle.lt_model.specs.Matrices.{times, apply, identity, Carries}
use Rattle.lt_model.specs.Order.{number_list_cmp}
use Rattle.lt_model.specs.Simplices.{AllOfDimension, IsSimplex, IsClass, IsClassOf, translate}
use Rattle.lt_model.specs.Vectors.{plus, scale, zeros}
use Rattle.lt_model.proofs.Dependent.{length-map_vectors}
use Rattle.lt_model.proofs.Moved.{simplex_moved, Contains-translate, plus-back}
use Rattle.lt_model.proofs.Opposite.{length-zeros}
use Rattle.lt_model.proofs.Sets.{number_list_cmp_total, Contains-map}
use Rattle.lt_model.proofs.Squares.{length-scale, length-plus}
use Rattle.lt_model.proofs.Translates.{ascending_translate}
use Rattle.lt_model.proofs.Vectors.{plus_assoc}
use Rattle.lt_model.proofs.Points.{minus_itself, length-apply, plus-zeros}
use Rattle.lt_geometry.proofs.Classes.{one_class}
use Rattle.lt_geometry.proofs.Matrices.{IsUndone, undone, undone_back, undone_times, undone_identity, inverse_from_undone, apply-plus, apply-times, apply-identity}
use Rattle.lt_geometry.proofs.Motions.{moved, IsMotion, motion_of, motion_back, back_shift, moved_back, mapped, IsMapped, all_from_members, length_of_member, simplex_moved_by, simplex_rearranged}
use Rattle.lt_geometry.proofs.Rearranged.{IsRearranged, IsDistinct, rearranged_from, same_length}
use Rattle.lt_geometry.proofs.Sorting.{sorted, HasSorted, sorted_is_distinct, number_list_cmp_exact}
pub use Rattle.lt_geometry.specs.Carrying.{AreClasses}
use Rattle.lt_geometry.proofs.LocalWalk.{plus-forth}

-- the points of s2 are the moved points of s
pub record IsImage (u : List (List ℤ)) (t : List ℤ) (s s2 : List (List ℤ)) : Type 0 where
  pub to : (x : List ℤ) → Contains s x → Contains s2 (moved u t x)
  pub from : (y : List ℤ) → Contains s2 y → (x : List ℤ) × Contains s x × (moved u t x ≡ y)

pub class_distinct : (d : ℕ) (s : List (List ℤ)) → IsClass d s → IsDistinct s
class_distinct d s h = sorted_is_distinct number_list_cmp number_list_cmp_total s h.ascending

pub image_back : (d : ℕ) (u : List (List ℤ)) (t : List ℤ) (v : List (List ℤ)) (r : List ℤ) (s s2 : List (List ℤ)) → IsMotion d u t v r → AllOfDimension d s → IsImage u t s s2 → IsImage v r s2 s
image_back d u t v r s s2 m all h = record {
  to = λ y c. to y (h.from y c);
  from = λ x c. (moved u t x, h.to x c, moved_back d u t v r x m (length_of_member d s x all c));
}
  where
    to : (y : List ℤ) → ((x : List ℤ) × Contains s x × (moved u t x ≡ y)) → Contains s (moved v r y)
    to y (x, c, e) = subst (λ (z : List ℤ). Contains s z) (sym (moved_back d u t v r x m (length_of_member d s x all c)) ∙ ap (moved v r) e) c

-- the image as a list is the other list in another order
pub image_rearranged : (d : ℕ) (u : List (List ℤ)) (t : List ℤ) (s s2 : List (List ℤ)) → IsImage u t s s2 → IsDistinct s2 → length s ≡ length s2 → IsRearranged (map (moved u t) s) s2
image_rearranged d u t s s2 h distinct l =
    rearranged_from (map (moved u t) s) s2 (length-map_vectors (moved u t) s ∙ l) distinct (λ y c. at y (h.from y c))
  where
    at : (y : List ℤ) → ((x : List ℤ) × Contains s x × (moved u t x ≡ y)) → Contains (map (moved u t) s) y
    at y (x, c, e) = subst (λ (z : List ℤ). Contains (map (moved u t) s) z) e (Contains-map (moved u t) s x c)

-- ---- classes

pub record HasClass (d : ℕ) (points : List (List ℤ)) : Type 0 where
  pub list : List (List ℤ)
  pub is : IsClassOf d points list

translate_forth : (d : ℕ) (vs : List (List ℤ)) (p : List ℤ) → AllOfDimension d vs → length p ≡ d → translate p (translate (scale (negsuc 0) p) vs) ≡ vs
translate_forth d [] p all lp = refl
translate_forth d (v ∷ vs) p all lp = rw (plus-forth d v p all.0 lp, translate_forth d vs p all.1 lp) refl

-- each simplex whose points are distinct has a class
pub has_class : (d : ℕ) (points : List (List ℤ)) → IsSimplex d points → IsDistinct points → HasClass d points
has_class d points simplex distinct =
    let h : HasSorted number_list_cmp number_list_cmp_total number_list_cmp_exact points = sorted number_list_cmp number_list_cmp_total number_list_cmp_exact points in
    from h.list h.ascending h.members
  where
    from : (qs : List (List ℤ)) → IsStrictlySortedBy number_list_cmp qs → ((z : List ℤ) → Contains qs z ↔ Contains points z) → HasClass d points
    from qs asc same =
        let dq : IsDistinct qs = sorted_is_distinct number_list_cmp number_list_cmp_total qs asc in
        let lq : length qs ≡ length points = same_length qs points dq distinct (λ x c. (same x).0 c) (λ x c. (same x).1 c) in
        let all : AllOfDimension d qs = all_from_members d qs (λ x c. length_of_member d points x simplex.points ((same x).0 c)) in
        let r : IsRearranged qs points = rearranged_from qs points lq distinct (λ x c. (same x).1 c) in
        let sq : IsSimplex d qs = simplex_rearranged d points qs r all simplex in
        let p : List ℤ = get_or qs 0 [] in
        let lp : length p ≡ d = length_of_member d qs p all (Contains-get_or qs 0 [] (omega (arith, sq.count))) in
        let ln : length (scale (negsuc 0) p) ≡ d = length-scale (negsuc 0) p ∙ lp in
        let back : translate p (translate (scale (negsuc 0) p) qs) ≡ qs = translate_forth d qs p all lp in
        record {
          list = translate (scale (negsuc 0) p) qs;
          is = record {
            shift = p;
            dimension = lp;
            «class» = record {
              simplex = simplex_moved d qs (scale (negsuc 0) p) ln sq;
              ascending = ascending_translate d (scale (negsuc 0) p) qs ln all asc;
              first = first qs (omega (arith, sq.count)) lp;
            };
            same = λ x. (λ c. subst (λ (l : List (List ℤ)). Contains l x) (sym back) ((same x).1 c), λ c. (same x).0 (subst (λ (l : List (List ℤ)). Contains l x) back c));
          };
        }
      where
        first : (qs : List (List ℤ)) → 0 < length qs → length (get_or qs 0 []) ≡ d → get_or (translate (scale (negsuc 0) (get_or qs 0 [])) qs) 0 [] ≡ zeros d
        first [] h l = absurd (omega arith)
        first (q ∷ qs) h l = minus_itself d q l

-- ---- the class of the image, as a moved simplex and back

pub image_of_class : (d : ℕ) (u : List (List ℤ)) (s s2 : List (List ℤ)) → length u ≡ d → (h : IsClassOf d (map (apply u) s) s2) → IsImage u (scale (negsuc 0) h.shift) s s2
image_of_class d u s s2 lu h = record {
  to = λ x c. to x (mapped (λ y. plus y h.shift) s2 (apply u x) ((h.same (apply u x)).0 (Contains-map (apply u) s x c)));
  from = λ y c. from y c (mapped (apply u) s (plus y h.shift) ((h.same (plus y h.shift)).1 (Contains-translate s2 h.shift y c)));
}
  where
    to : (x : List ℤ) → IsMapped (λ y. plus y h.shift) s2 (apply u x) → Contains s2 (moved u (scale (negsuc 0) h.shift) x)
    to x m =
        let ly : length m.from ≡ d = length_of_member d s2 m.from h.«class».simplex.points m.member in
        let e : moved u (scale (negsuc 0) h.shift) x ≡ m.from = ap (λ y. plus y (scale (negsuc 0) h.shift)) (sym m.is) ∙ plus-back d m.from h.shift ly h.dimension in
        subst (λ (z : List ℤ). Contains s2 z) (sym e) m.member

    from : (y : List ℤ) → Contains s2 y → IsMapped (apply u) s (plus y h.shift) → (x : List ℤ) × Contains s x × (moved u (scale (negsuc 0) h.shift) x ≡ y)
    from y c m =
        let ly : length y ≡ d = length_of_member d s2 y h.«class».simplex.points c in
        (m.from, m.member, ap (λ z. plus z (scale (negsuc 0) h.shift)) m.is ∙ plus-back d y h.shift ly h.dimension)

pub class_of_image : (d : ℕ) (u : List (List ℤ)) (t : List ℤ) (s s2 : List (List ℤ)) → length u ≡ d → length t ≡ d → IsClass d s2 → IsImage u t s s2 → IsClassOf d (map (apply u) s) s2
class_of_image d u t s s2 lu lt c h = record {
  shift = scale (negsuc 0) t;
  dimension = length-scale (negsuc 0) t ∙ lt;
  «class» = c;
  same = λ y. (λ m. to y (mapped (apply u) s y m), λ m. from y (mapped (λ z. plus z (scale (negsuc 0) t)) s2 y m));
}
  where
    to : (y : List ℤ) → IsMapped (apply u) s y → Contains (translate (scale (negsuc 0) t) s2) y
    to y m =
        let e : plus (moved u t m.from) (scale (negsuc 0) t) ≡ y = plus-back d (apply u m.from) t (length-apply u m.from ∙ lu) lt ∙ m.is in
        subst (λ (z : List ℤ). Contains (translate (scale (negsuc 0) t) s2) z) e (Contains-translate s2 (scale (negsuc 0) t) (moved u t m.from) (h.to m.from m.member))

    from : (y : List ℤ) → IsMapped (λ z. plus z (scale (negsuc 0) t)) s2 y → Contains (map (apply u) s) y
    from y m = at (h.from m.from m.member)
      where
        at : ((x : List ℤ) × Contains s x × (moved u t x ≡ m.from)) → Contains (map (apply u) s) y
        at (x, k, e) =
            let f : apply u x ≡ y = sym (plus-back d (apply u x) t (length-apply u x ∙ lu) lt) ∙ ap (λ z. plus z (scale (negsuc 0) t)) e ∙ m.is in
            subst (λ (z : List ℤ). Contains (map (apply u) s) z) f (Contains-map (apply u) s x k)

pub distinct_applied : (d : ℕ) (u v : List (List ℤ)) (s : List (List ℤ)) → IsUndone d u v → AllOfDimension d s → IsDistinct s → IsDistinct (map (apply u) s)
distinct_applied d u v [] h all distinct = tt
distinct_applied d u v (x ∷ s) h all distinct = (λ c. distinct.0 (at (mapped (apply u) s (apply u x) c)), distinct_applied d u v s h all.1 distinct.1)
  where
    at : IsMapped (apply u) s (apply u x) → Contains s x
    at m =
        let e : m.from ≡ x = sym (h.left m.from (length_of_member d s m.from all.1 m.member)) ∙ ap (apply v) m.is ∙ h.left x all.0 in
        subst (λ (z : List ℤ). Contains s z) e m.member

-- a class with its image's class, and how the one goes to the other
pub record IsCarried (d : ℕ) (u v : List (List ℤ)) (s s2 : List (List ℤ)) : Type 0 where
  pub shift : List ℤ
  pub back : List ℤ
  pub motion : IsMotion d u shift v back
  pub image : IsImage u shift s s2
  pub origin : IsClass d s
  pub target : IsClass d s2

unfoldable pub carried_back : (d : ℕ) (u v : List (List ℤ)) (s s2 : List (List ℤ)) → IsCarried d u v s s2 → IsCarried d v u s2 s
carried_back d u v s s2 h = record {
  shift = h.back;
  back = h.shift;
  motion = motion_back d u h.shift v h.back h.motion;
  image = image_back d u h.shift v h.back s s2 h.motion h.origin.simplex.points h.image;
  origin = h.target;
  target = h.origin;
}

pub carried_from : (d : ℕ) (u v : List (List ℤ)) (s s2 : List (List ℤ)) → IsUndone d u v → IsClass d s → IsClassOf d (map (apply u) s) s2 → IsCarried d u v s s2
carried_from d u v s s2 h c k =
    let lt : length (scale (negsuc 0) k.shift) ≡ d = length-scale (negsuc 0) k.shift ∙ k.dimension in
    record {
      shift = scale (negsuc 0) k.shift;
      back = back_shift v (scale (negsuc 0) k.shift);
      motion = motion_of d u (scale (negsuc 0) k.shift) v h lt;
      image = image_of_class d u s s2 h.square.rows k;
      origin = c;
      target = k.«class»;
    }

pub carried_class : (d : ℕ) (u v : List (List ℤ)) (s s2 : List (List ℤ)) → IsCarried d u v s s2 → IsClassOf d (map (apply u) s) s2
carried_class d u v s s2 h = class_of_image d u h.shift s s2 h.motion.undone.square.rows h.motion.shift h.target h.image

pub carried_unique : (d : ℕ) (u v : List (List ℤ)) (s s2 s3 : List (List ℤ)) → IsCarried d u v s s2 → IsCarried d u v s s3 → s2 ≡ s3
carried_unique d u v s s2 s3 h k = one_class d (map (apply u) s) s2 s3 (carried_class d u v s s2 h) (carried_class d u v s s3 k)

applied_simplex : (d : ℕ) (u v : List (List ℤ)) (s : List (List ℤ)) → IsUndone d u v → IsSimplex d s → IsSimplex d (map (apply u) s)
applied_simplex d u v s h c = subst (λ (p : List (List ℤ)). IsSimplex d p) (unmoved s) (simplex_moved_by d u (zeros d) v (back_shift v (zeros d)) s (motion_of d u (zeros d) v h (length-zeros d)) c)
  where
    unmoved : (vs : List (List ℤ)) → map (moved u (zeros d)) vs ≡ map (apply u) vs
    unmoved [] = refl
    unmoved (x ∷ vs) = rw (unmoved vs, plus-zeros d (apply u x) (length-apply u x ∙ h.square.rows)) refl

-- each class has one class of its image
pub record HasCarried (d : ℕ) (u v : List (List ℤ)) (s : List (List ℤ)) : Type 0 where
  pub list : List (List ℤ)
  pub is : IsCarried d u v s list

pub has_carried : (d : ℕ) (u v : List (List ℤ)) (s : List (List ℤ)) → IsUndone d u v → IsClass d s → HasCarried d u v s
has_carried d u v s h c =
    let k = has_class d (map (apply u) s) (applied_simplex d u v s h c.simplex) (distinct_applied d u v s h c.simplex.points (class_distinct d s c)) in
    record { list = k.list; is = carried_from d u v s k.list h c k.is }

pub carried_itself : (d : ℕ) (s : List (List ℤ)) → IsClass d s → IsCarried d (identity d) (identity d) s s
carried_itself d s c =
    let same : (x : List ℤ) → length x ≡ d → moved (identity d) (zeros d) x ≡ x = λ x l. ap (λ y. plus y (zeros d)) (apply-identity d x l) ∙ plus-zeros d x l in
    record {
      shift = zeros d;
      back = back_shift (identity d) (zeros d);
      motion = motion_of d (identity d) (zeros d) (identity d) (undone_identity d) (length-zeros d);
      image = record {
        to = λ x m. subst (λ (z : List ℤ). Contains s z) (sym (same x (length_of_member d s x c.simplex.points m))) m;
        from = λ y m. (y, m, same y (length_of_member d s y c.simplex.points m));
      };
      origin = c;
      target = c;
    }

pub carried_twice : (d : ℕ) (u u2 v v2 : List (List ℤ)) (r s p : List (List ℤ)) → IsCarried d u u2 r s → IsCarried d v v2 s p → IsCarried d (times v u) (times u2 v2) r p
carried_twice d u u2 v v2 r s p h k =
    let t : List ℤ = plus (apply v h.shift) k.shift in
    let undo : IsUndone d (times v u) (times u2 v2) = undone_times d u u2 v v2 h.motion.undone k.motion.undone in
    let lt : length t ≡ d = length-plus (apply v h.shift) k.shift (length-apply v h.shift ∙ k.motion.undone.square.rows ∙ sym k.motion.shift) ∙ length-apply v h.shift ∙ k.motion.undone.square.rows in
    record {
      shift = t;
      back = back_shift (times u2 v2) t;
      motion = motion_of d (times v u) t (times u2 v2) undo lt;
      image = record {
        to = λ x c. subst (λ (z : List ℤ). Contains p z) (both x) (k.image.to (moved u h.shift x) (h.image.to x c));
        from = λ z c. from z (k.image.from z c);
      };
      origin = h.origin;
      target = k.target;
    }
  where
    both : (x : List ℤ) → moved v k.shift (moved u h.shift x) ≡ moved (times v u) (plus (apply v h.shift) k.shift) x
    both x =
        ap (λ y. plus y k.shift) (apply-plus v (apply u x) h.shift ∙ ap (λ y. plus y (apply v h.shift)) (sym (apply-times v u x))) ∙ plus_assoc (apply (times v u) x) (apply v h.shift) k.shift

    from : (z : List ℤ) → ((y : List ℤ) × Contains s y × (moved v k.shift y ≡ z)) → (x : List ℤ) × Contains r x × (moved (times v u) (plus (apply v h.shift) k.shift) x ≡ z)
    from z (y, c, e) = at (h.image.from y c)
      where
        at : ((x : List ℤ) × Contains r x × (moved u h.shift x ≡ y)) → (x : List ℤ) × Contains r x × (moved (times v u) (plus (apply v h.shift) k.shift) x ≡ z)
        at (x, c2, f) = (x, c2, sym (both x) ∙ ap (moved v k.shift) f ∙ e)

-- ---- triangulations

pub carries_undone : (d : ℕ) (u : List (List ℤ)) (t t2 : List (List (List ℤ))) → (h : Carries d u t t2) → IsUndone d u h.inverse
carries_undone d u t t2 h = undone d u h.inverse h.square h.is_inverse

-- the class in t2 of the image of a member of t
pub carries_to : (d : ℕ) (u : List (List ℤ)) (t t2 : List (List (List ℤ))) (s s2 : List (List ℤ)) → (h : Carries d u t t2) → Contains t s → IsCarried d u h.inverse s s2 → Contains t2 s2
carries_to d u t t2 s s2 h m c = (h.members s2).1 (s, m, carried_class d u h.inverse s s2 c)

pub record HasOrigin (d : ℕ) (u v : List (List ℤ)) (t : List (List (List ℤ))) (s2 : List (List ℤ)) : Type 0 where
  pub list : List (List ℤ)
  pub member : Contains t list
  pub is : IsCarried d u v list s2

-- the member of t whose image has the class s2
pub carries_from : (d : ℕ) (u : List (List ℤ)) (t t2 : List (List (List ℤ))) (s2 : List (List ℤ)) → AreClasses d t → (h : Carries d u t t2) → Contains t2 s2 → HasOrigin d u h.inverse t s2
carries_from d u t t2 s2 classes h m = at ((h.members s2).0 m)
  where
    at : ((s : List (List ℤ)) × Contains t s × IsClassOf d (map (apply u) s) s2) → HasOrigin d u h.inverse t s2
    at (s, c, k) = record { list = s; member = c; is = carried_from d u h.inverse s s2 (carries_undone d u t t2 h) (classes s c) k }

-- what is to be shown for a matrix to carry
unfoldable pub carries_by : (d : ℕ) (u v : List (List ℤ)) (t t2 : List (List (List ℤ))) → IsUndone d u v → AreClasses d t → ((s s2 : List (List ℤ)) → Contains t s → IsCarried d u v s s2 → Contains t2 s2) → ((s2 : List (List ℤ)) → Contains t2 s2 → HasOrigin d u v t s2) → Carries d u t t2
carries_by d u v t t2 h classes to from = record {
  square = h.square;
  inverse = v;
  is_inverse = inverse_from_undone d u v h;
  members = λ s2. (λ m. let o = from s2 m in (o.list, o.member, carried_class d u v o.list s2 o.is), λ k. back s2 k);
}
  where
    back : (s2 : List (List ℤ)) → ((s : List (List ℤ)) × Contains t s × IsClassOf d (map (apply u) s) s2) → Contains t2 s2
    back s2 (s, c, k) = to s s2 c (carried_from d u v s s2 h (classes s c) k)

pub classes_carried : (d : ℕ) (u : List (List ℤ)) (t t2 : List (List (List ℤ))) → AreClasses d t → Carries d u t t2 → AreClasses d t2
classes_carried d u t t2 classes h s2 m = (carries_from d u t t2 s2 classes h m).is.target

pub carries_itself : (d : ℕ) (t : List (List (List ℤ))) → AreClasses d t → Carries d (identity d) t t
carries_itself d t classes =
    carries_by d (identity d) (identity d) t t (undone_identity d) classes
    (λ s s2 m c. subst (λ (z : List (List ℤ)). Contains t z) (carried_unique d (identity d) (identity d) s s s2 (carried_itself d s (classes s m)) c) m)
    (λ s2 m. record { list = s2; member = m; is = carried_itself d s2 (classes s2 m) })

unfoldable pub carries_back : (d : ℕ) (u : List (List ℤ)) (t t2 : List (List (List ℤ))) → AreClasses d t → (h : Carries d u t t2) → Carries d h.inverse t2 t
carries_back d u t t2 classes h =
    carries_by d h.inverse u t2 t (undone_back d u h.inverse (carries_undone d u t t2 h)) (classes_carried d u t t2 classes h) to from
  where
    to : (s2 s : List (List ℤ)) → Contains t2 s2 → IsCarried d h.inverse u s2 s → Contains t s
    to s2 s m c =
        let o = carries_from d u t t2 s2 classes h m in
        subst (λ (z : List (List ℤ)). Contains t z) (carried_unique d h.inverse u s2 o.list s (carried_back d u h.inverse o.list s2 o.is) c) o.member

    from : (s : List (List ℤ)) → Contains t s → HasOrigin d h.inverse u t2 s
    from s m =
        let k = has_carried d u h.inverse s (carries_undone d u t t2 h) (classes s m) in
        record { list = k.list; member = carries_to d u t t2 s k.list h m k.is; is = carried_back d u h.inverse s k.list k.is }

pub carries_twice : (d : ℕ) (u v : List (List ℤ)) (t t2 t3 : List (List (List ℤ))) → AreClasses d t → Carries d u t t2 → Carries d v t2 t3 → Carries d (times v u) t t3
carries_twice d u v t t2 t3 classes h k =
    carries_by d (times v u) (times h.inverse k.inverse) t t3 (undone_times d u h.inverse v k.inverse (carries_undone d u t t2 h) (carries_undone d v t2 t3 k)) classes to from
  where
    to : (s s3 : List (List ℤ)) → Contains t s → IsCarried d (times v u) (times h.inverse k.inverse) s s3 → Contains t3 s3
    to s s3 m c =
        let a = has_carried d u h.inverse s (carries_undone d u t t2 h) (classes s m) in
        let b = has_carried d v k.inverse a.list (carries_undone d v t2 t3 k) a.is.target in
        let m2 : Contains t2 a.list = carries_to d u t t2 s a.list h m a.is in
        let m3 : Contains t3 b.list = carries_to d v t2 t3 a.list b.list k m2 b.is in
        subst (λ (z : List (List ℤ)). Contains t3 z) (carried_unique d (times v u) (times h.inverse k.inverse) s b.list s3 (carried_twice d u h.inverse v k.inverse s a.list b.list a.is b.is) c) m3

    from : (s3 : List (List ℤ)) → Contains t3 s3 → HasOrigin d (times v u) (times h.inverse k.inverse) t s3
    from s3 m =
        let b = carries_from d v t2 t3 s3 (classes_carried d u t t2 classes h) k m in
        let a = carries_from d u t t2 b.list classes h b.member in
        record { list = a.list; member = a.member; is = carried_twice d u h.inverse v k.inverse a.list b.list s3 a.is b.is }
