-- The span of the image of a triangulation.
use Rattle.std.proofs.Common.{◌≡◌, ◌<◌, ◌≤◌, ◌^◌, ◌*◌, ℕ, ℤ, pos, ap, ap₂, arith, sym, ◌∙◌, subst, List, [], ◌∷◌, length, map, get_or, min, ◌↔◌}
use Rattle.std.specs.List.{All, AllByRecursion, Contains}
use Rattle.std.proofs.lemmas.Int.{ints}
use Rattle.std.proofs.lemmas.List.{get_or_default}
use Rattle.std.proofs.lemmas.List.Elements.{Contains-get_or}
use Rattle.lt_model.specs.Vectors.{plus, minus, zeros}
use Rattle.lt_model.specs.Limits.{greatest, class_span, span, span_limit}
use Rattle.lt_model.specs.Matrices.{apply, IsSquare, IsInverse, Carries}
use Rattle.lt_model.specs.Simplices.{AllOfDimension, AreIndependent, IsSimplex, IsClass, IsClassOf}
use Rattle.lt_model.proofs.Sets.{each_holds, Contains-head, Contains-tail, Contains-map}
use Rattle.lt_model.proofs.Moved.{Contains-translate}
use Rattle.lt_model.proofs.Dependent.{length-map_vectors}
use Rattle.lt_geometry.proofs.Carried.{closed_carried}
use Rattle.lt_geometry.proofs.Classes.{one_class}
use Rattle.lt_geometry.proofs.Images.{HasCarried, has_carried, carried_class, carries_undone}
use Rattle.lt_geometry.proofs.Matrices.{undone, map-apply_all, apply-zeros}
use Rattle.lt_geometry.proofs.Motions.{IsMapped, mapped}
use Rattle.lt_lattice.specs.Ranges.{IsWithin}
use Rattle.lt_triang.specs.Bounds.{AreWithin, AreNear}
use Rattle.lt_triang.specs.Flat.{leading, IsFlat}
use Rattle.lt_triang.specs.Across.{IsOpenAnswer}
use Rattle.lt_triang.specs.Kept.{IsTriangulation}
use Rattle.lt_triang.specs.Kept as kept
use Rattle.lt_triang.proofs.Gaps.{twice_limit, le_greatest, greatest_at_most, near_from_class_span, class_span_from_near, minus-zeros}
use Rattle.lt_triang.proofs.Least.{minus-plus}
use Rattle.lt_triang.proofs.Made.{not_open}
use Rattle.lt_match.specs.Wide.{told_span, AreImages}
use Rattle.lt_match.proofs.Multiples.{none_leads}
use Rattle.lt_match.proofs.Placed.{points_simplex}

-- ---- points are as near as the vertices of their class

near_points : (m d : ℕ) (points s : List (List ℤ)) → IsClassOf d points s → AreNear m s → AreNear m points
near_points m d points s k near x y cx cy =
    let a : IsMapped (λ v. plus v k.shift) s x = mapped (λ v. plus v k.shift) s x ((k.same x).0 cx) in
    let b : IsMapped (λ v. plus v k.shift) s y = mapped (λ v. plus v k.shift) s y ((k.same y).0 cy) in
    let la : length a.from ≡ d = each_holds (λ w. length w ≡ d) s a.from k.«class».simplex.points a.member in
    let lb : length b.from ≡ d = each_holds (λ w. length w ≡ d) s b.from k.«class».simplex.points b.member in
    let e : minus a.from b.from ≡ minus x y = sym (minus-plus d a.from b.from k.shift la lb k.dimension) ∙ ap₂ minus a.is b.is in
    subst (λ (z : List ℤ). All (IsWithin m) z) e (near a.from b.from a.member b.member)

near_vertices : (m d : ℕ) (points s : List (List ℤ)) → IsClassOf d points s → AreNear m points → AreNear m s
near_vertices m d points s k near x y cx cy =
    let lx : length x ≡ d = each_holds (λ w. length w ≡ d) s x k.«class».simplex.points cx in
    let ly : length y ≡ d = each_holds (λ w. length w ≡ d) s y k.«class».simplex.points cy in
    subst (λ (z : List ℤ). All (IsWithin m) z) (minus-plus d x y k.shift lx ly k.dimension)
    (near (plus x k.shift) (plus y k.shift) ((k.same (plus x k.shift)).1 (Contains-translate s k.shift x cx)) ((k.same (plus y k.shift)).1 (Contains-translate s k.shift y cy)))

same : (n : ℕ) → n ≤ n
same n = omega arith

pub span_of_class : (d : ℕ) (points s : List (List ℤ)) → IsClassOf d points s → class_span points ≡ class_span s
span_of_class d points s k =
    let a = class_span_from_near (class_span s) points (near_points (class_span s) d points s k (near_from_class_span (class_span s) s (same (class_span s)))) in
    let b = class_span_from_near (class_span points) s (near_vertices (class_span points) d points s k (near_from_class_span (class_span points) points (same (class_span points)))) in
    omega (arith, a, b)

-- ---- spans of images

within_from_origin : (m d : ℕ) (points : List (List ℤ)) → AllOfDimension d points → Contains points (zeros d) → AreNear m points → AreWithin m points
within_from_origin m d points all origin near = each points all (λ x c. near x (zeros d) c origin)
  where
    each : (vs : List (List ℤ)) → AllOfDimension d vs → ((x : List ℤ) → Contains vs x → All (IsWithin m) (minus x (zeros d))) → AllByRecursion (All (IsWithin m)) vs
    each [] all h = tt
    each (v ∷ vs) all h = (subst (λ (w : List ℤ). All (IsWithin m) w) (minus-zeros d v all.0) (h v (Contains-head v vs)), each vs all.1 (λ x c. h x (Contains-tail v vs x c)))

origin_of : (d : ℕ) (u s : List (List ℤ)) → IsSquare d u → IsClass d s → Contains (map (apply u) s) (zeros d)
origin_of d u s square k =
    let first : Contains s (zeros d) = subst (λ (w : List ℤ). Contains s w) k.first (Contains-get_or s 0 [] (omega (arith, k.simplex.count))) in
    subst (λ (w : List ℤ). Contains (map (apply u) s) w) (apply-zeros u d ∙ ap zeros square.rows) (Contains-map (apply u) s (zeros d) first)

-- images that lie too far out have a span above 2^20
pub span_beyond : (d : ℕ) (u s : List (List ℤ)) → IsSquare d u → IsClass d s → (AreWithin (2 ^ 20) (map (apply u) s) → ⊥) → told_span u s ≡ 2 ^ 20
span_beyond d u s square k far = by (class_span (map (apply u) s)) (λ h. far (within_from_origin (2 ^ 20) d (map (apply u) s) (map-apply_all d u s square.rows) (origin_of d u s square k) (near_from_class_span (2 ^ 20) (map (apply u) s) h)))
  where
    by : (n : ℕ) → (n ≤ 2 ^ 20 → ⊥) → min (2 ^ 20) n ≡ 2 ^ 20
    by n h = omega (arith, h)

pub told_small : (d : ℕ) (u s : List (List ℤ)) → told_span u s ≤ span_limit d → class_span (map (apply u) s) ≤ span_limit d
told_small d u s h = omega (arith, h, twice_limit d)

pub images_near : (d : ℕ) (u s : List (List ℤ)) → told_span u s ≤ span_limit d → AreNear (2 * span_limit d) (map (apply u) s)
images_near d u s h = near_from_class_span (2 * span_limit d) (map (apply u) s) (omega (arith, told_small d u s h))

pub images_within : (d : ℕ) (u s : List (List ℤ)) → IsSquare d u → IsClass d s → told_span u s ≤ span_limit d → AreWithin (2 ^ 20) (map (apply u) s)
images_within d u s square k h =
    within_from_origin (2 ^ 20) d (map (apply u) s) (map-apply_all d u s square.rows) (origin_of d u s square k) (near_from_class_span (2 ^ 20) (map (apply u) s) (omega (arith, told_small d u s h, twice_limit d)))

pub images_simplex : (d : ℕ) (u v s : List (List ℤ)) → IsSquare d u → IsInverse d u v → IsClass d s → IsSimplex d (map (apply u) s)
images_simplex d u v s square inverse k =
    let o : HasCarried d u v s = has_carried d u v s (undone d u v square inverse) k in
    points_simplex d (map (apply u) s) o.list (length-map_vectors (apply u) s ∙ k.simplex.count) (map-apply_all d u s square.rows) (carried_class d u v s o.list o.is)

pub not_flat : (d : ℕ) (points : List (List ℤ)) (terms : List ℤ) → AreIndependent d points → IsFlat d points terms → ⊥
not_flat d points terms free h =
    let e : leading terms ≡ pos 0 = ap leading (free terms h.one_each h.total_is h.sum) ∙ none_leads (length points) in
    let sign = h.sign in
    omega (arith, ints, e, sign)

-- ---- the image

greatest_told : (u : List (List ℤ)) (t : List (List (List ℤ))) → greatest (map (told_span u) t) ≡ min (2 ^ 20) (greatest (map (λ s. class_span (map (apply u) s)) t))
greatest_told u [] = omega arith
greatest_told u (s ∷ t) = omega (arith, greatest_told u t)

span_of_image : (d : ℕ) (u : List (List ℤ)) (t t2 : List (List (List ℤ))) → IsTriangulation d t → Carries d u t t2 → greatest (map (λ s. class_span (map (apply u) s)) t) ≡ span t2
span_of_image d u t t2 h k =
    let a = greatest_at_most (λ s. class_span (map (apply u) s)) t (span t2) there in
    let b = greatest_at_most class_span t2 (greatest (map (λ s. class_span (map (apply u) s)) t)) back in
    omega (arith, a, b)
  where
    there : (s : List (List ℤ)) → Contains t s → class_span (map (apply u) s) ≤ span t2
    there s m =
        let o : HasCarried d u k.inverse s = has_carried d u k.inverse s (carries_undone d u t t2 k) (h.classes s m) in
        let is = carried_class d u k.inverse s o.list o.is in
        let here : Contains t2 o.list = (k.members o.list).1 (s, m, is) in
        omega (arith, span_of_class d (map (apply u) s) o.list is, le_greatest (map class_span t2) (class_span o.list) (Contains-map class_span t2 o.list here))

    back : (s2 : List (List ℤ)) → Contains t2 s2 → class_span s2 ≤ greatest (map (λ s. class_span (map (apply u) s)) t)
    back s2 m = from ((k.members s2).0 m)
      where
        from : ((s : List (List ℤ)) × Contains t s × IsClassOf d (map (apply u) s) s2) → class_span s2 ≤ greatest (map (λ s. class_span (map (apply u) s)) t)
        from (s, c, is) =
            omega (arith, span_of_class d (map (apply u) s) s2 is, le_greatest (map (λ z. class_span (map (apply u) z)) t) (class_span (map (apply u) s)) (Contains-map (λ z. class_span (map (apply u) z)) t s c))

-- what is told of the spans is told of the span of the image
pub told_of_image : (d : ℕ) (u : List (List ℤ)) (t t2 : List (List (List ℤ))) → IsTriangulation d t → Carries d u t t2 → greatest (map (told_span u) t) ≡ min (2 ^ 20) (span t2)
told_of_image d u t t2 h k = greatest_told u t ∙ ap (min (2 ^ 20)) (span_of_image d u t t2 h k)

pub told_at : (d n : ℕ) (u : List (List ℤ)) (t : List (List (List ℤ))) → n < length t → greatest (map (told_span u) t) ≤ span_limit d → told_span u (get_or t n []) ≤ span_limit d
told_at d n u t p h = omega (arith, h, le_greatest (map (told_span u) t) (told_span u (get_or t n [])) (Contains-map (told_span u) t (get_or t n []) (Contains-get_or t n [] p)))

-- the classes of the images are those of an image
pub carried_list : (d : ℕ) (u v : List (List ℤ)) (t classes t2 : List (List (List ℤ))) → IsSquare d u → IsInverse d u v → AreImages d u t classes → ((s : List (List ℤ)) → Contains t2 s ↔ Contains classes s) → Carries d u t t2
carried_list d u v t classes t2 square inverse h members = record {
  square = square;
  inverse = v;
  is_inverse = inverse;
  members = λ s2. (λ m. from s2 ((members s2).0 m), λ k. (members s2).1 (to s2 k));
}
  where
    from : (s2 : List (List ℤ)) → Contains classes s2 → (s : List (List ℤ)) × Contains t s × IsClassOf d (map (apply u) s) s2
    from s2 (n, p, e) =
        let l : n < length t = omega (arith, h.count, p) in
        (get_or t n [], Contains-get_or t n [] l, subst (λ (z : List (List ℤ)). IsClassOf d (map (apply u) (get_or t n [])) z) (get_or_default classes n [] s2 p ∙ e) (h.each n l))

    to : (s2 : List (List ℤ)) → ((s : List (List ℤ)) × Contains t s × IsClassOf d (map (apply u) s) s2) → Contains classes s2
    to s2 (s, (n, p, e), is) =
        let here : IsClassOf d (map (apply u) s) (get_or classes n []) = subst (λ (z : List (List ℤ)). IsClassOf d (map (apply u) z) (get_or classes n [])) (get_or_default t n [] s p ∙ e) (h.each n p) in
        subst (λ (z : List (List ℤ)). Contains classes z) (one_class d (map (apply u) s) (get_or classes n []) s2 here is) (Contains-get_or classes n [] (omega (arith, h.count, p)))

pub image_classes : (d : ℕ) (u : List (List ℤ)) (t classes : List (List (List ℤ))) → IsTriangulation d t → AreImages d u t classes → greatest (map (told_span u) t) ≤ span_limit d → kept.AreClasses d classes
image_classes d u t classes h k near = record { low = h.low; high = h.high; classes = each; narrow = greatest_at_most class_span classes (span_limit d) narrow }
  where
    each : (s : List (List ℤ)) → Contains classes s → IsClass d s
    each s (n, p, e) = let is = k.each n (omega (arith, k.count, p)) in subst (IsClass d) (get_or_default classes n [] s p ∙ e) is.«class»

    narrow : (s : List (List ℤ)) → Contains classes s → class_span s ≤ span_limit d
    narrow s (n, p, e) =
        let l : n < length t = omega (arith, k.count, p) in
        let here : class_span (get_or classes n []) ≤ span_limit d = omega (arith, span_of_class d (map (apply u) (get_or t n [])) (get_or classes n []) (k.each n l), told_small d u (get_or t n []) (told_at d n u t l near)) in
        subst (λ (z : List (List ℤ)). class_span z ≤ span_limit d) (get_or_default classes n [] s p ∙ e) here

-- no facet of an image is open
pub none_open : (d : ℕ) (u v : List (List ℤ)) (t classes : List (List (List ℤ))) (n i : ℕ) → IsTriangulation d t → IsSquare d u → IsInverse d u v → AreImages d u t classes → greatest (map (told_span u) t) ≤ span_limit d → IsOpenAnswer d classes n i → ⊥
none_open d u v t classes n i h square inverse k near o =
    let c : Carries d u t o.t = carried_list d u v t classes o.t square inverse k o.members in
    let all = image_classes d u t classes h k near in
    let t2 : IsTriangulation d o.t = record {
      low = h.low;
      high = h.high;
      occupied = omega (arith, o.first.member);
      ascending = o.ascending;
      classes = λ s m. all.classes s ((o.members s).0 m);
      closed = closed_carried d u t o.t h.classes c h.closed;
      narrow = omega (arith, told_of_image d u t o.t h c, near, twice_limit d);
    } in
    not_open d o.t (get_or o.t n []) i t2 (Contains-get_or o.t n [] o.first.member) o.first.facet.place o.first.facet.none
