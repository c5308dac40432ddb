-- The class of points is what they give when they are sorted and moved back by the least of them.
use Rattle.std.proofs.Common.{◌≡◌, ◌^◌, ℕ, zero, suc, ◌<◌, map, ℤ, negsuc, ap, ap₂, arith, sym, ◌∙◌, subst, List, [], ◌∷◌, length, get_or}
use Rattle.std.specs.List.{All, AllByRecursion, Contains}
use Rattle.std.specs.List.Sorted.{IsPermutation, IsSorted}
use Rattle.std.proofs.lemmas.List.Sorted.{length_permutation, Contains-permutation, IsPermutation-sym}
use Rattle.std.proofs.lemmas.List.Elements.{Contains-get_or}
use Rattle.lt_model.specs.Order.{number_list_cmp}
use Rattle.lt_model.specs.Vectors.{plus, minus, scale, zeros}
use Rattle.lt_model.specs.Limits.{span_limit}
use Rattle.lt_model.specs.Matrices.{apply, IsSquare}
use Rattle.lt_model.specs.Simplices.{AllOfDimension, IsSimplex, IsClass, IsClassOf, translate}
use Rattle.lt_model.proofs.Sets.{number_list_cmp_total, each_holds, Contains-head, Contains-tail, Contains-map}
use Rattle.lt_model.proofs.Squares.{length-scale}
use Rattle.lt_model.proofs.Dependent.{length-map_vectors}
use Rattle.lt_model.proofs.Excess.{length-translate}
use Rattle.lt_model.proofs.Translates.{ascending_translate}
use Rattle.lt_model.proofs.Moved.{simplex_moved, translate-back}
use Rattle.lt_model.proofs.Points.{opposite_twice}
use Rattle.lt_geometry.proofs.Rearranged.{IsRearranged, rearranged_from}
use Rattle.lt_geometry.proofs.Sorting.{sorted_is_distinct}
use Rattle.lt_geometry.proofs.Motions.{IsMapped, mapped, simplex_rearranged}
use Rattle.lt_geometry.proofs.Matrices.{apply-zeros, map-apply_all}
use Rattle.lt_geometry.proofs.Classes.{one_class}
use Rattle.lt_geometry.proofs.Carried.{get-map}
use Rattle.lt_lattice.specs.Ranges.{IsWithin}
use Rattle.lt_triang.specs.Bounds.{AreWithin, AreNear}
use Rattle.lt_triang.specs.Flat.{IsClassAt}
use Rattle.lt_triang.specs.Kept.{IsTriangulation}
use Rattle.lt_triang.proofs.Made.{classes_of}
use Rattle.lt_triang.proofs.Gaps.{twice_limit, member_near, within_from_near, minus-zeros}
use Rattle.lt_triang.proofs.Least.{all_permuted, class_from_sorted, minus-plus}
use Rattle.lt_triang.proofs.Shifts.{within_more}
use Rattle.lt_match.specs.Images.{HasClassOf}

-- as many points as a class has form a simplex where they have its class
pub points_simplex : (d : ℕ) (points s : List (List ℤ)) → length points ≡ suc d → AllOfDimension d points → IsClassOf d points s → IsSimplex d points
points_simplex d points s l all h =
    let s' : List (List ℤ) = translate h.shift s in
    let k : IsClass d s = h.«class» in
    let r : IsRearranged points s' =
    rearranged_from points s' (l ∙ sym k.simplex.count ∙ sym (length-translate h.shift s))
    (sorted_is_distinct number_list_cmp number_list_cmp_total s' (ascending_translate d h.shift s h.dimension k.simplex.points k.ascending)) (λ x m. (h.same x).1 m)
    in
    simplex_rearranged d s' points r all (simplex_moved d s h.shift h.dimension k.simplex)

abbrev pub moved_to_origin : List (List ℤ) → List (List ℤ)
moved_to_origin sorted = translate (scale (negsuc 0) (get_or sorted 0 [])) sorted

-- a class that is found is that of the points
pub class_from_found : (d : ℕ) (points sorted : List (List ℤ)) → length points ≡ suc d → AllOfDimension d points → IsPermutation points sorted → IsClass d (moved_to_origin sorted) → IsClassOf d points (moved_to_origin sorted)
class_from_found d points sorted l all h k =
    let p : List ℤ = get_or sorted 0 [] in
    let all' : AllOfDimension d sorted = all_permuted d points sorted h all in
    let lp : length p ≡ d = each_holds (λ v. length v ≡ d) sorted p all' (Contains-get_or sorted 0 [] (omega (arith, length_permutation points sorted h, l))) in
    let back : translate p (moved_to_origin sorted) ≡ sorted =
    ap (λ (q : List ℤ). translate q (moved_to_origin sorted)) (sym (opposite_twice p)) ∙ translate-back d sorted (scale (negsuc 0) p) all' (length-scale (negsuc 0) p ∙ lp)
    in
    record {
      shift = p;
      dimension = lp;
      «class» = k;
      same = λ x. (λ m. subst (λ (w : List (List ℤ)). Contains w x) (sym back) (Contains-permutation points sorted x h m), λ m. Contains-permutation sorted points x (IsPermutation-sym points sorted h) (subst (λ (w : List (List ℤ)). Contains w x) back m));
    }

-- the class of the points is found
pub found_from_class : (d : ℕ) (points sorted s : List (List ℤ)) → length points ≡ suc d → AllOfDimension d points → IsPermutation points sorted → IsSorted number_list_cmp sorted → IsClassOf d points s → moved_to_origin sorted ≡ s
found_from_class d points sorted s l all h up k =
    let simplex : IsSimplex d points = points_simplex d points s l all k in
    let at : IsClassAt d points (moved_to_origin sorted) (get_or sorted 0 []) = class_from_sorted d points sorted l all (λ b lb sb nb. simplex.independent b lb sb nb) h up in
    one_class d points (moved_to_origin sorted) s (record { shift = get_or sorted 0 []; dimension = at.dimension; «class» = at.«class»; same = at.same }) k

-- what lies within the span limit lies within 2^20
pub within_points : (d : ℕ) (vs : List (List ℤ)) → AreWithin (span_limit d) vs → AreWithin (2 ^ 20) vs
within_points d [] w = tt
within_points d (v ∷ vs) w = (within_more (span_limit d) (2 ^ 20) v (omega (arith, twice_limit d)) w.0, within_points d vs w.1)

-- a member lies within 2^20
pub member_within : (d : ℕ) (t : List (List (List ℤ))) (s : List (List ℤ)) → IsTriangulation d t → Contains t s → AreWithin (2 ^ 20) s
member_within d t s h c =
    within_points d s (within_from_near (span_limit d) d s (h.classes s c) (member_near d t s (classes_of d t h) c))

pub found_within : (d : ℕ) (t : List (List (List ℤ))) (points sorted : List (List ℤ)) → IsTriangulation d t → length points ≡ suc d → AllOfDimension d points → IsPermutation points sorted → IsSorted number_list_cmp sorted → HasClassOf d points t → AreWithin (2 ^ 20) (moved_to_origin sorted)
found_within d t points sorted h l all perm up (s, c, k) = subst (AreWithin (2 ^ 20)) (sym (found_from_class d points sorted s l all perm up k)) (member_within d t s h c)

-- points of which one is 0 lie within the span limit where their class is a member
pub near_points : (d : ℕ) (t : List (List (List ℤ))) (points : List (List ℤ)) → IsTriangulation d t → AllOfDimension d points → Contains points (zeros d) → HasClassOf d points t → AreWithin (span_limit d) points
near_points d t points h all origin (s, c, k) = each points all (λ x m. m)
  where
    near : AreNear (span_limit d) s
    near = member_near d t s (classes_of d t h) c

    from : (x : List ℤ) → Contains points x → IsMapped (λ v. plus v k.shift) s x
    from x m = mapped (λ v. plus v k.shift) s x ((k.same x).0 m)

    each : (vs : List (List ℤ)) → AllOfDimension d vs → ((x : List ℤ) → Contains vs x → Contains points x) → AllByRecursion (All (IsWithin (span_limit d))) vs
    each [] av sub = tt
    each (v ∷ vs) av sub =
        let a = from v (sub v (Contains-head v vs)) in
        let o = from (zeros d) origin in
        let la : length a.from ≡ d = each_holds (λ w. length w ≡ d) s a.from k.«class».simplex.points a.member in
        let lo : length o.from ≡ d = each_holds (λ w. length w ≡ d) s o.from k.«class».simplex.points o.member in
        let e : minus a.from o.from ≡ v = sym (minus-plus d a.from o.from k.shift la lo k.dimension) ∙ ap₂ minus a.is o.is ∙ minus-zeros d v av.0 in
        (subst (λ (z : List ℤ). All (IsWithin (span_limit d)) z) e (near a.from o.from a.member o.member), each vs av.1 (λ x m. sub x (Contains-tail v vs x m)))

-- images of points are within bounds only if each image is
pub each_image : (m k : ℕ) (f : List ℤ → List ℤ) (vs : List (List ℤ)) (e : List ℤ) → AreWithin m (map f vs) → k < length vs → All (IsWithin m) (f (get_or vs k e))
each_image m k f [] e all l = absurd (omega arith)
each_image m zero f (v ∷ vs) e all l = all.0
each_image m (suc k) f (v ∷ vs) e all l = each_image m k f vs e all.1 (omega arith)

-- the images of the vertices of a class lie within the span limit where they have the class of a member
pub image_near : (d : ℕ) (u s : List (List ℤ)) (t : List (List (List ℤ))) → IsTriangulation d t → IsSquare d u → IsClass d s → HasClassOf d (map (apply u) s) t → AreWithin (span_limit d) (map (apply u) s)
image_near d u s t h square k g =
    let first : Contains s (zeros d) = subst (λ (w : List ℤ). Contains s w) k.first (Contains-get_or s 0 [] (omega (arith, k.simplex.count))) in
    let origin : Contains (map (apply u) s) (zeros d) = subst (λ (w : List ℤ). Contains (map (apply u) s) w) (apply-zeros u d ∙ ap zeros square.rows) (Contains-map (apply u) s (zeros d) first) in
    near_points d t (map (apply u) s) h (map-apply_all d u s square.rows) origin g

pub image_within : (d : ℕ) (u s : List (List ℤ)) (t : List (List (List ℤ))) → IsTriangulation d t → IsSquare d u → IsClass d s → HasClassOf d (map (apply u) s) t → AreWithin (2 ^ 20) (map (apply u) s)
image_within d u s t h square k g = within_points d (map (apply u) s) (image_near d u s t h square k g)

-- the images of the vertices of a class form a simplex where they have the class of a member, and the first of them is 0
pub image_simplex : (d : ℕ) (u s : List (List ℤ)) (t : List (List (List ℤ))) → IsSquare d u → IsClass d s → HasClassOf d (map (apply u) s) t → IsSimplex d (map (apply u) s)
image_simplex d u s t square k (s2, c, h) = points_simplex d (map (apply u) s) s2 (length-map_vectors (apply u) s ∙ k.simplex.count) (map-apply_all d u s square.rows) h

pub image_first : (d : ℕ) (u s : List (List ℤ)) → IsSquare d u → IsClass d s → get_or (map (apply u) s) 0 [] ≡ zeros d
image_first d u s square k = get-map (apply u) s 0 [] [] (omega (arith, k.simplex.count)) ∙ ap (apply u) k.first ∙ apply-zeros u d ∙ ap zeros square.rows
