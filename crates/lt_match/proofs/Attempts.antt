-- A candidate that carries, and one that doesn't.
use Rattle.std.proofs.Common.{◌≡◌, ◌<◌, ◌≤◌, ℕ, zero, suc, ℤ, refl, ap₂, arith, sym, ◌∙◌, subst, List, [], ◌∷◌, length, map, get_or}
use Rattle.std.specs.List.{Contains}
use Rattle.lt_model.specs.Limits.{span_limit}
use Rattle.lt_model.specs.Matrices.{apply, IsSquare, IsInverse}
use Rattle.lt_model.specs.Principal.{IsOrder}
use Rattle.lt_model.specs.Simplices.{IsSimplex, IsClass, IsClassOf}
use Rattle.lt_model.proofs.Dependent.{length-map_vectors}
use Rattle.lt_geometry.specs.Carrying.{IsCandidate}
use Rattle.lt_geometry.proofs.Candidates.{one_candidate, candidate_class}
use Rattle.lt_geometry.proofs.Carried.{get-map}
use Rattle.lt_geometry.proofs.Matrices.{map-apply_all}
use Rattle.lt_triang.specs.Bounds.{AreWithin, AreNear}
use Rattle.lt_triang.specs.Kept.{IsTriangulation}
use Rattle.lt_triang.proofs.Gaps.{member_near, within_from_near}
use Rattle.lt_triang.proofs.Made.{classes_of}
use Rattle.lt_match.specs.Images.{GoesInto, TakesTo}
use Rattle.lt_match.specs.Matches.{in_order, IsMatch}
use Rattle.lt_match.proofs.Inverses.{inverse_from_back, back_from_inverse}
use Rattle.lt_match.proofs.Orders.{count_order, candidate_from}
use Rattle.lt_match.proofs.Placed.{points_simplex}
use Rattle.lt_match.proofs.Tested.{first_member, carries_tested, tested_all, tested_inverse}

same_points : (xs ys : List (List ℤ)) → length xs ≡ length ys → ((i : ℕ) → i < length xs → get_or xs i [] ≡ get_or ys i []) → xs ≡ ys
same_points [] [] l h = refl
same_points [] (y ∷ ys) l h = absurd (omega arith)
same_points (x ∷ xs) [] l h = absurd (omega arith)
same_points (x ∷ xs) (y ∷ ys) l h = ap₂ (λ (a : List ℤ) (r : List (List ℤ)). a ∷ r) (h 0 (omega arith)) (same_points xs ys (omega arith) (λ i p. h (suc i) (omega arith)))

pub first_class : (d : ℕ) (t : List (List (List ℤ))) → IsTriangulation d t → IsClass d (get_or t 0 [])
first_class d t h = h.classes (get_or t 0 []) (first_member d t h)

pub class_near : (d : ℕ) (t : List (List (List ℤ))) (s : List (List ℤ)) → IsTriangulation d t → Contains t s → AreNear (span_limit d) s
class_near d t s h m = member_near d t s (classes_of d t h) m

pub class_within : (d : ℕ) (t : List (List (List ℤ))) (s : List (List ℤ)) → IsTriangulation d t → Contains t s → AreWithin (span_limit d) s
class_within d t s h m = within_from_near (span_limit d) d s (h.classes s m) (class_near d t s h m)

-- where the vertices go
pub taken_images : (d : ℕ) (u s targets : List (List ℤ)) → length s ≡ suc d → length targets ≡ suc d → TakesTo d u s targets → targets ≡ map (apply u) s
taken_images d u s targets l k takes =
    same_points targets (map (apply u) s) (k ∙ sym (length-map_vectors (apply u) s ∙ l))
    (λ i h. sym (takes i (omega (arith, h, k))) ∙ sym (get-map (apply u) s i [] [] (omega (arith, h, k, l))))

module _ (d : ℕ) (t t2 : List (List (List ℤ))) (s : List (List ℤ)) (p : List ℕ) (u : List (List ℤ)) (h : IsTriangulation d t) (h2 : IsTriangulation d t2) (m : Contains t2 s) (o : IsOrder (suc d) p) (square : IsSquare d u) (takes : TakesTo d u (get_or t 0 []) (in_order s p)) where
  pub candidate : IsCandidate d (get_or t 0 []) s p u
  candidate = candidate_from d (get_or t 0 []) s p u o square takes

  pub first_goes : IsClassOf d (map (apply u) (get_or t 0 [])) s
  first_goes = candidate_class d (get_or t 0 []) s p u (first_class d t h) (h2.classes s m) o candidate

  images_are : in_order s p ≡ map (apply u) (get_or t 0 [])
  images_are = let c = first_class d t h in taken_images d u (get_or t 0 []) (in_order s p) c.simplex.count (count_order d s p o) takes

  pub order_simplex : IsSimplex d (in_order s p)
  order_simplex =
      let c = first_class d t h in
      subst (IsSimplex d) (sym images_are) (points_simplex d (map (apply u) (get_or t 0 [])) s (length-map_vectors (apply u) (get_or t 0 []) ∙ c.simplex.count) (map-apply_all d u (get_or t 0 []) square.rows) first_goes)

  -- every match of the order is by this matrix
  pub one_match : (w : List (List ℤ)) → IsMatch d t t2 s p w → w ≡ u
  one_match w k = let c = first_class d t h in one_candidate d (get_or t 0 []) s p w u c.simplex k.candidate candidate

  pub match_goes : (w : List (List ℤ)) → IsMatch d t t2 s p w → (n : ℕ) → n < length t → GoesInto d u (get_or t n []) t2
  match_goes w k n l = subst (λ (z : List (List ℤ)). GoesInto d z (get_or t n []) t2) (one_match w k) (tested_all d w t t2 h k.carries n l)

  pub match_comes_back : (w : List (List ℤ)) → IsMatch d t t2 s p w → (v : List (List ℤ)) × IsSquare d v × TakesTo d v (in_order s p) (get_or t 0 [])
  match_comes_back w k =
      let c = first_class d t h in
      let inverse : (v : List (List ℤ)) × IsInverse d u v = subst (λ (z : List (List ℤ)). (v : List (List ℤ)) × IsInverse d z v) (one_match w k) (tested_inverse d w t t2 k.carries) in
      (inverse.0, inverse.1.square, subst (λ (z : List (List ℤ)). TakesTo d inverse.0 z (get_or t 0 [])) (sym images_are) (back_from_inverse d u inverse.0 (get_or t 0 []) square inverse.1 c.simplex.count c.simplex.points))

  pub match_made : length t ≡ length t2 → ((n : ℕ) → 1 ≤ n → n < length t → GoesInto d u (get_or t n []) t2) → ((w : List (List ℤ)) × IsSquare d w × TakesTo d w (in_order s p) (get_or t 0 [])) → IsMatch d t t2 s p u
  match_made l rest (w, sw, back) =
      let c = first_class d t h in
      record {
        order = o;
        candidate = candidate;
        carries = carries_tested d u t t2 h square l all (w, inverse_from_back d u w (get_or t 0 []) (in_order s p) square sw c.simplex order_simplex takes back);
      }
    where
      all : (n : ℕ) → n < length t → GoesInto d u (get_or t n []) t2
      all zero k = (s, m, first_goes)
      all (suc n) k = rest (suc n) (omega arith) k
