-- A matrix carries one triangulation onto another exactly where there are as many classes, each class goes to a member, and the
-- matrix has an inverse.
use Rattle.std.proofs.Common.{◌≡◌, ◌<◌, ◌*◌, ℕ, ℤ, arith, sym, ◌∙◌, subst, List, [], length, get_or}
use Rattle.std.specs.List.{Contains}
use Rattle.std.proofs.lemmas.List.{get_or_default}
use Rattle.std.proofs.lemmas.List.Elements.{Contains-get_or}
use Rattle.lt_model.specs.Matrices.{IsSquare, IsInverse, Carries}
use Rattle.lt_model.specs.Simplices.{IsClass}
use Rattle.lt_geometry.proofs.Matrices.{undone}
use Rattle.lt_geometry.proofs.Images.{HasCarried, has_carried, carried_class, carries_undone}
use Rattle.lt_geometry.proofs.Counted.{as_many, carries_from_counts}
use Rattle.lt_triang.specs.Kept.{IsTriangulation, dimension_of}
use Rattle.lt_match.specs.Images.{GoesInto}

pub first_member : (d : ℕ) (t : List (List (List ℤ))) → IsTriangulation d t → Contains t (get_or t 0 [])
first_member d t h = Contains-get_or t 0 [] h.occupied

pub dimension_is : (d : ℕ) (t : List (List (List ℤ))) → IsTriangulation d t → dimension_of t ≡ d
dimension_is d t h =
    let k : IsClass d (get_or t 0 []) = h.classes (get_or t 0 []) (first_member d t h) in
    omega (arith, k.simplex.count)

pub same_dimension : (d e : ℕ) (from to : List (List (List ℤ))) → IsTriangulation d from → IsTriangulation e to → dimension_of to ≡ dimension_of from → IsTriangulation d to
same_dimension d e from to h k same = subst (λ (n : ℕ). IsTriangulation n to) (sym (dimension_is e to k) ∙ same ∙ dimension_is d from h) k

pub square_at : (d : ℕ) (u : List ℤ) (from : List (List (List ℤ))) → IsTriangulation d from → length u ≡ dimension_of from * dimension_of from → length u ≡ d * d
square_at d u from h e = subst (λ (n : ℕ). length u ≡ n * n) (dimension_is d from h) e

pub carries_tested : (d : ℕ) (u : List (List ℤ)) (t t2 : List (List (List ℤ))) → IsTriangulation d t → IsSquare d u → length t ≡ length t2 → ((n : ℕ) → n < length t → GoesInto d u (get_or t n []) t2) → ((v : List (List ℤ)) × IsInverse d u v) → Carries d u t t2
carries_tested d u t t2 h square l all (v, inverse) = carries_from_counts d u v t t2 (undone d u v square inverse) h.classes h.ascending l each
  where
    each : (s : List (List ℤ)) → Contains t s → GoesInto d u s t2
    each s (n, p, e) = subst (λ (z : List (List ℤ)). GoesInto d u z t2) (get_or_default t n [] s p ∙ e) (all n p)

pub tested_count : (d : ℕ) (u : List (List ℤ)) (t t2 : List (List (List ℤ))) → IsTriangulation d t → IsTriangulation d t2 → Carries d u t t2 → length t ≡ length t2
tested_count d u t t2 h h2 k = as_many d u t t2 h.classes h.ascending h2.ascending k

pub tested_all : (d : ℕ) (u : List (List ℤ)) (t t2 : List (List (List ℤ))) → IsTriangulation d t → Carries d u t t2 → (n : ℕ) → n < length t → GoesInto d u (get_or t n []) t2
tested_all d u t t2 h k n p =
    let s : List (List ℤ) = get_or t n [] in
    let m : Contains t s = Contains-get_or t n [] p in
    let o : HasCarried d u k.inverse s = has_carried d u k.inverse s (carries_undone d u t t2 k) (h.classes s m) in
    let is = carried_class d u k.inverse s o.list o.is in
    (o.list, (k.members o.list).1 (s, m, is), is)

pub tested_inverse : (d : ℕ) (u : List (List ℤ)) (t t2 : List (List (List ℤ))) → Carries d u t t2 → (v : List (List ℤ)) × IsInverse d u v
tested_inverse d u t t2 k = (k.inverse, k.is_inverse)
