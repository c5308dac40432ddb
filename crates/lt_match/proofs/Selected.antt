-- Members with the signature of the first class of a triangulation: the others have no match.
use Rattle.std.proofs.Common.{◌≡◌, ◌≢◌, suc, ap, ◌<◌, ℕ, ℤ, arith, sym, ◌∙◌, subst, List, [], length, get_or}
use Rattle.std.specs.List.{Contains}
use Rattle.std.proofs.lemmas.List.{get_or_default}
use Rattle.std.proofs.lemmas.List.Elements.{Contains-get_or}
use Rattle.lt_model.specs.Triangulations.{IsDelaunay}
use Rattle.lt_geometry.proofs.Candidates.{candidate_class, below}
use Rattle.lt_geometry.proofs.Images.{IsCarried, carries_undone}
use Rattle.lt_geometry.proofs.Motions.{moved, motion_of, back_shift, length_of_member}
use Rattle.lt_geometry.proofs.Matrices.{IsUndone}
use Rattle.lt_geometry.specs.Carrying.{IsCandidate}
use Rattle.lt_model.specs.Simplices.{IsClass}
use Rattle.lt_model.specs.Principal.{IsOrder}
use Rattle.lt_model.specs.Vectors.{plus}
use Rattle.lt_geometry.proofs.LocalWalk.{plus-forth}
use Rattle.lt_triang.specs.Kept.{IsTriangulation, IsOfSomeForm, dimension_of}
use Rattle.lt_colour.specs.Signatures.{IsClassSignature}
use Rattle.lt_colour.proofs.OneSignature.{same_signature}
use Rattle.lt_match.specs.Beyond.{AreFacetSignatures}
use Rattle.lt_match.specs.Matches.{AreSigned, HasNoMatch}
use Rattle.lt_match.proofs.Attempts.{first_class}
use Rattle.lt_match.proofs.Beyond.{facet_signature_carried, one_facet_signature}
use Rattle.lt_match.proofs.Firsts.{HasNone}
use Rattle.lt_match.proofs.Tested.{dimension_is, first_member}

-- a match takes the first class to a member with the same signature
pub no_match : (d : ℕ) (t t2 : List (List (List ℤ))) (n : ℕ) (a b : List ℤ) → IsTriangulation d t → IsTriangulation d t2 → IsOfSomeForm t → IsOfSomeForm t2 → n < length t2 →
    IsClassSignature (dimension_of t) t (get_or t 0 []) a → IsClassSignature (dimension_of t2) t2 (get_or t2 n []) b → (b ≡ a → ⊥) → HasNone d t t2 n
no_match d t t2 n a b h h2 f f2 l g g2 differ q u k =
    let s : List (List ℤ) = get_or t2 n [] in
    let m : Contains t2 s = Contains-get_or t2 n [] l in
    let is = candidate_class d (get_or t 0 []) s q u (first_class d t h) (h2.classes s m) k.order k.candidate in
    let own : IsDelaunay d f.0 t = subst (λ (e : ℕ). IsDelaunay e f.0 t) (dimension_is d t h) f.1 in
    let own2 : IsDelaunay d f2.0 t2 = subst (λ (e : ℕ). IsDelaunay e f2.0 t2) (dimension_is d t2 h2) f2.1 in
    let sig : IsClassSignature d t (get_or t 0 []) a = subst (λ (e : ℕ). IsClassSignature e t (get_or t 0 []) a) (dimension_is d t h) g in
    let sig2 : IsClassSignature d t2 s b = subst (λ (e : ℕ). IsClassSignature e t2 s b) (dimension_is d t2 h2) g2 in
    differ (sym (same_signature d f.0 f2.0 u t t2 (get_or t 0 []) s a b own own2 k.carries (first_member d t h) is sig sig2))

-- a candidate, moved so that it begins at the first vertex of the order, takes vertex i to the vertex at place i of the order
vertex_goes : (d : ℕ) (s s2 : List (List ℤ)) (p : List ℕ) (u : List (List ℤ)) → IsClass d s2 → IsCandidate d s s2 p u → (i : ℕ) → i < suc d → get_or p i 0 < length s2 → get_or p 0 0 < length s2 → get_or s2 (get_or p i 0) [] ≡ moved u (get_or s2 (get_or p 0 0) []) (get_or s i [])
vertex_goes d s s2 p u c2 k i hi li l0 =
    let a : List ℤ = get_or s2 (get_or p 0 0) [] in
    let b : List ℤ = get_or s2 (get_or p i 0) [] in
    let la : length a ≡ d = length_of_member d s2 a c2.simplex.points (Contains-get_or s2 (get_or p 0 0) [] l0) in
    let lb : length b ≡ d = length_of_member d s2 b c2.simplex.points (Contains-get_or s2 (get_or p i 0) [] li) in
    sym (ap (λ (x : List ℤ). plus x a) (k.images i hi) ∙ plus-forth d b a lb la)

-- so it carries the first class to the member, by that shift
goes_onto : (d : ℕ) (s s2 : List (List ℤ)) (p : List ℕ) (u v : List (List ℤ)) → IsUndone d u v → IsClass d s → IsClass d s2 → IsOrder (suc d) p → IsCandidate d s s2 p u → IsCarried d u v s s2
goes_onto d s s2 p u v h c c2 o k = record {
  shift = a;
  back = back_shift v a;
  motion = motion_of d u a v h (length_of_member d s2 a c2.simplex.points (Contains-get_or s2 (get_or p 0 0) [] (within 0 (omega arith))));
  image = record { to = λ x m. to x m; from = λ y m. from y m };
  origin = c;
  target = c2;
}
  where
    a : List ℤ
    a = get_or s2 (get_or p 0 0) []

    within : (i : ℕ) → i < suc d → get_or p i 0 < length s2
    within i hi = below p (suc d) (length s2) o.count (sym c2.simplex.count) o.each i hi

    goes : (i : ℕ) → i < suc d → get_or s2 (get_or p i 0) [] ≡ moved u a (get_or s i [])
    goes i hi = vertex_goes d s s2 p u c2 k i hi (within i hi) (within 0 (omega arith))

    to : (x : List ℤ) → Contains s x → Contains s2 (moved u a x)
    to x (i, l, e) =
        let hi : i < suc d = omega (arith, l, c.simplex.count) in
        let is : get_or s i [] ≡ x = get_or_default s i [] x l ∙ e in
        subst (λ (y : List ℤ). Contains s2 y) (goes i hi ∙ ap (moved u a) is) (Contains-get_or s2 (get_or p i 0) [] (within i hi))

    from : (y : List ℤ) → Contains s2 y → (x : List ℤ) × Contains s x × (moved u a x ≡ y)
    from y (j, l, e) =
        let at = o.each j (omega (arith, l, c2.simplex.count)) in
        let i : ℕ = at.0 in
        let hi : i < suc d = omega (arith, at.1, o.count) in
        let place : get_or p i 0 ≡ j = get_or_default p i 0 j at.1 ∙ at.2 in
        (get_or s i [], Contains-get_or s i [] (omega (arith, hi, c.simplex.count)), sym (goes i hi) ∙ ap (λ n. get_or s2 n []) place ∙ get_or_default s2 j [] y l ∙ e)

-- so an order that takes a vertex to one whose facet has another signature has no match
pub are_signed : (d : ℕ) (t t2 : List (List (List ℤ))) (n : ℕ) (ps qs : List (List ℤ)) → IsTriangulation d t → IsTriangulation d t2 → IsOfSomeForm t → IsOfSomeForm t2 → n < length t2 →
    AreFacetSignatures (dimension_of t) t (get_or t 0 []) ps → AreFacetSignatures (dimension_of t2) t2 (get_or t2 n []) qs → AreSigned d t t2 (get_or t2 n []) ps qs
unfolding goes_onto
are_signed d t t2 n ps qs h h2 f f2 l g g2 = record { count = sig.count; count_too = sig2.count; none = none } where
  s0 : List (List ℤ)
  s0 = get_or t 0 []

  s : List (List ℤ)
  s = get_or t2 n []

  m : Contains t2 s
  m = Contains-get_or t2 n [] l

  own2 : IsDelaunay d f2.0 t2
  own2 = subst (λ (e : ℕ). IsDelaunay e f2.0 t2) (dimension_is d t2 h2) f2.1

  sig : AreFacetSignatures d t s0 ps
  sig = subst (λ (e : ℕ). AreFacetSignatures e t s0 ps) (dimension_is d t h) g

  sig2 : AreFacetSignatures d t2 s qs
  sig2 = subst (λ (e : ℕ). AreFacetSignatures e t2 s qs) (dimension_is d t2 h2) g2

  none : (p : List ℕ) (i : ℕ) → i < suc d → get_or ps i [] ≢ get_or qs (get_or p i 0) [] → HasNoMatch d t t2 s p
  none p i hi differ u k =
      let c : IsClass d s0 = first_class d t h in
      let c2 : IsClass d s = h2.classes s m in
      let j : ℕ = get_or p i 0 in
      let lj : j < length s = below p (suc d) (length s) k.order.count (sym c2.simplex.count) k.order.each i hi in
      let l0 : get_or p 0 0 < length s = below p (suc d) (length s) k.order.count (sym c2.simplex.count) k.order.each 0 (omega arith) in
      let hj : j < suc d = omega (arith, lj, c2.simplex.count) in
      let un = carries_undone d u t t2 k.carries in
      let carried = goes_onto d s0 s p u k.carries.inverse un c c2 k.order k.candidate in
      let goes = vertex_goes d s0 s p u c2 k.candidate i hi lj l0 in
      let there = facet_signature_carried d u t t2 s0 s i (get_or ps i []) h.classes k.carries carried hi (sig.each i hi) j hj goes in
      differ (one_facet_signature d f2.0 t2 s j (get_or ps i []) (get_or qs j []) own2 m hj there (sig2.each j hj))
