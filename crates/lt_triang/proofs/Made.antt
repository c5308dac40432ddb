-- What makes a triangulation: ascending classes, closed under facets.
use Rattle.std.proofs.Common.{◌≡◌, ℕ, zero, suc, ℤ, ◌<◌, ◌≤◌, refl, arith, sym, ◌∙◌, subst, List, [], ◌∷◌, length, map, get_or, ◌↔◌}
use Rattle.std.specs.List.{Contains}
use Rattle.std.specs.List.Sorted.{IsStrictlySortedBy}
use Rattle.std.proofs.lemmas.List.Elements.{Contains-get_or}
use Rattle.lt_model.proofs.Sets.{Contains-map}
use Rattle.lt_model.specs.Order.{simplex_cmp}
use Rattle.lt_model.specs.Facets.{IsNeighbour, IsClosed}
use Rattle.lt_model.specs.Limits.{class_span, span_limit}
use Rattle.lt_triang.specs.Across.{IsFacing, IsOpen, IsFirstAcross, HasAcross}
use Rattle.lt_triang.specs.Kept.{IsTriangulation, AreClasses}
use Rattle.lt_triang.proofs.Gaps.{le_greatest, greatest_at_most}

pub same_classes : (d : ℕ) (xs zs : List (List (List ℤ))) → AreClasses d xs → ((s : List (List ℤ)) → Contains zs s ↔ Contains xs s) → AreClasses d zs
same_classes d xs zs h same = record {
  low = h.low;
  high = h.high;
  classes = λ s c. h.classes s ((same s).0 c);
  narrow = greatest_at_most class_span zs (span_limit d) (λ s c. below s ((same s).0 c));
}
  where
    below : (s : List (List ℤ)) → Contains xs s → class_span s ≤ span_limit d
    below s c = omega (arith, h.narrow, le_greatest (map class_span xs) (class_span s) (Contains-map class_span xs s c))

get_default : (xs : List (List (List ℤ))) (n : ℕ) (d e : List (List ℤ)) → n < length xs → get_or xs n d ≡ get_or xs n e
get_default [] n d e p = absurd (omega arith)
get_default (x ∷ xs) zero d e p = refl
get_default (x ∷ xs) (suc n) d e p = get_default xs n d e (omega arith)

pub neighbour_from : (d : ℕ) (t : List (List (List ℤ))) (s : List (List ℤ)) (i n : ℕ) (p : List ℤ) (j : ℕ) → IsFirstAcross d t s i n p j → IsNeighbour d t s i (get_or t n []) p j
neighbour_from d t s i n p j h = record {
  member = Contains-get_or t n [] h.member;
  dimension = h.facing.dimension;
  place = h.place;
  facet = h.facing.facet;
  beyond = h.facing.beyond;
}

pub closed_from : (d : ℕ) (t : List (List (List ℤ))) → ((n i : ℕ) → n < length t → i < suc d → HasAcross d t (get_or t n []) i) → IsClosed d t
closed_from d t h s i (n, p, e) q =
    let r : HasAcross d t s i = subst (λ (z : List (List ℤ)). HasAcross d t z i) (get_default t n [] s p ∙ e) (h n i p q) in
    (get_or t r.0 [], r.1, r.2, neighbour_from d t s i r.0 r.1 r.2 r.3)

pub occupied_from : (xs zs : List (List (List ℤ))) → 0 < length xs → ((s : List (List ℤ)) → Contains zs s ↔ Contains xs s) → 0 < length zs
occupied_from xs zs some same =
    let c = (same (get_or xs 0 [])).1 (Contains-get_or xs 0 [] some) in
    omega (arith, c.1)

pub triangulation_made : (d : ℕ) (zs : List (List (List ℤ))) → AreClasses d zs → 0 < length zs → IsStrictlySortedBy simplex_cmp zs → ((n i : ℕ) → n < length zs → i < suc d → HasAcross d zs (get_or zs n []) i) → IsTriangulation d zs
triangulation_made d zs h some up each = record {
  low = h.low;
  high = h.high;
  occupied = some;
  ascending = up;
  classes = λ s c. h.classes s c;
  closed = λ s i c q. closed_from d zs each s i c q;
  narrow = h.narrow;
}

pub classes_of : (d : ℕ) (t : List (List (List ℤ))) → IsTriangulation d t → AreClasses d t
classes_of d t h = record { low = h.low; high = h.high; classes = λ s c. h.classes s c; narrow = h.narrow }

pub not_open : (d : ℕ) (t : List (List (List ℤ))) (s : List (List ℤ)) (i : ℕ) → IsTriangulation d t → Contains t s → i < suc d → IsOpen d t s i → ⊥
not_open d t s i h c q none =
    let r = h.closed s i c q in
    let k : IsNeighbour d t s i r.0 r.1 r.2 = r.3 in
    at r.0 r.1 r.2 k k.member
  where
    at : (next : List (List ℤ)) (p : List ℤ) (j : ℕ) → IsNeighbour d t s i next p j → Contains t next → ⊥
    at next p j k (n, l, e) =
        let f : IsFacing d s i next p j = record { dimension = k.dimension; facet = k.facet; beyond = k.beyond } in
        none n j l k.place p (subst (λ (z : List (List ℤ)). IsFacing d s i z p j) (sym (get_default t n [] next l ∙ e)) f)
