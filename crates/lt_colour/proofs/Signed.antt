-- A matrix that carries takes a class to one with the same signature.
use Rattle.std.proofs.Common.{◌≡◌, ℕ, suc, ℤ, pos, ◌*ℤ◌, ◌<◌, ap, arith, sym, ◌∙◌, subst, refl, List, [], ◌∷◌, length, map, get_or, inl, inr}
use Rattle.std.specs.List.{Contains}
use Rattle.std.specs.List.Sorted.{IsPermutation}
use Rattle.std.proofs.lemmas.List.Sorted.{IsPermutation-trans, IsPermutation-sym, IsPermutation-cons, Contains-permutation}
use Rattle.lt_model.specs.Facets.{without}
use Rattle.lt_model.specs.Matrices.{apply, Carries}
use Rattle.lt_model.specs.Simplices.{IsClassOf, IsExpression, translate}
use Rattle.lt_model.specs.Vectors.{scale, IsPrimitive}
use Rattle.lt_model.proofs.Dependent.{length-map_vectors}
use Rattle.lt_model.proofs.Sets.{Contains-head, Contains-tail, Contains-cases, Contains-none}
use Rattle.lt_geometry.specs.Carrying.{AreClasses}
use Rattle.lt_geometry.proofs.Carried.{get-map, carried_rearranged, carried_numbers, carried_expression, HasCarriedNeighbour, carried_neighbour}
use Rattle.lt_geometry.proofs.Images.{class_distinct, IsCarried, carried_from, HasCarried, has_carried, carries_to, carries_undone}
use Rattle.lt_geometry.proofs.Motions.{moved}
use Rattle.lt_geometry.proofs.Rearranged.{IsArranged, arrange, length-arrange, arrange_is_permutation, HasPlaceOf, placed_of, same_place}
use Rattle.lt_colour.specs.Signatures.{IsPairSignature, IsClassSignature}

-- ---- a primitive list in another order

abbrev IsMultiple : ℕ → ℤ → Type 0
IsMultiple g x = (y : ℤ) × (x ≡ pos g *ℤ y)

multiples : (g : ℕ) (m : List ℤ) (x : ℤ) → Contains (scale (pos g) m) x → IsMultiple g x
multiples g [] x c = Contains-none x c
multiples g (a ∷ m) x c = elim (Contains-cases (pos g *ℤ a) (scale (pos g) m) x c) [ inl e ↦ (a, sym e) | inr r ↦ multiples g m x r ]

factored : (g : ℕ) (b : List ℤ) → ((x : ℤ) → Contains b x → IsMultiple g x) → (m : List ℤ) × (b ≡ scale (pos g) m)
factored g [] h = ([], refl)
factored g (a ∷ b) h =
    let first = h a (Contains-head a b) in
    let rest = factored g b (λ x c. h x (Contains-tail a b x c)) in
    (first.0 ∷ rest.0, (λ i. first.1 i ∷ rest.1 i))

pub primitive_permuted : (a b : List ℤ) → IsPermutation a b → IsPrimitive a → IsPrimitive b
primitive_permuted a b p h g m e =
    let f = factored g a (λ x c. multiples g m x (subst (λ (l : List ℤ). Contains l x) e (Contains-permutation a b x p c))) in
    h g f.0 f.1

-- ---- pairs

pub pair_signature_carried : (d : ℕ) (u : List (List ℤ)) (t t2 : List (List (List ℤ))) (s s2 : List (List ℤ)) (i : ℕ) (sig : List ℤ) → AreClasses d t → (h : Carries d u t t2) → (k : IsCarried d u h.inverse s s2) → i < suc d → IsPairSignature d t s i sig →
    (i2 : ℕ) → i2 < suc d → get_or s2 i2 [] ≡ moved u k.shift (get_or s i []) → IsPairSignature d t2 s2 i2 sig
pair_signature_carried d u t t2 s s2 i sig classes h k hi p i2 hi2 is = subst (λ (n : ℕ). IsPairSignature d t2 s2 n sig) places found
  where
    v : List (List ℤ)
    v = h.inverse

    next2 : HasCarried d u v p.next
    next2 = has_carried d u v p.next (carries_undone d u t t2 h) (classes p.next p.neighbour.member)

    r : HasCarriedNeighbour d u v t2 s s2 k i next2.list (get_or (translate p.shift p.next) p.outer [])
    r = carried_neighbour d u v t t2 s s2 p.next next2.list p.shift i p.outer k next2.is (carries_to d u t t2 p.next next2.list h p.neighbour.member next2.is) hi p.neighbour

    places : r.facet.place ≡ i2
    places = same_place s2 r.facet.place i2 [] (class_distinct d s2 k.target) (omega (arith, k.target.simplex.count, r.facet.within)) (omega (arith, k.target.simplex.count, hi2)) (r.facet.vertex ∙ sym is)

    b2 : List ℤ
    b2 = carried_numbers d u v s s2 k p.b

    lb : length p.b ≡ length (map (moved u k.shift) s)
    lb = p.expression.one_each ∙ sym (length-map_vectors (moved u k.shift) s)

    found : IsPairSignature d t2 s2 r.facet.place sig
    found = record {
      next = next2.list;
      shift = r.shift;
      outer = r.outer;
      neighbour = r.neighbour;
      c = p.c;
      b = b2;
      expression = subst (λ (w : List ℤ). IsExpression s2 w p.c b2) (sym r.vertex) (carried_expression d u v s s2 (get_or (translate p.shift p.next) p.outer []) p.b p.c k p.expression);
      primitive = primitive_permuted (p.c ∷ p.b) (p.c ∷ b2) (IsPermutation-cons p.c p.b b2 (arrange_is_permutation [] (pos 0) (map (moved u k.shift) s) s2 (carried_rearranged d u v s s2 k) p.b lb)) p.primitive;
      numbers = record {
        others = p.numbers.others;
        in_order = record {
          permutation = IsPermutation-trans (without r.facet.place b2) (without i p.b) p.numbers.others (IsPermutation-sym (without i p.b) (without r.facet.place b2) (r.facet.others p.b p.expression.one_each)) p.numbers.in_order.permutation;
          ascending = p.numbers.in_order.ascending;
        };
        is = p.numbers.is ∙ ap (λ z. p.c ∷ z ∷ p.numbers.others) (sym (r.facet.number p.b p.expression.one_each));
      };
    }

-- ---- classes

pub class_signature_carried : (d : ℕ) (u : List (List ℤ)) (t t2 : List (List (List ℤ))) (s s2 : List (List ℤ)) (sig : List ℤ) → AreClasses d t → (h : Carries d u t t2) → IsCarried d u h.inverse s s2 → IsClassSignature d t s sig → IsClassSignature d t2 s2 sig
class_signature_carried d u t t2 s s2 sig classes h k g = record {
  pairs = pairs2;
  signatures = record { count = length-arrange [] [] moved_list s2 r g.pairs ∙ k.target.simplex.count; each = each };
  ascending = g.ascending;
  in_order = record {
    permutation = IsPermutation-trans pairs2 g.pairs g.ascending (IsPermutation-sym g.pairs pairs2 (arrange_is_permutation [] [] moved_list s2 r g.pairs lp)) g.in_order.permutation;
    ascending = g.in_order.ascending;
  };
  is = g.is;
}
  where
    v : List (List ℤ)
    v = h.inverse

    moved_list : List (List ℤ)
    moved_list = map (moved u k.shift) s

    r : IsArranged [] (map (moved u k.shift) s) s2
    r = carried_rearranged d u v s s2 k

    pairs2 : List (List ℤ)
    pairs2 = arrange [] [] (map (moved u k.shift) s) s2 r g.pairs

    lp : length g.pairs ≡ length moved_list
    lp = g.signatures.count ∙ sym k.origin.simplex.count ∙ sym (length-map_vectors (moved u k.shift) s)

    each : (i2 : ℕ) → i2 < suc d → IsPairSignature d t2 s2 i2 (get_or pairs2 i2 [])
    each i2 hi2 =
        let p : HasPlaceOf [] {Y = List ℤ} [] moved_list s2 r i2 = placed_of [] [] moved_list s2 r i2 (omega (arith, k.target.simplex.count, hi2)) in
        let l : p.place < length s = omega (arith, p.within, length-map_vectors (moved u k.shift) s) in
        let is : get_or s2 i2 [] ≡ moved u k.shift (get_or s p.place []) = sym p.member ∙ get-map (moved u k.shift) s p.place [] [] l in
        let hi : p.place < suc d = omega (arith, l, k.origin.simplex.count) in
        subst (λ (z : List ℤ). IsPairSignature d t2 s2 i2 z) (sym (p.belongs g.pairs lp))
        (pair_signature_carried d u t t2 s s2 p.place (get_or g.pairs p.place []) classes h k hi (g.signatures.each p.place hi) i2 hi2 is)

pub signature_carried : (d : ℕ) (u : List (List ℤ)) (t t2 : List (List (List ℤ))) (s s2 : List (List ℤ)) (sig : List ℤ) → AreClasses d t → Carries d u t t2 → Contains t s → IsClassOf d (map (apply u) s) s2 → IsClassSignature d t s sig → IsClassSignature d t2 s2 sig
signature_carried d u t t2 s s2 sig classes h m c g = class_signature_carried d u t t2 s s2 sig classes h (carried_from d u h.inverse s s2 (carries_undone d u t t2 h) (classes s m) c) g
