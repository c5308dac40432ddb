-- Equivalent Delaunay triangulations have the same fingerprint.
use Rattle.std.proofs.Common.{◌≡◌, ℕ, ℤ, ◌<◌, ap, arith, sym, ◌∙◌, subst, List, [], length, get_or}
use Rattle.std.proofs.lemmas.List.{get_or_default, same_lists}
use Rattle.std.proofs.lemmas.List.Elements.{Contains-get_or}
use Rattle.std.proofs.lemmas.List.Sorted.{IsPermutation-trans, IsPermutation-sym}
use Rattle.std.specs.List.Sorted.{IsStrictlySortedBy}
use Rattle.lt_model.specs.Flat.{flat}
use Rattle.lt_model.specs.Matrices.{Carries, AreEquivalent}
use Rattle.lt_model.specs.Order.{number_list_cmp, simplex_cmp}
use Rattle.lt_model.specs.Triangulations.{IsDelaunay}
use Rattle.lt_model.proofs.Sets.{number_list_cmp_total, simplex_cmp_total}
use Rattle.lt_geometry.specs.Carrying.{AreClasses}
use Rattle.lt_geometry.proofs.Counted.{as_many}
use Rattle.lt_geometry.proofs.Crossed.{HasImages, images}
use Rattle.lt_geometry.proofs.Images.{carries_from, carries_undone}
use Rattle.lt_geometry.proofs.Rearranged.{IsArranged, arranged_from, arrange, length-arrange, arrange_is_permutation, HasPlaceOf, placed_of}
use Rattle.lt_geometry.proofs.Sorting.{sorted_is_distinct, number_list_cmp_exact}
use Rattle.lt_colour.specs.Signatures.{IsInOrder, IsClassSignature, AreClassSignatures, IsFingerprint}
use Rattle.lt_colour.proofs.OneSignature.{one_signature}
use Rattle.lt_colour.proofs.Ordered.{one_order}
use Rattle.lt_colour.proofs.Signed.{class_signature_carried}

pub fingerprint_carried : (d : ℕ) (u : List (List ℤ)) (t t2 : List (List (List ℤ))) (f : List ℤ) → AreClasses d t → IsStrictlySortedBy simplex_cmp t → IsStrictlySortedBy simplex_cmp t2 → Carries d u t t2 → IsFingerprint d t f → IsFingerprint d t2 f
fingerprint_carried d u t t2 f classes asc asc2 h g = record {
  classes = list2;
  signatures = record { count = length-arrange [] [] k.list t2 r g.classes; each = each };
  ascending = g.ascending;
  in_order = record {
    permutation = IsPermutation-trans list2 g.classes g.ascending (IsPermutation-sym g.classes list2 (arrange_is_permutation [] [] k.list t2 r g.classes lg)) g.in_order.permutation;
    ascending = g.in_order.ascending;
  };
  is = g.is;
}
  where
    v : List (List ℤ)
    v = h.inverse

    k : HasImages d u v t
    k = images d u v t (carries_undone d u t t2 h) classes

    r : IsArranged [] k.list t2
    r =
        arranged_from [] k.list t2 (k.count ∙ as_many d u t t2 classes asc asc2 h) (sorted_is_distinct simplex_cmp simplex_cmp_total t2 asc2)
        (λ s2 m. let o = carries_from d u t t2 s2 classes h m in k.to o.list s2 o.member o.is)

    list2 : List (List ℤ)
    list2 = arrange [] [] k.list t2 r g.classes

    lg : length g.classes ≡ length k.list
    lg = g.signatures.count ∙ sym k.count

    each : (j : ℕ) → j < length t2 → IsClassSignature d t2 (get_or t2 j []) (get_or list2 j [])
    each j hj =
        let p : HasPlaceOf [] {Y = List ℤ} [] k.list t2 r j = placed_of [] [] k.list t2 r j hj in
        let l : p.place < length t = omega (arith, p.within, k.count) in
        subst (λ (z : List ℤ). IsClassSignature d t2 (get_or t2 j []) z) (sym (p.belongs g.classes lg))
        (subst (λ (z : List (List ℤ)). IsClassSignature d t2 z (get_or g.classes p.place [])) p.member
        (class_signature_carried d u t t2 (get_or t p.place []) (get_or k.list p.place []) (get_or g.classes p.place []) classes h (k.at p.place l) (g.signatures.each p.place l)))

one_each : (d : ℕ) (q : List ℤ) (t : List (List (List ℤ))) (ls ms : List (List ℤ)) → IsDelaunay d q t → AreClassSignatures d t ls → AreClassSignatures d t ms → ls ≡ ms
one_each d q t ls ms k g h =
    same_lists ls ms (g.count ∙ sym h.count)
    (λ i e l. (let hi : i < length t = omega (arith, l, g.count) in
    get_or_default ls i e [] l ∙ one_signature d q t (get_or t i []) (get_or ls i []) (get_or ms i []) k (Contains-get_or t i [] hi) (g.each i hi) (h.each i hi) ∙ get_or_default ms i [] e (omega (arith, hi, h.count))))

-- a Delaunay triangulation has one fingerprint
pub one_fingerprint : (d : ℕ) (q : List ℤ) (t : List (List (List ℤ))) (f f2 : List ℤ) → IsDelaunay d q t → IsFingerprint d t f → IsFingerprint d t f2 → f ≡ f2
one_fingerprint d q t f f2 k g h =
    let classes : g.classes ≡ h.classes = one_each d q t g.classes h.classes k g.signatures h.signatures in
    let ascending : g.ascending ≡ h.ascending =
    one_order number_list_cmp number_list_cmp_total number_list_cmp_exact h.classes g.ascending h.ascending (subst (λ (l : List (List ℤ)). IsInOrder number_list_cmp l g.ascending) classes g.in_order) h.in_order
    in
    g.is ∙ ap flat ascending ∙ sym h.is

pub same_fingerprint : (d : ℕ) (q q2 : List ℤ) (t t2 : List (List (List ℤ))) (f f2 : List ℤ) → IsDelaunay d q t → IsDelaunay d q2 t2 → AreEquivalent d t t2 → IsFingerprint d t f → IsFingerprint d t2 f2 → f ≡ f2
same_fingerprint d q q2 t t2 f f2 k k2 (u, h) g g2 =
    one_fingerprint d q2 t2 f f2 k2 (fingerprint_carried d u t t2 f (λ r n. ((k.members r).0 n).0) k.ascending k2.ascending h g) g2
