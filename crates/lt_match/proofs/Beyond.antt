-- A matrix that carries takes a facet to one with the same signature, and a facet has one signature.
use Rattle.std.proofs.Common.{◌≡◌, ℕ, suc, ℤ, ◌<◌, ap, arith, sym, ◌∙◌, subst, List, [], ◌++◌, get_or}
use Rattle.std.specs.List.{Contains}
use Rattle.lt_model.specs.Facets.{IsNeighbour}
use Rattle.lt_model.specs.Matrices.{Carries}
use Rattle.lt_model.specs.Simplices.{translate}
use Rattle.lt_model.specs.Triangulations.{IsDelaunay}
use Rattle.lt_geometry.specs.Carrying.{AreClasses}
use Rattle.lt_geometry.proofs.Carried.{HasCarriedNeighbour, carried_neighbour}
use Rattle.lt_geometry.proofs.Images.{class_distinct, IsCarried, HasCarried, has_carried, carries_to, carries_undone}
use Rattle.lt_geometry.proofs.Motions.{moved}
use Rattle.lt_geometry.proofs.Rearranged.{same_place}
use Rattle.lt_geometry.proofs.Sides.{unique_neighbour}
use Rattle.lt_colour.specs.Signatures.{IsClassSignature}
use Rattle.lt_colour.proofs.Signed.{pair_signature_carried, class_signature_carried}
use Rattle.lt_colour.proofs.OneSignature.{one_pair, one_signature}
use Rattle.lt_match.specs.Beyond.{IsFacetSignature}

pub facet_signature_carried : (d : ℕ) (u : List (List ℤ)) (t t2 : List (List (List ℤ))) (s s2 : List (List ℤ)) (i : ℕ) (sig : List ℤ) → AreClasses d t → (h : Carries d u t t2) → (k : IsCarried d u h.inverse s s2) → i < suc d → IsFacetSignature d t s i sig →
    (i2 : ℕ) → i2 < suc d → get_or s2 i2 [] ≡ moved u k.shift (get_or s i []) → IsFacetSignature d t2 s2 i2 sig
facet_signature_carried d u t t2 s s2 i sig classes h k hi g i2 hi2 is = record {
  pair = g.pair;
  pair_is = pair_signature_carried d u t t2 s s2 i g.pair classes h k hi g.pair_is i2 hi2 is;
  next = next2.list;
  shift = r.shift;
  outer = r.outer;
  neighbour = subst (λ (n : ℕ). IsNeighbour d t2 s2 n next2.list r.shift r.outer) places r.neighbour;
  beyond = g.beyond;
  beyond_is = class_signature_carried d u t t2 g.next next2.list g.beyond classes h next2.is g.beyond_is;
  is = g.is;
}
  where
    v : List (List ℤ)
    v = h.inverse

    next2 : HasCarried d u v g.next
    next2 = has_carried d u v g.next (carries_undone d u t t2 h) (classes g.next g.neighbour.member)

    r : HasCarriedNeighbour d u v t2 s s2 k i next2.list (get_or (translate g.shift g.next) g.outer [])
    r = carried_neighbour d u v t t2 s s2 g.next next2.list g.shift i g.outer k next2.is (carries_to d u t t2 g.next next2.list h g.neighbour.member next2.is) hi g.neighbour

    places : r.facet.place ≡ i2
    places = same_place s2 r.facet.place i2 [] (class_distinct d s2 k.target) (omega (arith, k.target.simplex.count, r.facet.within)) (omega (arith, k.target.simplex.count, hi2)) (r.facet.vertex ∙ sym is)

pub one_facet_signature : (d : ℕ) (q : List ℤ) (t : List (List (List ℤ))) (s : List (List ℤ)) (i : ℕ) (sig sig' : List ℤ) → IsDelaunay d q t → Contains t s → i < suc d → IsFacetSignature d t s i sig → IsFacetSignature d t s i sig' → sig ≡ sig'
one_facet_signature d q t s i sig sig' k m hi g h =
    let pairs : g.pair ≡ h.pair = one_pair d q t s i g.pair h.pair k m hi g.pair_is h.pair_is in
    let n = unique_neighbour d q t s i g.next h.next g.shift h.shift g.outer h.outer k m hi g.neighbour h.neighbour in
    let e : IsClassSignature d t h.next g.beyond = subst (λ (x : List (List ℤ)). IsClassSignature d t x g.beyond) n.0 g.beyond_is in
    let beyond : g.beyond ≡ h.beyond = one_signature d q t h.next g.beyond h.beyond k h.neighbour.member e h.beyond_is in
    g.is ∙ ap (λ (l : List ℤ). l ++ g.beyond) pairs ∙ ap (λ (l : List ℤ). h.pair ++ l) beyond ∙ sym h.is
