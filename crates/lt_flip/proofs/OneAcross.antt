-- Across a facet of a member of a Delaunay triangulation lies one member at most.
use Rattle.std.proofs.Common.{◌≡◌, ℕ, zero, suc, ℤ, ◌<◌, refl, ap, arith, sym, subst, List, [], ◌∷◌, length, get_or}
use Rattle.std.specs.List.Sorted.{IsStrictlySortedBy}
use Rattle.std.specs.declared.cmp.Ordering.TheVariants.{Less}
use Rattle.std.proofs.lemmas.List.Elements.{Contains-get_or}
use Rattle.lt_model.specs.Order.{simplex_cmp}
use Rattle.lt_model.specs.Facets.{IsNeighbour}
use Rattle.lt_model.specs.Triangulations.{IsDelaunay}
use Rattle.lt_model.proofs.Sets.{each_holds, never_below_itself, simplex_cmp_total}
use Rattle.lt_geometry.proofs.Sides.{unique_neighbour}
use Rattle.lt_triang.specs.Across.{HasOneAcross}
use Rattle.lt_triang.specs.Kept.{IsTriangulation, IsOfSomeForm, dimension_of}
use Rattle.lt_triang.proofs.Expressed.{dimension_is}

one_place : (t : List (List (List ℤ))) (m n : ℕ) → IsStrictlySortedBy simplex_cmp t → m < length t → n < length t → get_or t m [] ≡ get_or t n [] → m ≡ n
unfolding IsStrictlySortedBy
one_place [] m n s hm hn e = absurd (omega arith)
one_place (v ∷ t) zero zero s hm hn e = refl
one_place (v ∷ t) (suc m) (suc n) s hm hn e = ap suc (one_place t m n s.1 (omega arith) (omega arith) e)
one_place (v ∷ t) zero (suc n) s hm hn e =
    absurd (never_below_itself simplex_cmp simplex_cmp_total v (subst (λ (x : List (List ℤ)). simplex_cmp v x ≡ Less) (sym e) (each_holds (λ w. simplex_cmp v w ≡ Less) t (get_or t n []) s.0 (Contains-get_or t n [] (omega arith)))))
one_place (v ∷ t) (suc m) zero s hm hn e =
    absurd (never_below_itself simplex_cmp simplex_cmp_total v (subst (λ (x : List (List ℤ)). simplex_cmp v x ≡ Less) e (each_holds (λ w. simplex_cmp v w ≡ Less) t (get_or t m []) s.0 (Contains-get_or t m [] (omega arith)))))

one_across : (d : ℕ) (q : List ℤ) (t : List (List (List ℤ))) → IsDelaunay d q t → IsStrictlySortedBy simplex_cmp t → HasOneAcross d t
one_across d q t k ascending s i m n p p' j j' c hi lm ln lj lj' f g =
    let a : IsNeighbour d t s i (get_or t m []) p j = record { member = Contains-get_or t m [] lm; dimension = f.dimension; place = lj; facet = f.facet; beyond = f.beyond } in
    let b : IsNeighbour d t s i (get_or t n []) p' j' = record { member = Contains-get_or t n [] ln; dimension = g.dimension; place = lj'; facet = g.facet; beyond = g.beyond } in
    one_place t m n ascending lm ln (unique_neighbour d q t s i (get_or t m []) (get_or t n []) p p' j j' k c hi a b).0

pub one_across_of_some_form : (d : ℕ) (t : List (List (List ℤ))) → IsTriangulation d t → IsOfSomeForm t → HasOneAcross d t
one_across_of_some_form d t h delaunay =
    one_across d delaunay.0 t (rw (dimension_is d t h) delaunay.1) h.ascending
