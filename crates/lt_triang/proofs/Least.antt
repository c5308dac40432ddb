-- The class of independent points: they are sorted and moved back by the least.
use Rattle.std.proofs.Common.{◌≡◌, ℕ, zero, suc, ℤ, negsuc, ◌+ℤ◌, ◌*ℤ◌, refl, ap, arith, sym, ◌∙◌, subst, List, [], ◌∷◌, length, get_or, inl, inr}
use Rattle.std.proofs.lemmas.Int.{ints}
use Rattle.std.specs.declared.cmp.Ordering.TheVariants.{Less}
use Rattle.std.specs.List.{All, Contains}
use Rattle.std.specs.List.Sorted.{IsSorted, IsStrictlySortedBy, IsPermutation}
use Rattle.std.proofs.lemmas.List.Sorted.{All-permutation, Contains-permutation, IsPermutation-sym, length_permutation}
use Rattle.std.proofs.lemmas.List.Elements.{recursion_from_All, All-from_recursion}
use Rattle.lt_model.proofs.Integers.{spread}
use Rattle.lt_model.proofs.Sets.{Contains-head, Contains-cases, each_holds}
use Rattle.lt_model.proofs.Squares.{length-scale}
use Rattle.lt_model.proofs.Translates.{ascending_translate}
use Rattle.lt_model.proofs.Moved.{simplex_moved, translate-back, Contains-translate}
use Rattle.lt_model.specs.Order.{number_list_cmp}
use Rattle.lt_model.specs.Vectors.{plus, minus, scale}
use Rattle.lt_model.specs.Simplices.{AllOfDimension, AreIndependent, IsSimplex, translate}
use Rattle.lt_model.proofs.Points.{minus_itself, opposite_twice}
use Rattle.lt_triang.specs.Flat.{IsClassAt}
use Rattle.lt_triang.proofs.Permuted.{independent_permuted}
use Rattle.lt_lattice.specs.Ranges.{IsWithin}
use Rattle.lt_triang.specs.Bounds.{AreNear}
use Rattle.lt_triang.proofs.Independent.{strictly_from_sorted}

pub all_permuted : (d : ℕ) (ps ss : List (List ℤ)) → IsPermutation ps ss → AllOfDimension d ps → AllOfDimension d ss
all_permuted d ps ss h all =
    recursion_from_All (λ v. length v ≡ d) ss (All-permutation (λ v. length v ≡ d) ps ss h (All-from_recursion (λ v. length v ≡ d) ps all))

pub class_from_sorted : (d : ℕ) (ps ss : List (List ℤ)) → length ps ≡ suc d → AllOfDimension d ps → AreIndependent d ps → IsPermutation ps ss → IsSorted number_list_cmp ss →
    IsClassAt d ps (translate (scale (negsuc 0) (get_or ss 0 [])) ss) (get_or ss 0 [])
unfolding IsStrictlySortedBy
class_from_sorted d ps [] l all free h up = absurd (omega (arith, length_permutation ps [] h))
class_from_sorted d ps (v ∷ vs) l all free h up =
    let ss : List (List ℤ) = v ∷ vs in
    let all' : AllOfDimension d ss = all_permuted d ps ss h all in
    let free' : AreIndependent d ss = independent_permuted d ps ss all (omega arith) h free in
    let strict : IsStrictlySortedBy number_list_cmp ss = strictly_from_sorted d ss all' free' up in
    let q : List ℤ = scale (negsuc 0) v in
    let lq : length q ≡ d = length-scale (negsuc 0) v ∙ all'.0 in
    let back : translate v (translate q ss) ≡ ss = ap (λ p. translate p (translate q ss)) (sym (opposite_twice v)) ∙ translate-back d ss q all' lq in
    let simplex : IsSimplex d ss = record { count = length_permutation ps ss h ∙ l; points = all'; independent = λ b lb sb nb. free' b lb sb nb } in
    record {
      dimension = all'.0;
      «class» = record { simplex = simplex_moved d ss q lq simplex; ascending = ascending_translate d q ss lq all' strict; first = minus_itself d v all'.0 };
      same = λ x. (λ k. subst (λ (w : List (List ℤ)). Contains w x) (sym back) (Contains-permutation ps ss x h k), λ k. Contains-permutation ss ps x (IsPermutation-sym ps ss h) (subst (λ (w : List (List ℤ)). Contains w x) back k));
      independent = λ b lb sb nb. free b lb sb nb;
      member = Contains-permutation ss ps v (IsPermutation-sym ps ss h) (Contains-head v vs);
      least = λ x k. elim (Contains-cases v vs x (Contains-permutation ps ss x h k)) [ inl e ↦ inl e | inr r ↦ inr (each_holds (λ y. number_list_cmp v y ≡ Less) vs x strict.0 r) ];
    }

-- ---- how far the vertices lie apart

pub minus-plus : (d : ℕ) (x y p : List ℤ) → length x ≡ d → length y ≡ d → length p ≡ d → minus (plus x p) (plus y p) ≡ minus x y
minus-plus zero [] [] [] lx ly lp = refl
minus-plus zero (a ∷ x) y p lx ly lp = absurd (omega arith)
minus-plus zero [] (b ∷ y) p lx ly lp = absurd (omega arith)
minus-plus zero [] [] (c ∷ p) lx ly lp = absurd (omega arith)
minus-plus (suc d) [] y p lx ly lp = absurd (omega arith)
minus-plus (suc d) (a ∷ x) [] p lx ly lp = absurd (omega arith)
minus-plus (suc d) (a ∷ x) (b ∷ y) [] lx ly lp = absurd (omega arith)
minus-plus (suc d) (a ∷ x) (b ∷ y) (c ∷ p) lx ly lp =
    let e : (a +ℤ c) +ℤ negsuc 0 *ℤ (b +ℤ c) ≡ a +ℤ negsuc 0 *ℤ b = simp spread (omega (arith, ints)) in
    rw (e, minus-plus d x y p (omega arith) (omega arith) (omega arith)) refl

-- the class of near points has near vertices
pub near_class : (d m : ℕ) (ps s : List (List ℤ)) (p : List ℤ) → IsClassAt d ps s p → AreNear m ps → AreNear m s
near_class d m ps s p h near x y cx cy =
    let lx : length x ≡ d = each_holds (λ v. length v ≡ d) s x h.«class».simplex.points cx in
    let ly : length y ≡ d = each_holds (λ v. length v ≡ d) s y h.«class».simplex.points cy in
    subst (λ (z : List ℤ). All (IsWithin m) z) (minus-plus d x y p lx ly h.dimension)
    (near (plus x p) (plus y p) ((h.same (plus x p)).1 (Contains-translate s p x cx)) ((h.same (plus y p)).1 (Contains-translate s p y cy)))
