-- A point and the vertices of a class without it, in ascending order, moved so that the first is 0.
use Rattle.std.proofs.Common.{◌≡◌, ℕ, suc, ℤ, negsuc, ◌*◌, ◌^◌, refl, ap, ap₂, arith, sym, ◌∙◌, subst, true, false, List, [], ◌∷◌, length, get_or, ◌⊎◌, inl, inr}
use Rattle.std.specs.declared.cmp.Ordering.{Ordering}
use Rattle.std.specs.declared.cmp.Ordering.TheVariants.{Less, Equal, Greater}
use Rattle.std.specs.Ordering.{eq_by_cmp, is_eq, is_lt, ordering_reverse}
use Rattle.std.specs.List.{All, AllByRecursion, Contains, IsDistinct}
use Rattle.std.specs.List.Sorted.{IsStrictlySortedBy, IsSorted, IsPermutation}
use Rattle.std.proofs.lemmas.Cmp.{eq_by_cmp_equiv}
use Rattle.std.proofs.lemmas.Map.Keys.{IsDistinct-IsPermutation, IsDistinct-from_sorted}
use Rattle.std.proofs.lemmas.List.Sorted.{Contains-permutation, IsPermutation-sym, length_permutation, sorted_far}
use Rattle.std.proofs.lemmas.List.Sorted.{ranks_by}
use Rattle.lt_model.proofs.Sets.{Contains-head, Contains-tail, each_holds, same_members, number_list_cmp_total}
use Rattle.lt_model.proofs.Squares.{length-scale}
use Rattle.lt_model.proofs.Moved.{translate_all, translate-back}
use Rattle.lt_model.proofs.Excess.{length-translate}
use Rattle.lt_model.proofs.Translates.{get-translate, ascending_translate}
use Rattle.lt_model.specs.Limits.{span_limit}
use Rattle.lt_model.specs.Order.{number_list_cmp}
use Rattle.lt_model.specs.Vectors.{plus, minus, scale}
use Rattle.lt_model.specs.Simplices.{AllOfDimension, IsClass, translate}
use Rattle.lt_model.proofs.Points.{get_dimension, minus_itself, opposite_twice}
use Rattle.lt_geometry.proofs.LocalWalk.{zeros-plus}
use Rattle.lt_lattice.specs.Ranges.{IsWithin}
use Rattle.lt_triang.specs.Bounds.{AreNear}
use Rattle.lt_triang.proofs.Tied.{equal_points}
use Rattle.lt_triang.proofs.Independent.{ascending_rest}
use Rattle.lt_triang.proofs.Least.{all_permuted}
use Rattle.lt_triang.proofs.Gaps.{twice_limit}
use Rattle.lt_triang.proofs.Steps.{sorted_near, near_more}
use Rattle.lt_flip.specs.Ascending.{AreAscending}
use Rattle.lt_flip.specs.Cells.{IsMovedFrom}
use Rattle.lt_flip.proofs.Near.{near_translate}

-- ---- sorted points without repetition

less_or_equal : (o o' : Ordering) → o ≡ ordering_reverse o' → is_lt o' ≡ false → (o ≡ Less) ⊎ (o ≡ Equal)
less_or_equal o Less e h = cc
less_or_equal o Equal e h = inr e
less_or_equal o Greater e h = inl e

all_members : (P : List ℤ → Type 0) (vs : List (List ℤ)) → ((y : List ℤ) → Contains vs y → P y) → AllByRecursion P vs
all_members P [] h = tt
all_members P (w ∷ vs) h = (h w (Contains-head w vs), all_members P vs (λ y c. h y (Contains-tail w vs y c)))

strictly_sorted : (vs : List (List ℤ)) → IsDistinct (eq_by_cmp number_list_cmp) vs → IsSorted number_list_cmp vs → IsStrictlySortedBy number_list_cmp vs
unfolding IsStrictlySortedBy IsDistinct
strictly_sorted [] free up = tt
strictly_sorted (v ∷ vs) free up = (all_members (λ y. number_list_cmp v y ≡ Less) vs above, strictly_sorted vs free.1 (ascending_rest v vs up))
  where
    far : (y : List ℤ) → Contains vs y → is_lt (number_list_cmp y v) ≡ false
    far y (k, p, e) =
        let f : is_lt (number_list_cmp (get_or (v ∷ vs) (suc k) y) (get_or (v ∷ vs) 0 y)) ≡ false = sorted_far (λ x y. is_lt (number_list_cmp x y)) (ranks_by number_list_cmp_total (λ x. x)) (v ∷ vs) up 0 (suc k) y (omega arith) (omega arith) in
        subst (λ (w : List ℤ). is_lt (number_list_cmp w v) ≡ false) e f

    above : (y : List ℤ) → Contains vs y → number_list_cmp v y ≡ Less
    above y c =
        elim (less_or_equal (number_list_cmp v y) (number_list_cmp y v) (number_list_cmp_total.antisymm v y) (far y c)) [
          | inl e ↦ e
          | inr e ↦ absurd (let h : eq_by_cmp number_list_cmp v y ≡ false = each_holds (λ z. eq_by_cmp number_list_cmp v z ≡ false) vs y free.0 c in let k : eq_by_cmp number_list_cmp v y ≡ true = ap is_eq e in cc)
        ]

with_point_distinct : (w : List ℤ) (s : List (List ℤ)) → IsStrictlySortedBy number_list_cmp s → (Contains s w → ⊥) → IsDistinct (eq_by_cmp number_list_cmp) (w ∷ s)
unfolding IsDistinct
with_point_distinct w s up out = (all_members (λ y. eq_by_cmp number_list_cmp w y ≡ false) s (λ y c. not_equal y c (number_list_cmp w y) refl), IsDistinct-from_sorted number_list_cmp s up)
  where
    not_equal : (y : List ℤ) → Contains s y → (o : Ordering) → number_list_cmp w y ≡ o → eq_by_cmp number_list_cmp w y ≡ false
    not_equal y c Less e = ap is_eq e
    not_equal y c Equal e = absurd (out (subst (Contains s) (sym (equal_points w y e)) c))
    not_equal y c Greater e = ap is_eq e

-- ---- moved so that the first is 0

pub record IsSortedCell (d : ℕ) (points ss : List (List ℤ)) : Type 0 where
  pub count : length ss ≡ suc (suc d)
  pub dimension : AllOfDimension d ss
  pub first_dimension : AllOfDimension (length (get_or ss 0 [])) ss
  pub near : All (λ v. All (IsWithin (2 ^ 20)) (minus v (get_or ss 0 []))) ss
  pub moved : IsMovedFrom d points (translate (scale (negsuc 0) (get_or ss 0 [])) ss)
  pub moved_near : AreNear (2 * span_limit d) (translate (scale (negsuc 0) (get_or ss 0 [])) ss)

pub sorted_cell : (d : ℕ) (s : List (List ℤ)) (w : List ℤ) (ss : List (List ℤ)) → IsClass d s → length w ≡ d → AreNear (2 * span_limit d) (w ∷ s) → (Contains s w → ⊥) → IsPermutation (w ∷ s) ss → IsSorted number_list_cmp ss → IsSortedCell d (w ∷ s) ss
sorted_cell d s w ss cls lw near out h up = record {
  count = count;
  dimension = all;
  first_dimension = subst (λ (n : ℕ). AllOfDimension n ss) (sym lp) all;
  near = sorted_near (2 ^ 20) (w ∷ s) ss p (omega arith) (near_more (2 * span_limit d) (2 ^ 20) (w ∷ s) (omega (arith, twice_limit d)) near) h refl;
  moved = record {
    shape = record {
      count = length-translate q ss ∙ count;
      dimension = translate_all d q ss lq all;
      ascending = ascending_translate d q ss lq all strict;
      first = get-translate q 0 ss [] [] (omega (arith, count)) ∙ minus_itself d p lp;
    };
    shift = p;
    shifted = lp;
    same = λ x. (λ c. subst (λ (l : List (List ℤ)). Contains l x) (sym back) (Contains-permutation (w ∷ s) ss x h c), λ c. Contains-permutation ss (w ∷ s) x (IsPermutation-sym (w ∷ s) ss h) (subst (λ (l : List (List ℤ)). Contains l x) back c));
  };
  moved_near = near_translate d (2 * span_limit d) q ss lq all (λ x y cx cy. near x y (Contains-permutation ss (w ∷ s) x (IsPermutation-sym (w ∷ s) ss h) cx) (Contains-permutation ss (w ∷ s) y (IsPermutation-sym (w ∷ s) ss h) cy));
}
  where
    p : List ℤ
    p = get_or ss 0 []

    q : List ℤ
    q = scale (negsuc 0) p

    count : length ss ≡ suc (suc d)
    count = let e = length_permutation (w ∷ s) ss h in omega (arith, e, cls.simplex.count)

    all : AllOfDimension d ss
    all = all_permuted d (w ∷ s) ss h (lw, cls.simplex.points)

    lp : length p ≡ d
    lp = get_dimension d 0 ss [] all (omega (arith, count))

    lq : length q ≡ d
    lq = length-scale (negsuc 0) p ∙ lp

    strict : IsStrictlySortedBy number_list_cmp ss
    strict = strictly_sorted ss (IsDistinct-IsPermutation (eq_by_cmp number_list_cmp) (eq_by_cmp_equiv number_list_cmp_total).symm (w ∷ s) ss h (with_point_distinct w s cls.ascending out)) up

    back : translate p (translate q ss) ≡ ss
    back = ap (λ (r : List ℤ). translate r (translate q ss)) (sym (opposite_twice p)) ∙ translate-back d ss q all lq

-- two such lists of one set of points are equal
pub same_moved : (d : ℕ) (points ps qs : List (List ℤ)) → IsMovedFrom d points ps → IsMovedFrom d points qs → ps ≡ qs
same_moved d points ps qs h k =
    sym (translate-back d ps h.shift h.shape.dimension h.shifted) ∙ ap₂ (λ (r : List ℤ) (l : List (List ℤ)). translate (scale (negsuc 0) r) l) shifts up ∙ translate-back d qs k.shift k.shape.dimension k.shifted
  where
    up : translate h.shift ps ≡ translate k.shift qs
    up = same_members number_list_cmp number_list_cmp_total (translate h.shift ps) (translate k.shift qs) (ascending_translate d h.shift ps h.shifted h.shape.dimension h.shape.ascending) (ascending_translate d k.shift qs k.shifted k.shape.dimension k.shape.ascending)
        (λ x. (λ c. (k.same x).0 ((h.same x).1 c), λ c. (h.same x).0 ((k.same x).1 c)))

    first : (l : List (List ℤ)) (r : List ℤ) → AreAscending d l → length r ≡ d → get_or (translate r l) 0 [] ≡ r
    first l r a lr = get-translate r 0 l [] [] (omega (arith, a.count)) ∙ ap (λ (z : List ℤ). plus z r) a.first ∙ zeros-plus d r lr

    shifts : h.shift ≡ k.shift
    shifts = sym (first ps h.shift h.shape h.shifted) ∙ ap (λ (l : List (List ℤ)). get_or l 0 []) up ∙ first qs k.shift k.shape k.shifted
