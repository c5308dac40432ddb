-- Every rational point has an expression over a simplex, and its expressions are multiples of each other.
use Rattle.std.proofs.Common.{◌≡◌, ◌≢◌, ℕ, zero, suc, ℤ, pos, negsuc, ◌+ℤ◌, ◌*ℤ◌, ◌<ℤ◌, neg_ℤ, refl, ap, arith, sym, ◌∙◌, List, [], ◌∷◌, length, map}
use Rattle.std.proofs.lemmas.Int.{ints}
use Rattle.std.proofs.Math.IntN.{*ℤ-zero, zero-*ℤ}
use Rattle.lt_model.proofs.Integers.{spread, triple_is}
use Rattle.lt_model.proofs.Vectors.{dot-scale, dot_comm}
use Rattle.lt_model.proofs.Squares.{length-scale, length-plus}
use Rattle.lt_model.proofs.Excess.{dot-combine, same_from_dots, plus-dot, scale-dot, dot-constant}
use Rattle.lt_model.proofs.Walk.{length-combine, IsWeighted}
use Rattle.lt_model.proofs.Opposite.{length-zeros, zeros-dot}
use Rattle.lt_model.proofs.Dependent.{dependent, IsDependency, length-map_vectors}
use Rattle.lt_model.specs.Vectors.{plus, scale, dot, total, combine, zeros}
use Rattle.lt_model.specs.Simplices.{AllOfDimension, IsSimplex}
use Rattle.lt_model.specs.Facets.{number_at}

-- the point with 1 before its coordinates
abbrev pub lifted : List ℤ → List ℤ
lifted v = pos 1 ∷ v

lifted_all : (d : ℕ) (vs : List (List ℤ)) → AllOfDimension d vs → AllOfDimension (suc d) (map lifted vs)
lifted_all d [] h = tt
lifted_all d (v ∷ vs) h = (ap suc h.0, lifted_all d vs h.1)

one_of : (vs : List (List ℤ)) → map (dot (pos 1 ∷ [])) (map lifted vs) ≡ map (λ v. pos 1) vs
one_of [] = refl
one_of (v ∷ vs) = ap (λ l. pos 1 ∷ l) (one_of vs)

rest_of_lifted : (u : List ℤ) (vs : List (List ℤ)) → map (dot (pos 0 ∷ u)) (map lifted vs) ≡ map (dot u) vs
rest_of_lifted u [] = refl
rest_of_lifted u (v ∷ vs) =
    let e : pos 0 *ℤ pos 1 +ℤ dot u v ≡ dot u v = omega (arith, ints) in
    rw (rest_of_lifted u vs, e) refl

pub number_at-zeros : (n i : ℕ) → number_at i (zeros n) ≡ pos 0
number_at-zeros zero i = refl
number_at-zeros (suc n) zero = refl
number_at-zeros (suc n) (suc i) = number_at-zeros n i

pub total-scale : (k : ℤ) (b : List ℤ) → total (scale k b) ≡ k *ℤ total b
total-scale k [] = sym (*ℤ-zero k)
total-scale k (a ∷ b) = rw (total-scale k b) (simp spread (omega (arith, ints)))

pub record HasWeighted (vs : List (List ℤ)) (m : ℤ) (x : List ℤ) : Type 0 where
  pub c : ℤ
  pub b : List ℤ
  pub is : IsWeighted vs m x c b

end1 : (k x y : ℤ) → k *ℤ x +ℤ y ≡ pos 0 → y ≡ neg_ℤ k *ℤ x
end1 k x y h = simp spread (omega (arith, ints, h))

end2 : (k x y : ℤ) → k *ℤ x +ℤ y ≡ pos 0 → neg_ℤ k *ℤ x +ℤ negsuc 0 *ℤ y ≡ pos 0
end2 k x y h = simp spread (omega (arith, ints, h))

-- from a dependency k, b of x and the vertices, with k negative
from_negative : (d : ℕ) (vs : List (List ℤ)) (m : ℤ) (x b : List ℤ) (k : ℤ) → IsSimplex d vs → length x ≡ d → length b ≡ length vs → k <ℤ pos 0 → k *ℤ m +ℤ total b ≡ pos 0 →
    ((u : List ℤ) → k *ℤ dot u x +ℤ dot b (map (dot u) vs) ≡ pos 0) → HasWeighted vs m x
from_negative d vs m x b k s lx lb neg sum point = record {
  c = neg_ℤ k;
  b = b;
  is = record {
    positive = omega (arith, ints);
    one_each = lb;
    point = same_from_dots (combine b vs) (scale (neg_ℤ k) x) (length-combine d b vs s.points lb (omega (arith, s.count)) ∙ sym lx ∙ sym (length-scale (neg_ℤ k) x))
        (λ u. dot-combine u b vs ∙ end1 k (dot u x) (dot b (map (dot u) vs)) (point u) ∙ sym (dot-scale u (neg_ℤ k) x));
    sum = end1 k m (total b) sum;
  };
}

by_sign : (d : ℕ) (vs : List (List ℤ)) (m : ℤ) (x b : List ℤ) (k : ℤ) → IsSimplex d vs → length x ≡ d → length b ≡ length vs → (place : ℕ) → number_at place (k ∷ b) ≢ pos 0 → k *ℤ m +ℤ total b ≡ pos 0 →
    ((u : List ℤ) → k *ℤ dot u x +ℤ dot b (map (dot u) vs) ≡ pos 0) → HasWeighted vs m x
by_sign d vs m x b (pos zero) s lx lb place some sum point = absurd (some is_zero)
  where
    agrees : (u : List ℤ) → dot u (combine b vs) ≡ dot u (zeros d)
    agrees u =
        let e1 : dot u (combine b vs) ≡ dot b (map (dot u) vs) = dot-combine u b vs in
        let e2 : dot u (zeros d) ≡ pos 0 = dot_comm u (zeros d) ∙ zeros-dot d u in
        omega (arith, ints, e1, e2, point u, zero-*ℤ (dot u x))

    no_numbers : b ≡ zeros (length vs)
    no_numbers = s.independent b lb (omega (arith, ints, zero-*ℤ m)) (same_from_dots (combine b vs) (zeros d) (length-combine d b vs s.points lb (omega (arith, s.count)) ∙ sym (length-zeros d)) agrees)

    is_zero : number_at place (pos 0 ∷ b) ≡ pos 0
    is_zero = rw no_numbers (number_at-zeros (suc (length vs)) place)
by_sign d vs m x b (pos (suc n)) s lx lb place some sum point =
    from_negative d vs m x (scale (negsuc 0) b) (neg_ℤ (pos (suc n))) s lx (length-scale (negsuc 0) b ∙ lb) (omega (arith, ints)) (rw (total-scale (negsuc 0) b) (end2 (pos (suc n)) m (total b) sum))
    (λ u. rw (scale-dot (negsuc 0) b (map (dot u) vs)) (end2 (pos (suc n)) (dot u x) (dot b (map (dot u) vs)) (point u)))
by_sign d vs m x b (negsuc n) s lx lb place some sum point = from_negative d vs m x b (negsuc n) s lx lb (omega (arith, ints)) sum point

from_dependency : (d : ℕ) (vs : List (List ℤ)) (m : ℤ) (x b : List ℤ) → IsSimplex d vs → length x ≡ d → IsDependency ((m ∷ x) ∷ map lifted vs) b → HasWeighted vs m x
from_dependency d vs m x [] s lx h = absurd (omega (arith, h.within))
from_dependency d vs m x (k ∷ b) s lx h =
    let lb : length b ≡ length vs = omega (arith, h.one_each, length-map_vectors lifted vs) in
    let e1 : dot b (map (dot (pos 1 ∷ [])) (map lifted vs)) ≡ total b *ℤ pos 1 = ap (dot b) (one_of vs) ∙ dot-constant b (pos 1) vs lb in
    let e3 : pos 1 *ℤ m +ℤ pos 0 ≡ m = omega (arith, ints) in
    let e2 : k *ℤ m +ℤ dot b (map (dot (pos 1 ∷ [])) (map lifted vs)) ≡ pos 0 = rw e3 at (h.zero_there (pos 1 ∷ [])) in
    let sum : k *ℤ m +ℤ total b ≡ pos 0 = omega (arith, ints, e1, e2) in
    by_sign d vs m x b k s lx lb h.place h.some sum (λ u. at u (h.zero_there (pos 0 ∷ u)))
  where
    at : (u : List ℤ) → k *ℤ (pos 0 *ℤ m +ℤ dot u x) +ℤ dot b (map (dot (pos 0 ∷ u)) (map lifted vs)) ≡ pos 0 → k *ℤ dot u x +ℤ dot b (map (dot u) vs) ≡ pos 0
    at u e =
        let e1 : pos 0 *ℤ m +ℤ dot u x ≡ dot u x = omega (arith, ints) in
        rw (e1, rest_of_lifted u vs) at e

-- every rational point has an expression over a simplex
pub has_weighted : (d : ℕ) (vs : List (List ℤ)) (m : ℤ) (x : List ℤ) → IsSimplex d vs → length x ≡ d → HasWeighted vs m x
has_weighted d vs m x s lx =
    let found = dependent (suc d) ((m ∷ x) ∷ map lifted vs) (ap suc lx, lifted_all d vs s.points) (omega (arith, length-map_vectors lifted vs, s.count)) in
    from_dependency d vs m x found.0 s lx found.1

zero_from_difference : (n : ℕ) (a b : List ℤ) → length a ≡ n → length b ≡ n → plus a (scale (negsuc 0) b) ≡ zeros n → a ≡ b
zero_from_difference zero [] [] la lb h = refl
zero_from_difference zero (x ∷ a) b la lb h = absurd (omega arith)
zero_from_difference zero [] (y ∷ b) la lb h = absurd (omega arith)
zero_from_difference (suc n) [] b la lb h = absurd (omega arith)
zero_from_difference (suc n) (x ∷ a) [] la lb h = absurd (omega arith)
zero_from_difference (suc n) (x ∷ a) (y ∷ b) la lb h =
    let e1 : x +ℤ negsuc 0 *ℤ y ≡ pos 0 = cc in
    let e2 : plus a (scale (negsuc 0) b) ≡ zeros n = cc in
    let e3 : a ≡ b = zero_from_difference n a b (omega arith) (omega arith) e2 in
    let e4 : x ≡ y = omega (arith, ints, e1) in
    cc

pub total-plus : (x y : List ℤ) → total (plus x y) ≡ total x +ℤ total y
total-plus [] y = omega (arith, ints)
total-plus (a ∷ x) [] = omega (arith, ints)
total-plus (a ∷ x) (b ∷ y) = rw (total-plus x y) (omega (arith, ints))

-- the expressions of one point over a simplex are multiples of each other
pub one_expression : (d : ℕ) (vs : List (List ℤ)) (m : ℤ) (x b b' : List ℤ) (c c' : ℤ) → IsSimplex d vs → IsWeighted vs m x c b → IsWeighted vs m x c' b' → scale c' b ≡ scale c b'
one_expression d vs m x b b' c c' s h k =
    let left : length (scale c' b) ≡ length vs = length-scale c' b ∙ h.one_each in
    let right : length (scale c b') ≡ length vs = length-scale c b' ∙ k.one_each in
    let z : List ℤ = plus (scale c' b) (scale (negsuc 0) (scale c b')) in
    let lz : length z ≡ length vs = length-plus (scale c' b) (scale (negsuc 0) (scale c b')) (left ∙ sym right ∙ sym (length-scale (negsuc 0) (scale c b'))) ∙ left in
    let sum : total z ≡ pos 0 =
    total-plus (scale c' b) (scale (negsuc 0) (scale c b')) ∙ (rw (total-scale c' b, total-scale (negsuc 0) (scale c b'), total-scale c b', h.sum, k.sum) (end c c' m))
    in
    let none : z ≡ zeros (length vs) =
    s.independent z lz sum (same_from_dots (combine z vs) (zeros d) (length-combine d z vs s.points lz (omega (arith, s.count)) ∙ sym (length-zeros d)) at)
    in
    zero_from_difference (length vs) (scale c' b) (scale c b') left right none
  where
    end : (c c' m : ℤ) → c' *ℤ (c *ℤ m) +ℤ negsuc 0 *ℤ (c *ℤ (c' *ℤ m)) ≡ pos 0
    end c c' m = omega (arith, ints, triple_is)

    at : (u : List ℤ) → dot u (combine (plus (scale c' b) (scale (negsuc 0) (scale c b'))) vs) ≡ dot u (zeros d)
    at u =
        let e1 : dot b (map (dot u) vs) ≡ c *ℤ dot u x = sym (dot-combine u b vs) ∙ ap (dot u) h.point ∙ dot-scale u c x in
        let e2 : dot b' (map (dot u) vs) ≡ c' *ℤ dot u x = sym (dot-combine u b' vs) ∙ ap (dot u) k.point ∙ dot-scale u c' x in
        dot-combine u (plus (scale c' b) (scale (negsuc 0) (scale c b'))) vs ∙ plus-dot (scale c' b) (scale (negsuc 0) (scale c b')) (map (dot u) vs)
        ∙ (rw (scale-dot c' b (map (dot u) vs), scale-dot (negsuc 0) (scale c b') (map (dot u) vs), scale-dot c b' (map (dot u) vs), e1, e2) (end c c' (dot u x)))
        ∙ sym (dot_comm u (zeros d) ∙ zeros-dot d u)
