-- Lists of points of one dimension: members, zeros and unit vectors, the opposite of a point, and a vertex as an expression.
use Rattle.std.proofs.Common.{◌≡◌, ℕ, zero, suc, ℤ, pos, negsuc, ◌*ℤ◌, ◌<◌, refl, ap, arith, sym, ◌∙◌, List, [], ◌∷◌, ◌++◌, length, map, drop, get_or}
use Rattle.std.proofs.lemmas.Int.{ints}
use Rattle.std.proofs.lemmas.List as lists
use Rattle.lt_model.specs.Facets.{number_at}
use Rattle.lt_model.specs.Matrices.{apply}
use Rattle.lt_model.specs.Simplices.{AllOfDimension, IsExpression}
use Rattle.lt_model.specs.Vectors.{plus, scale, dot, total, combine, zeros, unit}
use Rattle.lt_model.proofs.Integers.{mul_one_z}
use Rattle.lt_model.proofs.Vectors.{dot-plus, dot-scale, dot_comm, scale-scale}
use Rattle.lt_model.proofs.Squares.{length-scale, length-plus}
use Rattle.lt_model.proofs.Excess.{dot-combine, same_from_dots}
use Rattle.lt_model.proofs.Walk.{IsWeighted, length-combine, length-map, number_at-map}
use Rattle.lt_model.proofs.Opposite.{length-zeros, zeros-dot, length-unit, unit-dot}
use Rattle.lt_model.proofs.Differences.{total-none}

-- ---- members

pub get_dimension : (d k : ℕ) (vs : List (List ℤ)) (e : List ℤ) → AllOfDimension d vs → k < length vs → length (get_or vs k e) ≡ d
get_dimension d k [] e all p = absurd (omega arith)
get_dimension d zero (v ∷ vs) e all p = all.0
get_dimension d (suc k) (v ∷ vs) e all p = get_dimension d k vs e all.1 (omega arith)

pub all_appended : (d : ℕ) (vs : List (List ℤ)) (x : List ℤ) → AllOfDimension d vs → length x ≡ d → AllOfDimension d (vs ++ x ∷ [])
all_appended d [] x h l = (l, tt)
all_appended d (v ∷ vs) x h l = (h.0, all_appended d vs x h.1 l)

pub count_rest : (d : ℕ) (s : List (List ℤ)) → length s ≡ suc d → length (drop 1 s) ≡ d
count_rest d [] h = absurd (omega arith)
count_rest d (v ∷ vs) h = omega arith

pub length-apply : (u : List (List ℤ)) (x : List ℤ) → length (apply u x) ≡ length u
length-apply u x = lists.length-map u (λ r. dot r x)

-- ---- zeros, opposites and unit vectors

pub plus-zeros : (d : ℕ) (v : List ℤ) → length v ≡ d → plus v (zeros d) ≡ v
plus-zeros d v l = same_from_dots (plus v (zeros d)) v (length-plus v (zeros d) (l ∙ sym (length-zeros d))) at
  where
    at : (u : List ℤ) → dot u (plus v (zeros d)) ≡ dot u v
    at u =
        let z : dot u (zeros d) ≡ pos 0 = dot_comm u (zeros d) ∙ zeros-dot d u in
        dot-plus u v (zeros d) ∙ (omega (arith, ints, z))

pub scale-one : (x : List ℤ) → scale (pos 1) x ≡ x
scale-one [] = refl
scale-one (a ∷ x) = rw (scale-one x, one a) refl
  where
    one : (a : ℤ) → pos 1 *ℤ a ≡ a
    one a = omega (arith, ints)

pub opposite_twice : (p : List ℤ) → scale (negsuc 0) (scale (negsuc 0) p) ≡ p
opposite_twice p = scale-scale (negsuc 0) (negsuc 0) p ∙ scale-one p

pub minus_itself : (d : ℕ) (v : List ℤ) → length v ≡ d → plus v (scale (negsuc 0) v) ≡ zeros d
minus_itself d v l = same_from_dots (plus v (scale (negsuc 0) v)) (zeros d) (length-plus v (scale (negsuc 0) v) (sym (length-scale (negsuc 0) v)) ∙ l ∙ sym (length-zeros d)) at
  where
    at : (u : List ℤ) → dot u (plus v (scale (negsuc 0) v)) ≡ dot u (zeros d)
    at u =
        let z : dot u (zeros d) ≡ pos 0 = dot_comm u (zeros d) ∙ zeros-dot d u in
        dot-plus u v (scale (negsuc 0) v) ∙ (rw (dot-scale u (negsuc 0) v, z) (omega (arith, ints)))

pub total-unit : (n k : ℕ) → k < n → total (unit n k) ≡ pos 1
total-unit zero k h = absurd (omega arith)
total-unit (suc n) zero h = let e = total-none n in omega (arith, ints)
total-unit (suc n) (suc k) h = let e = total-unit n k (omega arith) in omega (arith, ints)

-- ---- expressions

pub weighted : (vs : List (List ℤ)) (x : List ℤ) (c : ℤ) (b : List ℤ) → IsExpression vs x c b → IsWeighted vs (pos 1) x c b
weighted vs x c b h = record { positive = h.positive; one_each = h.one_each; point = h.point; sum = h.sum ∙ sym (mul_one_z c) }

-- a vertex as an expression
pub vertex_expression : (d : ℕ) (vs : List (List ℤ)) (k : ℕ) → AllOfDimension d vs → k < length vs → IsExpression vs (get_or vs k []) (pos 1) (unit (length vs) k)
vertex_expression d vs k all h = record {
  positive = omega (arith, ints);
  one_each = length-unit (length vs) k;
  point = same_from_dots (combine (unit (length vs) k) vs) (scale (pos 1) (get_or vs k [])) (length-combine d (unit (length vs) k) vs all (length-unit (length vs) k) (omega arith) ∙ sym (get_dimension d k vs [] all h) ∙ sym (length-scale (pos 1) (get_or vs k []))) at;
  sum = total-unit (length vs) k h;
}
  where
    at : (u : List ℤ) → dot u (combine (unit (length vs) k) vs) ≡ dot u (scale (pos 1) (get_or vs k []))
    at u =
        let e = unit-dot (length vs) k (map (dot u) vs) (length-map (dot u) vs) in
        let f = number_at-map (dot u) k vs [] h in
        dot-combine u (unit (length vs) k) vs ∙ (rw (dot-scale u (pos 1) (get_or vs k [])) (omega (arith, ints, e, f)))
