-- The values of a positive definite form are not negative; a point that is a combination of the vertices of a strictly empty
-- simplex with no negative number is a vertex.
use Rattle.std.proofs.Common.{◌≡◌, ℕ, zero, suc, ℤ, pos, negsuc, ◌-ℤ◌, ◌*ℤ◌, ◌≤ℤ◌, refl, ap, ap₂, arith, sym, ◌∙◌, subst, List, [], ◌∷◌, length, map}
use Rattle.std.proofs.lemmas.Int.{ints}
use Rattle.std.proofs.lemmas.List.Elements.{All-head, All-tail}
use Rattle.std.proofs.Math.IntN.{ℤ_discrete}
use Rattle.std.specs.List.{All, Contains}
use Rattle.lt_model.proofs.Ring.{ring, var, num, ◌⊖◌, ◌⊗◌}
use Rattle.lt_model.proofs.Inequalities.{mul_nonneg_z}
use Rattle.lt_model.proofs.Vectors.{dot-scale}
use Rattle.lt_model.proofs.Squares.{length-scale, squares-scale}
use Rattle.lt_model.proofs.Excess.{excess-moved}
use Rattle.lt_model.proofs.Moved.{plus-back, translate_all}
use Rattle.lt_model.proofs.Opposite.{length-zeros}
use Rattle.lt_model.specs.Vectors.{plus, scale, dot, zeros}
use Rattle.lt_model.specs.Forms.{squares, value, IsPositiveDefinite}
use Rattle.lt_model.specs.Simplices.{AllOfDimension, IsSimplex, IsExpression, IsStrictlyEmpty, excess, translate}
use Rattle.lt_geometry.proofs.LocalWalk.{zeros-plus}

pub list_dec : (x y : List ℤ) → Dec (x ≡ y)
list_dec [] [] = yes refl
list_dec [] (b ∷ y) = no (λ e. omega (arith, ap length e))
list_dec (a ∷ x) [] = no (λ e. omega (arith, ap length e))
list_dec (a ∷ x) (b ∷ y) = go (ℤ_discrete a b) (list_dec x y)
  where
    tail : List ℤ → List ℤ
    tail [] = []
    tail (c ∷ l) = l

    head : List ℤ → ℤ
    head [] = pos 0
    head (c ∷ l) = c

    go : Dec (a ≡ b) → Dec (x ≡ y) → Dec (a ∷ x ≡ b ∷ y)
    go (yes e) (yes f) = yes (ap₂ (λ c l. c ∷ l) e f)
    go (no m) r = no (λ e. m (ap head e))
    go (yes e) (no m) = no (λ e. m (ap tail e))

pub value-zeros : (q : List ℤ) (n : ℕ) → value q (zeros n) ≡ pos 0
value-zeros q n = ap (value q) (sym (scaled n)) ∙ ap (dot q) (squares-scale (pos 0) (zeros n)) ∙ dot-scale q (pos 0 *ℤ pos 0) (squares (zeros n)) ∙ ring ((dot q (squares (zeros n))) ∷ []) (num (pos 0) ⊗ num (pos 0) ⊗ var 0) (num (pos 0)) tt
  where
    scaled : (n : ℕ) → scale (pos 0) (zeros n) ≡ zeros n
    scaled zero = refl
    scaled (suc n) = ap (λ l. pos 0 ∷ l) (scaled n)

pub value_not_negative : (d : ℕ) (q x : List ℤ) → IsPositiveDefinite d q → length x ≡ d → pos 0 ≤ℤ value q x
value_not_negative d q x k l = go (list_dec x (zeros d))
  where
    go : Dec (x ≡ zeros d) → pos 0 ≤ℤ value q x
    go (yes e) = omega (arith, ints, ap (value q) e, value-zeros q d)
    go (no m) = omega (arith, ints, k.positive x l m)

sum_not_negative : (d : ℕ) (q b : List ℤ) (vs : List (List ℤ)) → IsPositiveDefinite d q → AllOfDimension d vs → All (λ z. pos 0 ≤ℤ z) b → pos 0 ≤ℤ dot b (map (value q) vs)
sum_not_negative d q [] vs k all h = omega (arith, ints)
sum_not_negative d q (z ∷ b) [] k all h = omega (arith, ints)
sum_not_negative d q (z ∷ b) (v ∷ vs) k all h =
    let first = mul_nonneg_z z (value q v) (All-head (λ y. pos 0 ≤ℤ y) z b h) (value_not_negative d q v k all.0) in
    let rest = sum_not_negative d q b vs k all.1 (All-tail (λ y. pos 0 ≤ℤ y) z b h) in
    omega (arith, ints, first, rest)

-- the excess of x is less the sum of the b_i Q[v_i - x]
reflected : (d : ℕ) (q : List ℤ) (vs : List (List ℤ)) (x : List ℤ) (c : ℤ) (b : List ℤ) → AllOfDimension d vs → length x ≡ d → IsExpression vs x c b → excess q vs x c b ≡ pos 0 -ℤ dot b (map (value q) (translate (scale (negsuc 0) x) vs))
reflected d q vs x c b all lx e =
    let m : List ℤ = scale (negsuc 0) x in
    let lm : length m ≡ d = length-scale (negsuc 0) x ∙ lx in
    let back : plus x m ≡ zeros d = ap (λ (y : List ℤ). plus y m) (sym (zeros-plus d x lx)) ∙ plus-back d (zeros d) x (length-zeros d) lx in
    let moved : excess q (translate m vs) (plus x m) c b ≡ excess q vs x c b = excess-moved q b vs x m c (subst (λ n. AllOfDimension n vs) (sym lm) all) (lx ∙ sym lm) e in
    sym moved ∙ ap (λ (z : ℤ). c *ℤ z -ℤ dot b (map (value q) (translate m vs))) (ap (value q) back ∙ value-zeros q d)
    ∙ ring (c ∷ dot b (map (value q) (translate m vs)) ∷ []) (var 0 ⊗ num (pos 0) ⊖ var 1) (num (pos 0) ⊖ var 1) tt

pub point_inside : (d : ℕ) (q : List ℤ) (vs : List (List ℤ)) (x : List ℤ) (c : ℤ) (b : List ℤ) → IsPositiveDefinite d q → IsSimplex d vs → IsStrictlyEmpty d q vs → length x ≡ d → IsExpression vs x c b → All (λ z. pos 0 ≤ℤ z) b → Contains vs x
point_inside d q vs x c b k s h lx e all =
    let lm : length (scale (negsuc 0) x) ≡ d = length-scale (negsuc 0) x ∙ lx in
    let sum = sum_not_negative d q b (translate (scale (negsuc 0) x) vs) k (translate_all d (scale (negsuc 0) x) vs lm s.points) all in
    let low : pos 0 ≤ℤ excess q vs x c b = h.outside x c b lx e in
    h.touches x c b lx e (omega (arith, ints, low, sum, reflected d q vs x c b s.points lx e))
