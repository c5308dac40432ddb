-- Sums of products modulo 2^128, and the numbers of the image of a normal one by one.
use Rattle.std.proofs.Common.{◌≡◌, ℕ, ℤ, pos, ◌+ℤ◌, ◌*ℤ◌, ◌<◌, ◌+◌, ◌∙◌, ap, arith, List, length, drop, get_or}
use Rattle.std.proofs.lemmas.Int.{ints, int_wrap-add_left, int_wrap-add_right}
use Rattle.std.specs.Int.{int_wrap}
use mir.Syntax.{w128}
use Rattle.lt_model.specs.Vectors.{dot}
use Rattle.lt_lattice.proofs.Dots.{dot-drop}

-- one product more of the sum
pub wrapped_step : (a b : List ℤ) (i : ℕ) (s t : ℤ) → i < length a → i < length b → t ≡ int_wrap w128 (s +ℤ int_wrap w128 (get_or a i (pos 0) *ℤ get_or b i (pos 0))) → int_wrap w128 (s +ℤ dot (drop i a) (drop i b)) ≡ int_wrap w128 (dot a b) →
    int_wrap w128 (t +ℤ dot (drop (i + 1) a) (drop (i + 1) b)) ≡ int_wrap w128 (dot a b)
wrapped_step a b i s t p q is h =
    let x : ℤ = get_or a i (pos 0) *ℤ get_or b i (pos 0) in
    let r : ℤ = dot (drop (i + 1) a) (drop (i + 1) b) in
    let e1 : (s +ℤ int_wrap w128 x) +ℤ r ≡ (s +ℤ r) +ℤ int_wrap w128 x = turned s (int_wrap w128 x) r in
    let e2 : (s +ℤ r) +ℤ x ≡ s +ℤ dot (drop i a) (drop i b) = joined s r x (dot (drop i a) (drop i b)) (dot-drop a b i p q) in
    ap (λ z. int_wrap w128 (z +ℤ r)) is ∙ int_wrap-add_left w128 (s +ℤ int_wrap w128 x) r ∙ ap (int_wrap w128) e1 ∙ int_wrap-add_right w128 (s +ℤ r) x ∙ ap (int_wrap w128) e2 ∙ h
  where
    turned : (s w r : ℤ) → (s +ℤ w) +ℤ r ≡ (s +ℤ r) +ℤ w
    turned s w r = omega (arith, ints)

    joined : (s r x z : ℤ) → z ≡ x +ℤ r → (s +ℤ r) +ℤ x ≡ s +ℤ z
    joined s r x z e = omega (arith, ints, e)
