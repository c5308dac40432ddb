-- The products of the coordinates of sums and multiples, and the parallelogram law.
use Rattle.std.proofs.Common.{◌≡◌, suc, ℤ, pos, negsuc, ◌+ℤ◌, ◌-ℤ◌, ◌*ℤ◌, refl, ap, arith, sym, ◌∙◌, List, [], ◌∷◌, ◌++◌, length}
use Rattle.std.proofs.lemmas.Int.{ints}
use Rattle.std.proofs.Math.IntN.{*ℤ_comm}
use Rattle.lt_model.proofs.Integers.{spread, triple_is, mul_assoc_z}
use Rattle.lt_model.proofs.Vectors.{dot-plus, dot-scale, plus_comm, plus_assoc, scale-plus, add-scale, scale-scale}
use Rattle.lt_model.specs.Vectors.{plus, minus, scale}
use Rattle.lt_model.specs.Forms.{squares, cross, polar, value}

ring4 : (k a : ℤ) → k *ℤ a *ℤ (k *ℤ a) ≡ k *ℤ k *ℤ (a *ℤ a)
ring4 k a =
    mul_assoc_z k a (k *ℤ a) ∙ ap (λ n. k *ℤ n) (sym (mul_assoc_z a k a) ∙ ap (λ n. n *ℤ a) (*ℤ_comm a k) ∙ mul_assoc_z k a a) ∙ sym (mul_assoc_z k k (a *ℤ a))

pub length-scale : (k : ℤ) (x : List ℤ) → length (scale k x) ≡ length x
length-scale k [] = refl
length-scale k (a ∷ x) = ap suc (length-scale k x)

pub length-plus : (x y : List ℤ) → length x ≡ length y → length (plus x y) ≡ length x
length-plus [] [] h = refl
length-plus [] (b ∷ y) h = sym h
length-plus (a ∷ x) [] h = refl
length-plus (a ∷ x) (b ∷ y) h = ap suc (length-plus x y (omega arith))

pub plus-append : (a b c d : List ℤ) → length a ≡ length c → plus (a ++ b) (c ++ d) ≡ plus a c ++ plus b d
plus-append [] b [] d h = refl
plus-append [] b (z ∷ c) d h = absurd (omega arith)
plus-append (y ∷ a) b [] d h = absurd (omega arith)
plus-append (y ∷ a) b (z ∷ c) d h = ap (λ l. (y +ℤ z) ∷ l) (plus-append a b c d (omega arith))

-- (a + b) + (c + d) = (a + d) + (b + c)
pub plus_swap : (a b c d : List ℤ) → plus (plus a b) (plus c d) ≡ plus (plus a d) (plus b c)
plus_swap a b c d =
    plus_assoc a b (plus c d) ∙ ap (plus a) (sym (plus_assoc b c d) ∙ plus_comm (plus b c) d) ∙ sym (plus_assoc a d (plus b c))

pub scale-both : (a b : ℤ) (x y : List ℤ) → scale (a +ℤ b) (plus x y) ≡ plus (plus (scale a x) (scale b y)) (plus (scale a y) (scale b x))
scale-both a b x y =
    add-scale a b (plus x y) ∙ (rw (scale-plus a x y, scale-plus b x y) (plus_swap (scale a x) (scale a y) (scale b x) (scale b y)))

pub squares-plus : (x y : List ℤ) → length x ≡ length y → squares (plus x y) ≡ plus (plus (squares x) (squares y)) (cross x y)
squares-plus [] [] h = refl
squares-plus [] (b ∷ y) h = absurd (omega arith)
squares-plus (a ∷ x) [] h = absurd (omega arith)
squares-plus (a ∷ x) (b ∷ y) h =
    let same : length x ≡ length y = omega arith in
    let ih : squares (plus x y) ≡ plus (plus (squares x) (squares y)) (cross x y) = squares-plus x y same in
    let head : (a +ℤ b) *ℤ (a +ℤ b) ≡ a *ℤ a +ℤ b *ℤ b +ℤ (a *ℤ b +ℤ b *ℤ a) = simp spread (omega (arith, ints)) in
    let l1 : length (scale a x) ≡ length (scale b y) = length-scale a x ∙ same ∙ sym (length-scale b y) in
    let l2 : length (scale a y) ≡ length (scale b x) = length-scale a y ∙ sym same ∙ sym (length-scale b x) in
    let l3 : length (plus (scale a x) (scale b y)) ≡ length (plus (scale a y) (scale b x)) =
    length-plus (scale a x) (scale b y) l1 ∙ (rw (length-scale a x, same, ← length-scale a y) (sym (length-plus (scale a y) (scale b x) l2)))
    in
    rw (
      head,
      ih,
      scale-both a b x y,
      plus-append (scale a x) (squares x) (scale b y) (squares y) l1,
      plus-append (plus (scale a x) (scale b y)) (plus (squares x) (squares y)) (plus (scale a y) (scale b x)) (cross x y) l3,
    ) refl

pub scale-append : (k : ℤ) (x y : List ℤ) → scale k (x ++ y) ≡ scale k x ++ scale k y
scale-append k [] y = refl
scale-append k (a ∷ x) y = ap (λ l. (k *ℤ a) ∷ l) (scale-append k x y)

pub squares-scale : (k : ℤ) (x : List ℤ) → squares (scale k x) ≡ scale (k *ℤ k) (squares x)
squares-scale k [] = refl
squares-scale k (a ∷ x) =
    let head : k *ℤ a *ℤ (k *ℤ a) ≡ k *ℤ k *ℤ (a *ℤ a) = ring4 k a in
    let row : scale (k *ℤ a) (scale k x) ≡ scale (k *ℤ k) (scale a x) =
    scale-scale (k *ℤ a) k x ∙ ap (λ j. scale j x) (simp spread (omega (arith, ints, triple_is))) ∙ sym (scale-scale (k *ℤ k) a x)
    in
    rw (head, row, squares-scale k x, scale-append (k *ℤ k) (scale a x) (squares x)) refl

-- the value at x + y and at x - y
pub value-sum : (q x y : List ℤ) → length x ≡ length y → value q (plus x y) ≡ value q x +ℤ value q y +ℤ polar q x y
value-sum q x y h =
    rw (squares-plus x y h, dot-plus q (plus (squares x) (squares y)) (cross x y), dot-plus q (squares x) (squares y)) refl

pub cross-scale : (k : ℤ) (x y : List ℤ) → cross x (scale k y) ≡ scale k (cross x y)
cross-scale k [] y = refl
cross-scale k (a ∷ x) [] = refl
cross-scale k (a ∷ x) (b ∷ y) =
    let head : a *ℤ (k *ℤ b) +ℤ k *ℤ b *ℤ a ≡ k *ℤ (a *ℤ b +ℤ b *ℤ a) = simp spread (omega (arith, ints, triple_is)) in
    let left : scale a (scale k y) ≡ scale k (scale a y) = scale-scale a k y ∙ ap (λ j. scale j y) (*ℤ_comm a k) ∙ sym (scale-scale k a y) in
    rw (
      head,
      left,
      ← scale-scale k b x,
      ← scale-plus k (scale a y) (scale b x),
      cross-scale k x y,
      ← scale-append k (plus (scale a y) (scale b x)) (cross x y),
    ) refl

pub value-difference : (q x y : List ℤ) → length x ≡ length y → value q (minus x y) ≡ value q x +ℤ value q y -ℤ polar q x y
value-difference q x y h =
    let l : length x ≡ length (scale (negsuc 0) y) = h ∙ sym (length-scale (negsuc 0) y) in
    let one : negsuc 0 *ℤ negsuc 0 ≡ pos 1 = refl in
    value-sum q x (scale (negsuc 0) y) l ∙ (rw (
      squares-scale (negsuc 0) y,
      dot-scale q (negsuc 0 *ℤ negsuc 0) (squares y),
      cross-scale (negsuc 0) x y,
      dot-scale q (negsuc 0) (cross x y),
    ) (omega (arith, ints)))

pub parallelogram : (q x y : List ℤ) → length x ≡ length y → value q (plus x y) +ℤ value q (minus x y) ≡ pos 2 *ℤ value q x +ℤ pos 2 *ℤ value q y
parallelogram q x y h = rw (value-sum q x y h, value-difference q x y h) (omega (arith, ints))
