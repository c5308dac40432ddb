-- Multiples of primitive vectors.
use Rattle.std.proofs.Common.{◌≡◌, ℕ, zero, suc, ℤ, pos, negsuc, ◌+ℤ◌, ◌-ℤ◌, ◌*ℤ◌, ◌<◌, ◌≤◌, ◌+◌, ◌*◌, refl, ap, ap₂, arith, sym, ◌∙◌, List, [], ◌∷◌, length, ◌⊎◌, inl, inr}
use Rattle.std.proofs.lemmas.Int.{ints}
use Rattle.lt_model.proofs.Integers.{one_mul_z}
use Rattle.lt_model.proofs.Ring.{ring, var, num, ◌⊕◌, ◌⊖◌, ◌⊗◌}
use Rattle.lt_model.proofs.Inequalities.{cancel_z}
use Rattle.lt_model.proofs.Squares.{length-scale, length-plus}
use Rattle.lt_model.proofs.Vectors.{dot-plus, dot-scale}
use Rattle.lt_model.proofs.Excess.{same_from_dots}
use Rattle.lt_model.specs.Vectors.{plus, scale, dot, IsPrimitive}

-- both are multiples of one vector
pub record HasCommonPart (n m : List ℤ) : Type 0 where
  pub part : List ℤ
  pub first : ℕ
  pub second : ℕ
  pub first_is : n ≡ scale (pos first) part
  pub second_is : m ≡ scale (pos second) part

own_multiple : (n : List ℤ) → n ≡ scale (pos 1) n
own_multiple [] = refl
own_multiple (x ∷ n) = ap₂ (λ (y : ℤ) (l : List ℤ). y ∷ l) (sym (one_mul_z x)) (own_multiple n)

same_multiples : (i : ℕ) (n m : List ℤ) → 0 < i → length n ≡ length m → ((u : List ℤ) → pos i *ℤ dot u n ≡ pos i *ℤ dot u m) → n ≡ m
same_multiples i n m h l e = same_from_dots n m l (λ u. cancel_z (pos i) (dot u n) (dot u m) (omega (arith, ints)) (e u))

order : (i j : ℕ) → (i < j) ⊎ (j ≤ i)
order i zero = inr (omega arith)
order zero (suc j) = inl (omega arith)
order (suc i) (suc j) = elim (order i j) [ inl h ↦ inl (omega arith) | inr h ↦ inr (omega arith) ]

difference : (i j r : ℕ) → j ≡ i + r → (a b : ℤ) → pos i *ℤ a ≡ pos j *ℤ b → pos i *ℤ (a +ℤ negsuc 0 *ℤ b) ≡ pos r *ℤ b
difference i j r h a b e =
    let s : pos j ≡ pos i +ℤ pos r = omega (arith, ints) in
    let f : pos i *ℤ a ≡ (pos i +ℤ pos r) *ℤ b = e ∙ ap (λ x. x *ℤ b) s in
    let g : (pos i +ℤ pos r) *ℤ b ≡ pos i *ℤ b +ℤ pos r *ℤ b = ring (pos i ∷ pos r ∷ b ∷ []) ((var 0 ⊕ var 1) ⊗ var 2) (var 0 ⊗ var 2 ⊕ var 1 ⊗ var 2) tt in
    let k : pos i *ℤ (a +ℤ negsuc 0 *ℤ b) ≡ pos i *ℤ a -ℤ pos i *ℤ b = ring (pos i ∷ a ∷ b ∷ []) (var 0 ⊗ (var 1 ⊕ num (negsuc 0) ⊗ var 2)) (var 0 ⊗ var 1 ⊖ var 0 ⊗ var 2) tt in
    omega (arith, ints, f, g, k)

-- the larger of two multiples less the other, until they are the same
common_part : (fuel i j : ℕ) (n m : List ℤ) → i + j ≤ fuel → 0 < i → 0 < j → length n ≡ length m → ((u : List ℤ) → pos i *ℤ dot u n ≡ pos j *ℤ dot u m) → HasCommonPart n m
common_part zero i j n m hf hi hj l e = absurd (omega arith)
common_part (suc fuel) i j n m hf hi hj l e =
    elim (order i j) [
      | inl h ↦ swap (later m n fuel i j h hi hf (sym l) e (common_part fuel))
      | inr h ↦ elim (order j i) [
        | inl k ↦ later n m fuel j i k hj (omega arith) l (λ u. sym (e u)) (common_part fuel)
        | inr k ↦ equal (omega arith)
      ]
    ]
  where
    swap : HasCommonPart m n → HasCommonPart n m
    swap h = record { part = h.part; first = h.second; second = h.first; first_is = h.second_is; second_is = h.first_is }

    equal : i ≡ j → HasCommonPart n m
    equal h =
        let same : n ≡ m = same_multiples i n m hi l (λ u. e u ∙ ap (λ (x : ℕ). pos x *ℤ dot u m) (sym h)) in
        record { part = m; first = 1; second = 1; first_is = same ∙ own_multiple m; second_is = own_multiple m }

    -- i m = j k with i < j: m - k and k have a common part
    later : (k m : List ℤ) (fuel i j : ℕ) → i < j → 0 < i → i + j ≤ suc fuel → length k ≡ length m → ((u : List ℤ) → pos i *ℤ dot u m ≡ pos j *ℤ dot u k) →
        ((i j : ℕ) (n m : List ℤ) → i + j ≤ fuel → 0 < i → 0 < j → length n ≡ length m → ((u : List ℤ) → pos i *ℤ dot u n ≡ pos j *ℤ dot u m) → HasCommonPart n m) → HasCommonPart k m
    later k m fuel i j h hi hf l e again =
        let found = (r : ℕ) × (j ≡ i + r) in
        let r : (r : ℕ) × (j ≡ i + r) = rest i j h in
        let rest_vector : List ℤ = plus m (scale (negsuc 0) k) in
        let lr : length rest_vector ≡ length m = length-plus m (scale (negsuc 0) k) (sym l ∙ sym (length-scale (negsuc 0) k)) in
        let is : (u : List ℤ) → pos i *ℤ dot u rest_vector ≡ pos r.0 *ℤ dot u k = λ u. ap (λ x. pos i *ℤ x) (dot-plus u m (scale (negsuc 0) k) ∙ ap (λ x. dot u m +ℤ x) (dot-scale u (negsuc 0) k)) ∙ difference i j r.0 r.1 (dot u m) (dot u k) (e u) in
        let c = again i r.0 rest_vector k (omega (arith, r.1)) hi (omega (arith, r.1)) (lr ∙ sym l) is in
        record {
          part = c.part;
          first = c.second;
          second = c.first + c.second;
          first_is = c.second_is;
          second_is = same_from_dots m (scale (pos (c.first + c.second)) c.part) (sym lr ∙ ap length c.first_is ∙ length-scale (pos c.first) c.part ∙ sym (length-scale (pos (c.first + c.second)) c.part))
              (λ u. sum (dot u m) (dot u k) (dot u c.part) c.first c.second
              (sym (dot-plus u m (scale (negsuc 0) k) ∙ ap (λ x. dot u m +ℤ x) (dot-scale u (negsuc 0) k)) ∙ ap (dot u) c.first_is ∙ dot-scale u (pos c.first) c.part)
              (ap (dot u) c.second_is ∙ dot-scale u (pos c.second) c.part) ∙ sym (dot-scale u (pos (c.first + c.second)) c.part));
        }
      where
        rest : (i j : ℕ) → i < j → (r : ℕ) × (j ≡ i + r)
        rest zero j h = (j, omega arith)
        rest (suc i) zero h = absurd (omega arith)
        rest (suc i) (suc j) h = let s = rest i j (omega arith) in (s.0, omega (arith, s.1))

        sum : (m k p : ℤ) (a b : ℕ) → m +ℤ negsuc 0 *ℤ k ≡ pos a *ℤ p → k ≡ pos b *ℤ p → m ≡ pos (a + b) *ℤ p
        sum m k p a b e f =
            let s : pos (a + b) ≡ pos a +ℤ pos b = omega (arith, ints) in
            let g : (pos a +ℤ pos b) *ℤ p ≡ pos a *ℤ p +ℤ pos b *ℤ p = ring (pos a ∷ pos b ∷ p ∷ []) ((var 0 ⊕ var 1) ⊗ var 2) (var 0 ⊗ var 2 ⊕ var 1 ⊗ var 2) tt in
            rw s (omega (arith, ints, e, f, g))

-- primitive vectors of which multiples agree are equal
pub same_primitive : (i j : ℕ) (n m : List ℤ) → 0 < i → 0 < j → length n ≡ length m → IsPrimitive n → IsPrimitive m → ((u : List ℤ) → pos i *ℤ dot u n ≡ pos j *ℤ dot u m) → n ≡ m
same_primitive i j n m hi hj l pn pm e =
    let c = common_part (i + j) i j n m (omega arith) hi hj l e in
    let a : c.first ≡ 1 = pn c.first c.part c.first_is in
    let b : c.second ≡ 1 = pm c.second c.part c.second_is in
    c.first_is ∙ ap (λ (x : ℕ). scale (pos x) c.part) (a ∙ sym b) ∙ sym c.second_is

-- a vector that has 1 or -1 as a value is primitive
pub primitive_from_one : (n u : List ℤ) → (dot u n ≡ pos 1) ⊎ (dot u n ≡ negsuc 0) → IsPrimitive n
primitive_from_one n u h g m e =
    let f : dot u n ≡ pos g *ℤ dot u m = ap (dot u) e ∙ dot-scale u (pos g) m in
    elim h [ inl o ↦ one g (dot u m) (sym f ∙ o) | inr o ↦ minus_one g (dot u m) (sym f ∙ o) ]
  where
    product_one : (a b : ℕ) → a * b ≡ 1 → a ≡ 1
    product_one zero b h = absurd (omega arith)
    product_one (suc zero) b h = refl
    product_one (suc (suc a)) zero h = absurd (omega arith)
    product_one (suc (suc a)) (suc b) h = absurd (omega arith)

    one : (g : ℕ) (y : ℤ) → pos g *ℤ y ≡ pos 1 → g ≡ 1
    one g (pos y) h = product_one g y (omega (arith, ints, h))
    one g (negsuc y) h = absurd (omega (arith, ints, h))

    minus_one : (g : ℕ) (y : ℤ) → pos g *ℤ y ≡ negsuc 0 → g ≡ 1
    minus_one g (pos y) h = absurd (omega (arith, ints, h))
    minus_one g (negsuc y) h = product_one g (suc y) (omega (arith, ints, h))
