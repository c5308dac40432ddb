-- Primitive dependencies of points, and the sign of their first number that isn't 0.
use Rattle.std.proofs.Common.{◌≡◌, ◌≢◌, ℕ, zero, suc, ℤ, pos, negsuc, neg_ℤ, ◌+ℤ◌, ◌*ℤ◌, ◌<ℤ◌, ◌<◌, ◌*◌, refl, ap, arith, sym, ◌∙◌, subst, List, [], ◌∷◌, length, map, inl, inr, ◌⊎◌}
use Rattle.std.proofs.lemmas.Int.{ints}
use Rattle.lt_model.proofs.Integers.{spread, triple_is}
use Rattle.lt_model.proofs.Vectors.{dot_comm, dot-plus, dot-scale, scale-scale}
use Rattle.lt_model.proofs.Squares.{length-scale}
use Rattle.lt_model.proofs.Excess.{dot-combine, same_from_dots, scale-dot, length-translate}
use Rattle.lt_model.proofs.Walk.{length-combine}
use Rattle.lt_model.proofs.Moved.{dot-moved}
use Rattle.lt_model.proofs.Opposite.{length-zeros, zeros-dot}
use Rattle.lt_model.specs.Vectors.{scale, dot, total, combine, zeros, IsPrimitive}
use Rattle.lt_model.specs.Simplices.{AllOfDimension, translate}
use Rattle.lt_model.proofs.Expressions.{total-scale}
use Rattle.lt_model.proofs.Points.{opposite_twice}
use Rattle.lt_solve.specs.Systems.{IsColumnDependency}
use Rattle.lt_triang.specs.Flat.{IsFlat, leading}

-- a dependency of the differences, with the number that makes the sum 0 before it
pub record IsRawFlat (d : ℕ) (points : List (List ℤ)) (terms : List ℤ) : Type 0 where
  pub one_each : length terms ≡ length points
  pub total_is : total terms ≡ pos 0
  pub sum : combine terms points ≡ zeros d
  pub primitive : IsPrimitive terms

pub raw_from_columns : (d : ℕ) (v : List ℤ) (vs : List (List ℤ)) (b : List ℤ) → 0 < length vs → length vs ≡ d → AllOfDimension d (v ∷ vs) → IsColumnDependency (translate (scale (negsuc 0) v) vs) b → IsRawFlat d (v ∷ vs) (neg_ℤ (total b) ∷ b)
raw_from_columns d v vs b some count all h = record {
  one_each = ap suc l;
  total_is = omega (arith, ints);
  sum = same_from_dots (combine (neg_ℤ (total b) ∷ b) (v ∷ vs)) (zeros d) (length-combine d (neg_ℤ (total b) ∷ b) (v ∷ vs) all (ap suc l) (omega arith) ∙ sym (length-zeros d)) at;
  primitive = primitive;
}
  where
    l : length b ≡ length vs
    l = h.one_each ∙ length-translate (scale (negsuc 0) v) vs

    at : (u : List ℤ) → dot u (combine (neg_ℤ (total b) ∷ b) (v ∷ vs)) ≡ dot u (zeros d)
    at u =
        let e : dot u (combine b vs) +ℤ total b *ℤ (negsuc 0 *ℤ dot u v) ≡ dot u (zeros d) = sym (dot-moved u (scale (negsuc 0) v) b vs l ∙ (rw (dot-scale u (negsuc 0) v) refl)) ∙ ap (dot u) (h.sum ∙ ap zeros (length-translate (scale (negsuc 0) v) vs ∙ count)) in
        dot-plus u (scale (neg_ℤ (total b)) v) (combine b vs) ∙ (rw (dot-scale u (neg_ℤ (total b)) v) (done (total b) (dot u v) (dot u (combine b vs)) (dot u (zeros d)) e))
      where
        done : (t x y z : ℤ) → y +ℤ t *ℤ (negsuc 0 *ℤ x) ≡ z → neg_ℤ t *ℤ x +ℤ y ≡ z
        done t x y z e = omega (arith, ints, e, opposite t x)
          where
            opposite : (t x : ℤ) → t *ℤ (negsuc 0 *ℤ x) ≡ neg_ℤ t *ℤ x
            opposite t x = simp spread (omega (arith, ints, triple_is))

    primitive : IsPrimitive (neg_ℤ (total b) ∷ b)
    primitive g [] e = cc
    primitive g (m ∷ ms) e = h.primitive g ms (cc)

-- ---- the sign

leading_zero : (b : List ℤ) → leading b ≡ pos 0 → b ≡ zeros (length b)
leading_zero [] e = refl
leading_zero (pos zero ∷ b) e = ap (λ l. pos 0 ∷ l) (leading_zero b e)
leading_zero (pos (suc n) ∷ b) e = cc
leading_zero (negsuc n ∷ b) e = cc

pub leading_primitive : (b : List ℤ) → IsPrimitive b → leading b ≢ pos 0
leading_primitive b h e =
    let z : b ≡ scale (pos 0) b = leading_zero b e ∙ none b in
    apart 0 (h 0 b z) (omega arith)
  where
    apart : (g : ℕ) → g ≡ 1 → g < 1 → ⊥
    apart g k l = absurd (omega arith)

    none : (b : List ℤ) → zeros (length b) ≡ scale (pos 0) b
    none [] = refl
    none (a ∷ b) =
        let e : pos 0 ≡ pos 0 *ℤ a = omega (arith, ints) in
        rw (none b, ← e) refl

primitive_scale : (b : List ℤ) → IsPrimitive b → IsPrimitive (scale (negsuc 0) b)
primitive_scale b h g m e =
    h g (scale (negsuc 0) m) (sym (opposite_twice b) ∙ ap (scale (negsuc 0)) e ∙ scale-scale (negsuc 0) (pos g) m ∙ ap (λ n. scale n m) (swapped g) ∙ sym (scale-scale (pos g) (negsuc 0) m))
  where
    swapped : (g : ℕ) → negsuc 0 *ℤ pos g ≡ pos g *ℤ negsuc 0
    swapped g = omega (arith, ints)

pub leading-opposite : (b : List ℤ) → leading (scale (negsuc 0) b) ≡ neg_ℤ (leading b)
leading-opposite [] = refl
leading-opposite (pos zero ∷ b) = leading-opposite b
leading-opposite (pos (suc n) ∷ b) =
    let e : 1 * suc n ≡ suc n = omega arith in
    rw e refl
leading-opposite (negsuc n ∷ b) =
    let e : 1 * suc n ≡ suc n = omega arith in
    rw e refl

pub flat_from_raw : (d : ℕ) (points : List (List ℤ)) (raw t : List ℤ) → 0 < length points → AllOfDimension d points → IsRawFlat d points raw → (t ≡ raw) ⊎ (t ≡ scale (negsuc 0) raw) → pos 0 <ℤ leading t → IsFlat d points t
flat_from_raw d points raw t some all h either sign =
    elim either [
      | inl e ↦ record { one_each = ap length e ∙ h.one_each; total_is = ap total e ∙ h.total_is; sum = ap (λ l. combine l points) e ∙ h.sum; primitive = subst IsPrimitive (sym e) h.primitive; sign = sign }
      | inr e ↦ record {
        one_each = ap length e ∙ length-scale (negsuc 0) raw ∙ h.one_each;
        total_is = ap total e ∙ total-scale (negsuc 0) raw ∙ ap (λ n. negsuc 0 *ℤ n) h.total_is;
        sum = ap (λ l. combine l points) e ∙ same_from_dots (combine (scale (negsuc 0) raw) points) (zeros d) (length-combine d (scale (negsuc 0) raw) points all (length-scale (negsuc 0) raw ∙ h.one_each) some ∙ sym (length-zeros d)) at;
        primitive = subst IsPrimitive (sym e) (primitive_scale raw h.primitive);
        sign = sign;
      }
    ]
  where
    at : (u : List ℤ) → dot u (combine (scale (negsuc 0) raw) points) ≡ dot u (zeros d)
    at u =
        let z : dot u (zeros d) ≡ pos 0 = dot_comm u (zeros d) ∙ zeros-dot d u in
        let e : dot raw (map (dot u) points) ≡ pos 0 = sym (dot-combine u raw points) ∙ ap (dot u) h.sum ∙ z in
        dot-combine u (scale (negsuc 0) raw) points ∙ scale-dot (negsuc 0) raw (map (dot u) points) ∙ ap (λ n. negsuc 0 *ℤ n) e ∙ sym z
