-- Local to global in dimensions 0 and 1: there is no triangulation, and there are only multiples of one form.
use Rattle.std.proofs.Common.{List, [], ◌∷◌, length, ◌≡◌, sym, ◌∙◌, ap, refl, subst, arith, ℤ, pos, ◌*ℤ◌, ◌<ℤ◌, ◌≤ℤ◌}
use Rattle.std.proofs.lemmas.Int.{ints, by_lt_z}
use Rattle.std.specs.List.{Contains}
use Rattle.lt_model.proofs.Ring.{ring, var, num, ◌⊕◌, ◌⊗◌}
use Rattle.lt_model.proofs.Inequalities.{mul_pos_z, mul_nonneg_z}
use Rattle.lt_walls.proofs.Signs.{mul_neg_pos}
use Rattle.lt_geometry.proofs.Normals.{normal_value}
use Rattle.lt_geometry.proofs.Regulators.{from_multiple, positive_at, one_member, has_regulator}
use Rattle.lt_model.specs.Vectors.{dot, total}
use Rattle.lt_model.specs.Forms.{value, squares}
use Rattle.lt_model.specs.Simplices.{IsStrictlyEmpty, excess}
use Rattle.lt_model.specs.Facets.{number_at}
use Rattle.lt_model.specs.Triangulations.{IsDelaunay}
use Rattle.lt_model.specs.Walls.{IsRegulator, excess_normal}
use Rattle.lt_model.proofs.Vectors.{dot_comm}
use Rattle.lt_model.proofs.Excess.{dot-nil}
use Rattle.lt_geometry.proofs.LocalWalk.{delaunay_from_paving}

-- a point has no facet that it is beyond
pub none_in_zero : (a : List ℤ) (t : List (List (List ℤ))) → IsDelaunay 0 a t → ⊥
none_in_zero a t k = at_member ((one_member t k.occupied).0) ((one_member t k.occupied).1)
  where
    alone : (b : List ℤ) (c : ℤ) → length b ≡ 1 → total b ≡ c → pos 0 <ℤ c → number_at 0 b <ℤ pos 0 → ⊥
    alone [] c l e p n = omega arith
    alone (x ∷ []) c l e p n = omega (arith, ints, e, p, n)
    alone (x ∷ y ∷ b) c l e p n = omega arith

    at_member : (s : List (List ℤ)) → Contains t s → ⊥
    at_member s i =
        let n = k.closed s 0 i (omega arith) in
        let bd = (n.3).beyond in
        let one : length s ≡ 1 = ((k.members s).0 i).0.simplex.count in
        alone bd.coefficients bd.scale (bd.expression.one_each ∙ one) bd.expression.sum bd.expression.positive bd.negative

-- two forms in one dimension are multiples
both : (x y : ℤ) (m : List ℤ) → y *ℤ dot (x ∷ []) m ≡ x *ℤ dot (y ∷ []) m
both x y [] = ring (x ∷ y ∷ []) (var 1 ⊗ num (pos 0)) (var 0 ⊗ num (pos 0)) tt
both x y (a ∷ m) = ring (x ∷ y ∷ a ∷ []) (var 1 ⊗ (var 0 ⊗ var 2 ⊕ num (pos 0))) (var 0 ⊗ (var 1 ⊗ var 2 ⊕ num (pos 0))) tt

both_excess : (x y : ℤ) (s : List (List ℤ)) (v : List ℤ) (c : ℤ) (b : List ℤ) → y *ℤ excess (x ∷ []) s v c b ≡ x *ℤ excess (y ∷ []) s v c b
both_excess x y s v c b = ap (λ z. y *ℤ z) (sym (normal_value (x ∷ []) s v c b) ∙ dot_comm (excess_normal s v c b) (x ∷ [])) ∙ both x y (excess_normal s v c b) ∙ ap (λ z. x *ℤ z) (dot_comm (y ∷ []) (excess_normal s v c b) ∙ normal_value (y ∷ []) s v c b)

empty_too : (x y : ℤ) → pos 0 <ℤ x → pos 0 <ℤ y → (s : List (List ℤ)) → IsStrictlyEmpty 1 (y ∷ []) s → IsStrictlyEmpty 1 (x ∷ []) s
empty_too x y px py s h = record {
  outside = λ v c b l e. below (excess (x ∷ []) s v c b) (excess (y ∷ []) s v c b) (both_excess x y s v c b) (h.outside v c b l e);
  touches = λ v c b l e z. h.touches v c b l e (none (excess (x ∷ []) s v c b) (excess (y ∷ []) s v c b) (both_excess x y s v c b) (h.outside v c b l e) z);
}
  where
    below : (e f : ℤ) → y *ℤ e ≡ x *ℤ f → pos 0 ≤ℤ f → pos 0 ≤ℤ e
    below e f same g = by_lt_z e (pos 0) (λ l. absurd (omega (arith, ints, same, mul_nonneg_z x f (omega (arith, ints, px)) g, mul_neg_pos e y l py, ring (e ∷ y ∷ []) (var 0 ⊗ var 1) (var 1 ⊗ var 0) tt))) (λ g. g)

    none : (e f : ℤ) → y *ℤ e ≡ x *ℤ f → pos 0 ≤ℤ f → e ≡ pos 0 → f ≡ pos 0
    none e f same g z = by_lt_z (pos 0) f (λ l. absurd (omega (arith, ints, same, mul_pos_z x f px l, ap (λ u. y *ℤ u) z, ring (y ∷ []) (var 0 ⊗ num (pos 0)) (num (pos 0)) tt))) (λ l. omega (arith, ints, g, l))

multiple_too : (x y : ℤ) (t : List (List (List ℤ))) → pos 0 <ℤ x → pos 0 <ℤ y → IsDelaunay 1 (y ∷ []) t → IsDelaunay 1 (x ∷ []) t
multiple_too x y t px py k = delaunay_from_paving 1 (x ∷ []) t
    (record { numbers = refl; positive = λ v l n. from_multiple y (value (x ∷ []) v) py (subst (λ z. pos 0 <ℤ z) (sym (both x y (squares v))) (mul_pos_z x (value (y ∷ []) v) px (k.positive.positive v l n))) })
    (record { classes = λ s i. ((k.members s).0 i).0; empty = λ s i. empty_too x y px py s (((k.members s).0 i).1); closed = k.closed })
    k.occupied k.ascending

pub local_in_one : (a q : List ℤ) (t : List (List (List ℤ))) → IsDelaunay 1 a t → length q ≡ 1 → ((n : List ℤ) → IsRegulator 1 t n → pos 0 <ℤ dot n q) → IsDelaunay 1 q t
local_in_one a q t k l h = go a q k k.positive.numbers l (n.0) (positive_at 1 a t k (n.0) (n.1)) (h (n.0) (n.1))
  where
    n : (n : List ℤ) × IsRegulator 1 t n
    n = has_regulator 1 a t k

    go : (a q : List ℤ) → IsDelaunay 1 a t → length a ≡ 1 → length q ≡ 1 → (n : List ℤ) → pos 0 <ℤ dot n a → pos 0 <ℤ dot n q → IsDelaunay 1 q t
    go [] q k la lq n p r = absurd (omega arith)
    go (y ∷ z ∷ a) q k la lq n p r = absurd (omega arith)
    go (y ∷ []) [] k la lq n p r = absurd (omega arith)
    go (y ∷ []) (x ∷ z ∷ q) k la lq n p r = absurd (omega arith)
    go (y ∷ []) (x ∷ []) k la lq [] p r = absurd (omega (arith, ints, p))
    go (y ∷ []) (x ∷ []) k la lq (c ∷ n) p r = multiple_too x y t (from_multiple c x c_pos (omega (arith, ints, r, dot-nil n))) y_pos k
      where
        y_pos : pos 0 <ℤ y
        y_pos = omega (arith, ints, k.positive.positive (pos 1 ∷ []) refl (λ e. omega (arith, ints, ap (number_at 0) e)), ring (y ∷ []) (var 0 ⊗ (num (pos 1) ⊗ num (pos 1)) ⊕ num (pos 0)) (var 0) tt)

        c_pos : pos 0 <ℤ c
        c_pos = from_multiple y c y_pos (omega (arith, ints, p, dot-nil n, ring (c ∷ y ∷ []) (var 0 ⊗ var 1) (var 1 ⊗ var 0) tt))
