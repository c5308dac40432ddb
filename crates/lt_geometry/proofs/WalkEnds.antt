-- One denominator serves all members of a triangulation and their translates.
use Rattle.std.proofs.Common.{◌≡◌, ◌≢◌, ℕ, zero, suc, ℤ, pos, negsuc, ◌-ℤ◌, ◌*ℤ◌, ◌<ℤ◌, ◌≤ℤ◌, ◌<◌, ◌⊎◌, refl, ap, arith, sym, ◌∙◌, subst, List, [], ◌∷◌, length, map, get_or, inl, inr}
use Rattle.std.proofs.lemmas.Int.{ints, by_lt_z}
use Rattle.std.specs.List.{AllByRecursion, Contains}
use Rattle.lt_model.proofs.Integers.{spread, mul_assoc_z}
use Rattle.std.proofs.Math.IntN.{*ℤ_comm}
use Rattle.lt_model.proofs.Vectors.{dot-plus, dot-scale}
use Rattle.lt_model.proofs.Squares.{length-scale, length-plus}
use Rattle.lt_model.proofs.Excess.{dot-combine, same_from_dots, scale-dot}
use Rattle.lt_model.proofs.Walk.{length-combine, length-map, IsWeighted, number_at-scale, number_at-map}
use Rattle.lt_model.proofs.Opposite.{unit-dot, length-unit}
use Rattle.lt_model.proofs.Dependent.{zero_or_not}
use Rattle.lt_model.proofs.Expressions.{one_expression, total-scale, number_at-zeros}
use Rattle.lt_model.proofs.Moved.{weighted_moved}
use Rattle.lt_geometry.proofs.Uniform.{uniform, HasUniform}
use Rattle.lt_model.proofs.Sets.{Contains-head, Contains-tail, Contains-cases, Contains-none}
use Rattle.lt_model.specs.Vectors.{plus, scale, dot, combine, unit}
use Rattle.lt_model.specs.Simplices.{IsSimplex, IsExpression, IsStrictlyEmpty, excess, translate}
use Rattle.lt_model.specs.Facets.{number_at}
use Rattle.lt_model.proofs.Points.{total-unit, scale-one}
use Rattle.lt_model.proofs.Inequalities.{mul_nonneg_z, mul_pos_z}

-- numbers that are k times as large
pub weighted_scaled : (d : ℕ) (vs : List (List ℤ)) (m : ℤ) (x b : List ℤ) (c k : ℤ) → IsSimplex d vs → length x ≡ d → pos 0 <ℤ k → IsWeighted vs m x c b → IsWeighted vs m x (k *ℤ c) (scale k b)
weighted_scaled d vs m x b c k s lx hk h = record {
  positive = mul_pos_z k c hk h.positive;
  one_each = length-scale k b ∙ h.one_each;
  point = same_from_dots (combine (scale k b) vs) (scale (k *ℤ c) x) (length-combine d (scale k b) vs s.points (length-scale k b ∙ h.one_each) (omega (arith, s.count)) ∙ sym lx ∙ sym (length-scale (k *ℤ c) x)) at;
  sum = total-scale k b ∙ ap (λ n. k *ℤ n) h.sum ∙ sym (mul_assoc_z k c m);
}
  where
    at : (u : List ℤ) → dot u (combine (scale k b) vs) ≡ dot u (scale (k *ℤ c) x)
    at u =
        let e : dot b (map (dot u) vs) ≡ c *ℤ dot u x = sym (dot-combine u b vs) ∙ ap (dot u) h.point ∙ dot-scale u c x in
        dot-combine u (scale k b) vs ∙ scale-dot k b (map (dot u) vs) ∙ ap (λ n. k *ℤ n) e ∙ sym (mul_assoc_z k c (dot u x)) ∙ sym (dot-scale u (k *ℤ c) x)

-- one scale serves all points over all simplices of a list
pub record HasCommon (d : ℕ) (ss : List (List (List ℤ))) : Type 0 where
  pub c : ℤ
  pub positive : pos 0 <ℤ c
  pub has : (s : List (List ℤ)) (m : ℤ) (x : List ℤ) → Contains ss s → length x ≡ d → (b : List ℤ) × IsWeighted s m x c b

pub common : (d : ℕ) (ss : List (List (List ℤ))) → ((s : List (List ℤ)) → Contains ss s → IsSimplex d s) → HasCommon d ss
common d [] each = record { c = pos 1; positive = omega (arith, ints); has = λ s m x h l. Contains-none s h }
common d (s ∷ ss) each =
    let u = uniform d s (each s (Contains-head s ss)) in
    let h = common d ss (λ r c. each r (Contains-tail s ss r c)) in
    record {
      c = u.c *ℤ h.c;
      positive = mul_pos_z u.c h.c u.positive h.positive;
      has = λ r m x c l. has r m x c l u h;
    }
  where
    has : (r : List (List ℤ)) (m : ℤ) (x : List ℤ) → Contains (s ∷ ss) r → length x ≡ d → (u : HasUniform d s) (h : HasCommon d ss) → (b : List ℤ) × IsWeighted r m x (u.c *ℤ h.c) b
    has r m x c l u h =
        elim (Contains-cases s ss r c) [
          | inl e ↦ (scale h.c (u.b m x), here e u h)
          | inr k ↦ (scale u.c (h.has r m x k l).0, weighted_scaled d r m x (h.has r m x k l).0 h.c u.c (each r c) l u.positive (h.has r m x k l).1)
        ]
      where
        here : s ≡ r → (u : HasUniform d s) (h : HasCommon d ss) → IsWeighted r m x (u.c *ℤ h.c) (scale h.c (u.b m x))
        here e u h =
            let w : IsWeighted s m x (h.c *ℤ u.c) (scale h.c (u.b m x)) = weighted_scaled d s m x (u.b m x) u.c h.c (each s (Contains-head s ss)) l h.positive (u.is m x l) in
            let w2 : IsWeighted s m x (u.c *ℤ h.c) (scale h.c (u.b m x)) = subst (λ (n : ℤ). IsWeighted s m x n (scale h.c (u.b m x))) (*ℤ_comm h.c u.c) w in
            subst (λ (v : List (List ℤ)). IsWeighted v m x (u.c *ℤ h.c) (scale h.c (u.b m x))) e w2

pub plus-back_multiple : (d : ℕ) (m : ℤ) (x p : List ℤ) → length x ≡ d → length p ≡ d → plus (plus x (scale (negsuc 0) (scale m p))) (scale m p) ≡ x
plus-back_multiple d m x p lx lp =
    let l1 : length (scale (negsuc 0) (scale m p)) ≡ d = length-scale (negsuc 0) (scale m p) ∙ length-scale m p ∙ lp in
    let l2 : length (plus x (scale (negsuc 0) (scale m p))) ≡ d = length-plus x (scale (negsuc 0) (scale m p)) (lx ∙ sym l1) ∙ lx in
    same_from_dots (plus (plus x (scale (negsuc 0) (scale m p))) (scale m p)) x
    (length-plus (plus x (scale (negsuc 0) (scale m p))) (scale m p) (l2 ∙ sym (length-scale m p ∙ lp)) ∙ l2 ∙ sym lx)
    (λ u. dot-plus u (plus x (scale (negsuc 0) (scale m p))) (scale m p) ∙ (rw (dot-plus u x (scale (negsuc 0) (scale m p)), dot-scale u (negsuc 0) (scale m p)) (omega (arith, ints))))

-- the same over a translate of a member
pub over_translate : (d : ℕ) (t : List (List (List ℤ))) (k : HasCommon d t) (s : List (List ℤ)) (p : List ℤ) (m : ℤ) (x : List ℤ) → Contains t s → IsSimplex d s → length p ≡ d → length x ≡ d →
    (b : List ℤ) × IsWeighted (translate p s) m x k.c b
over_translate d t k s p m x c simplex lp lx =
    let y : List ℤ = plus x (scale (negsuc 0) (scale m p)) in
    let ly : length y ≡ d = length-plus x (scale (negsuc 0) (scale m p)) (lx ∙ sym (length-scale (negsuc 0) (scale m p) ∙ length-scale m p ∙ lp)) ∙ lx in
    let w = k.has s m y c ly in
    let moved : IsWeighted (translate p s) m (plus y (scale m p)) k.c w.0 = weighted_moved d s p m y w.0 k.c simplex.points (omega (arith, simplex.count)) lp ly w.1 in
    (w.0, subst (λ (z : List ℤ). IsWeighted (translate p s) m z k.c w.0) (plus-back_multiple d m x p lx lp) moved)

-- a negative number, or none
pub negative_or_none : (b : List ℤ) → ((i : ℕ) × (i < length b) × (number_at i b <ℤ pos 0)) ⊎ AllByRecursion (λ x. pos 0 ≤ℤ x) b
negative_or_none [] = inr tt
negative_or_none (pos n ∷ b) = elim (negative_or_none b) [ inl (i, h, k) ↦ inl (suc i, omega (arith, h), k) | inr all ↦ inr (omega (arith, ints), all) ]
negative_or_none (negsuc n ∷ b) = inl (0, omega arith, omega (arith, ints))

pub less_from_multiples : (c a b : ℤ) → pos 0 <ℤ c → (c *ℤ a) <ℤ (c *ℤ b) → a <ℤ b
less_from_multiples c a b hc h =
    by_lt_z a b (λ k. k) (λ k.
    let e : pos 0 ≤ℤ (c *ℤ (a -ℤ b)) = mul_nonneg_z c (a -ℤ b) (omega (arith, ints)) (omega (arith, ints)) in
    let f : c *ℤ (a -ℤ b) ≡ c *ℤ a -ℤ c *ℤ b = simp spread refl in
    absurd (omega (arith, ints, e, f)))

number_at-unit : (n k i : ℕ) → (number_at i (unit n k) ≡ pos 0) ⊎ (number_at i (unit n k) ≡ pos 1)
number_at-unit zero k i = inl refl
number_at-unit (suc n) zero zero = inr refl
number_at-unit (suc n) zero (suc i) = inl (number_at-zeros n i)
number_at-unit (suc n) (suc k) zero = inl refl
number_at-unit (suc n) (suc k) (suc i) = number_at-unit n k i

-- a vertex is expressed by itself
pub vertex_weighted : (d : ℕ) (vs : List (List ℤ)) (w : List ℤ) (k : ℕ) → IsSimplex d vs → length w ≡ d → k < length vs → get_or vs k w ≡ w → IsWeighted vs (pos 1) w (pos 1) (unit (length vs) k)
vertex_weighted d vs w k s lw h is = record {
  positive = omega (arith, ints);
  one_each = length-unit (length vs) k;
  point = same_from_dots (combine (unit (length vs) k) vs) (scale (pos 1) w) (length-combine d (unit (length vs) k) vs s.points (length-unit (length vs) k) (omega (arith, s.count)) ∙ sym lw ∙ sym (length-scale (pos 1) w))
      (λ u. dot-combine u (unit (length vs) k) vs ∙ unit-dot (length vs) k (map (dot u) vs) (length-map (dot u) vs) ∙ number_at-map (dot u) k vs w h ∙ ap (dot u) (is ∙ sym (scale-one w)));
  sum = total-unit (length vs) k h;
}

-- a point beyond a facet is no vertex
pub not_vertex : (d : ℕ) (vs : List (List ℤ)) (w f : List ℤ) (e : ℤ) (i : ℕ) → IsSimplex d vs → length w ≡ d → Contains vs w → IsExpression vs w e f → number_at i f <ℤ pos 0 → ⊥
not_vertex d vs w f e i s lw (k, h, is) x neg =
    let own = vertex_weighted d vs w k s lw h is in
    let given : IsWeighted vs (pos 1) w e f = record { positive = x.positive; one_each = x.one_each; point = x.point; sum = x.sum ∙ (omega (arith, ints)) } in
    let same : scale e (unit (length vs) k) ≡ scale (pos 1) f = one_expression d vs (pos 1) w (unit (length vs) k) f (pos 1) e s own given in
    let at : e *ℤ number_at i (unit (length vs) k) ≡ pos 1 *ℤ number_at i f = sym (number_at-scale i e (unit (length vs) k)) ∙ ap (number_at i) same ∙ number_at-scale i (pos 1) f in
    elim (number_at-unit (length vs) k i) [
      | inl z ↦ omega (arith, ints, neg, at, ap (λ n. e *ℤ n) z)
      | inr o ↦ omega (arith, ints, neg, at, x.positive, ap (λ n. e *ℤ n) o)
    ]

pub positive_excess : (d : ℕ) (q : List ℤ) (vs : List (List ℤ)) (w f : List ℤ) (e : ℤ) (i : ℕ) → IsSimplex d vs → IsStrictlyEmpty d q vs → length w ≡ d → IsExpression vs w e f → number_at i f <ℤ pos 0 → pos 0 <ℤ excess q vs w e f
positive_excess d q vs w f e i s h lw x neg =
    elim (zero_or_not (excess q vs w e f)) [
      | inl z ↦ absurd (not_vertex d vs w f e i s lw (h.touches w e f lw x z) x neg)
      | inr n ↦ greater (excess q vs w e f) (h.outside w e f lw x) n
    ]
  where
    greater : (z : ℤ) → pos 0 ≤ℤ z → z ≢ pos 0 → pos 0 <ℤ z
    greater z h n = omega (arith, ints)
