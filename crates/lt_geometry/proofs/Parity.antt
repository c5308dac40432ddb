-- Vertices of one parity class: each is the shortest of its class, up to sign.
use Rattle.std.proofs.Common.{◌≡◌, ◌≢◌, ℕ, zero, suc, ℤ, pos, negsuc, ◌+ℤ◌, ◌-ℤ◌, ◌*ℤ◌, ◌≤ℤ◌, neg_ℤ, nat_abs, ◌<◌, ◌+◌, ◌/◌, ◌%◌, refl, ap, ap₂, arith, sym, ◌∙◌, subst, List, [], ◌∷◌, length, map, get_or, ◌⊎◌, inl, inr}
use Rattle.std.proofs.lemmas.Int.{ints}
use Rattle.std.specs.List.{Contains}
use Rattle.lt_model.proofs.Integers.{mul_zero_z, zero_mul_z, one_mul_z}
use Rattle.lt_model.proofs.Ring.{ring, var, num, ◌⊕◌, ◌⊖◌, ◌⊗◌}
use Rattle.lt_model.proofs.Inequalities.{le_of_mul_le_mul_z}
use Rattle.lt_model.proofs.Squares.{length-scale, length-plus, parallelogram, squares-scale}
use Rattle.lt_model.proofs.Vectors.{dot-plus, dot-scale}
use Rattle.lt_model.proofs.Excess.{dot-combine, dot-nil, same_from_dots, scale-dot, plus-dot}
use Rattle.lt_model.proofs.Walk.{length-combine, length-map, number_at-map, number_at-plus, number_at-scale}
use Rattle.lt_model.proofs.Opposite.{unit-dot, length-unit}
use Rattle.lt_model.proofs.Expressions.{one_expression, total-plus, total-scale}
use Rattle.lt_model.proofs.Moved.{plus-back}
use Rattle.lt_geometry.proofs.Uniform.{uniform}
use Rattle.lt_model.proofs.Sets.{Contains-cases, Contains-none}
use Rattle.lt_model.specs.Vectors.{plus, minus, scale, dot, total, combine, zeros, unit}
use Rattle.lt_model.specs.Forms.{squares, value}
use Rattle.lt_model.specs.Simplices.{IsSimplex, IsClass, IsExpression, IsStrictlyEmpty, excess}
use Rattle.lt_model.specs.Facets.{number_at}
use Rattle.lt_model.proofs.Flat.{number_at-unit_same}
use Rattle.lt_model.proofs.Points.{vertex_expression, weighted, total-unit}
use Rattle.lt_geometry.proofs.Paths.{unit_other, same_or_not}
use Rattle.lt_geometry.proofs.Closed.{get_dimension}
use Rattle.lt_geometry.proofs.Unique.{expressed}

-- ---- parity

abbrev pub odd : ℤ → ℕ
odd a = nat_abs a % 2

abbrev pub parity : List ℤ → List ℕ
parity x = map odd x

pub half : (a : ℤ) → (h : ℤ) × (a ≡ pos (odd a) +ℤ pos 2 *ℤ h)
half (pos n) = (pos (n / 2), omega (arith, ints))
half (negsuc n) = (neg_ℤ (pos (suc n / 2 + suc n % 2)), omega (arith, ints))

apart_evenly : (a b : ℤ) → odd a ≡ odd b → (h : ℤ) × (b ≡ a +ℤ pos 2 *ℤ h)
apart_evenly a b e =
    let p = half a in
    let q = half b in
    (q.0 -ℤ p.0, omega (arith, ints, p.1, q.1, ap pos e))

-- points of one parity differ by twice a point
pub doubled : (d : ℕ) (x y : List ℤ) → length x ≡ d → length y ≡ d → parity x ≡ parity y → (z : List ℤ) × (length z ≡ d) × (y ≡ plus x (scale (pos 2) z))
doubled zero [] [] lx ly e = ([], refl, refl)
doubled zero (a ∷ x) y lx ly e = absurd (omega arith)
doubled zero [] (b ∷ y) lx ly e = absurd (omega arith)
doubled (suc d) [] y lx ly e = absurd (omega arith)
doubled (suc d) (a ∷ x) [] lx ly e = absurd (omega arith)
doubled (suc d) (a ∷ x) (b ∷ y) lx ly e =
    let head : odd a ≡ odd b = cc in
    let tail : parity x ≡ parity y = cc in
    let h = apart_evenly a b head in
    let r = doubled d x y (omega arith) (omega arith) tail in
    (h.0 ∷ r.0, ap suc r.1, ap₂ (λ (c : ℤ) (l : List ℤ). c ∷ l) h.1 r.2)

-- ---- the point opposite to another, with respect to two vertices

abbrev pub turned : ℕ → ℕ → ℕ → ℤ → List ℤ → List ℤ
turned n i j c b = plus (scale (negsuc 0) b) (scale c (plus (unit n i) (unit n j)))

length-two : (n i j : ℕ) → length (plus (unit n i) (unit n j)) ≡ n
length-two n i j = length-plus (unit n i) (unit n j) (length-unit n i ∙ sym (length-unit n j)) ∙ length-unit n i

turned-dot : (g : List ℤ → ℤ) (vs : List (List ℤ)) (i j : ℕ) (c : ℤ) (b : List ℤ) → i < length vs → j < length vs →
    dot (turned (length vs) i j c b) (map g vs) ≡ c *ℤ (g (get_or vs i []) +ℤ g (get_or vs j [])) -ℤ dot b (map g vs)
turned-dot g vs i j c b hi hj =
    let n = length vs in
    let e1 = plus-dot (scale (negsuc 0) b) (scale c (plus (unit n i) (unit n j))) (map g vs) in
    let e2 = scale-dot (negsuc 0) b (map g vs) in
    let e3 = scale-dot c (plus (unit n i) (unit n j)) (map g vs) in
    let e4 = plus-dot (unit n i) (unit n j) (map g vs) in
    let e5 : dot (unit n i) (map g vs) ≡ g (get_or vs i []) = unit-dot n i (map g vs) (length-map g vs) ∙ number_at-map g i vs [] hi in
    let e6 : dot (unit n j) (map g vs) ≡ g (get_or vs j []) = unit-dot n j (map g vs) (length-map g vs) ∙ number_at-map g j vs [] hj in
    let e7 : dot (plus (unit n i) (unit n j)) (map g vs) ≡ g (get_or vs i []) +ℤ g (get_or vs j []) = e4 ∙ ap₂ (λ (x y : ℤ). x +ℤ y) e5 e6 in
    let e8 : c *ℤ dot (plus (unit n i) (unit n j)) (map g vs) ≡ c *ℤ (g (get_or vs i []) +ℤ g (get_or vs j [])) = ap (λ x. c *ℤ x) e7 in
    omega (arith, ints, e1, e2, e3, e8)

-- w is v_i + v_j - x
pub turned_expression : (d : ℕ) (vs : List (List ℤ)) (i j : ℕ) (x w : List ℤ) (c : ℤ) (b : List ℤ) → IsSimplex d vs → i < length vs → j < length vs → length w ≡ d → IsExpression vs x c b → ((u : List ℤ) → dot u w ≡ dot u (get_or vs i []) +ℤ dot u (get_or vs j []) -ℤ dot u x) →
    IsExpression vs w c (turned (length vs) i j c b)
turned_expression d vs i j x w c b s hi hj lw e is = record {
  positive = e.positive;
  one_each = one_each;
  point = same_from_dots (combine (turned (length vs) i j c b) vs) (scale c w) (length-combine d (turned (length vs) i j c b) vs s.points one_each (omega (arith, s.count)) ∙ sym lw ∙ sym (length-scale c w)) at;
  sum = sums;
}
  where
    one_each : length (turned (length vs) i j c b) ≡ length vs
    one_each =
        let l1 : length (scale (negsuc 0) b) ≡ length vs = length-scale (negsuc 0) b ∙ e.one_each in
        let l2 : length (scale c (plus (unit (length vs) i) (unit (length vs) j))) ≡ length vs = length-scale c (plus (unit (length vs) i) (unit (length vs) j)) ∙ length-two (length vs) i j in
        length-plus (scale (negsuc 0) b) (scale c (plus (unit (length vs) i) (unit (length vs) j))) (l1 ∙ sym l2) ∙ l1

    end : (c p q x w b : ℤ) → w ≡ p +ℤ q -ℤ x → b ≡ c *ℤ x → c *ℤ (p +ℤ q) -ℤ b ≡ c *ℤ w
    end c p q x w b h k =
        let own : c *ℤ (p +ℤ q -ℤ x) ≡ c *ℤ (p +ℤ q) -ℤ c *ℤ x = ring (c ∷ p ∷ q ∷ x ∷ []) (var 0 ⊗ (var 1 ⊕ var 2 ⊖ var 3)) (var 0 ⊗ (var 1 ⊕ var 2) ⊖ var 0 ⊗ var 3) tt in
        let m : c *ℤ w ≡ c *ℤ (p +ℤ q -ℤ x) = ap (λ n. c *ℤ n) h in
        omega (arith, ints, own, m, k)

    at : (u : List ℤ) → dot u (combine (turned (length vs) i j c b) vs) ≡ dot u (scale c w)
    at u =
        let f : dot b (map (dot u) vs) ≡ c *ℤ dot u x = sym (dot-combine u b vs) ∙ ap (dot u) e.point ∙ dot-scale u c x in
        dot-combine u (turned (length vs) i j c b) vs ∙ turned-dot (dot u) vs i j c b hi hj ∙ end c (dot u (get_or vs i [])) (dot u (get_or vs j [])) (dot u x) (dot u w) (dot b (map (dot u) vs)) (is u) f ∙ sym (dot-scale u c w)

    sums : total (turned (length vs) i j c b) ≡ c
    sums =
        rw (total-plus (scale (negsuc 0) b) (scale c (plus (unit (length vs) i) (unit (length vs) j))), total-scale (negsuc 0) b, total-scale c (plus (unit (length vs) i) (unit (length vs) j)), total-plus (unit (length vs) i) (unit (length vs) j), total-unit (length vs) i hi, total-unit (length vs) j hj, e.sum)
        (ring (c ∷ []) (num (negsuc 0) ⊗ var 0 ⊕ var 0 ⊗ (num (pos 1) ⊕ num (pos 1))) (var 0) tt)

-- where two points add up to the vertices i and j, and are vertices, the one is the vertex i or j
pub one_of_two : (d : ℕ) (vs : List (List ℤ)) (i j a b : ℕ) → IsSimplex d vs → i < length vs → j < length vs → a < length vs → b < length vs →
    ((u : List ℤ) → dot u (get_or vs b []) ≡ dot u (get_or vs i []) +ℤ dot u (get_or vs j []) -ℤ dot u (get_or vs a [])) → (a ≡ i) ⊎ (a ≡ j)
one_of_two d vs i j a b s hi hj ha hb is =
    let n = length vs in
    let p = vertex_expression d vs a s.points ha in
    let q = vertex_expression d vs b s.points hb in
    let t = turned_expression d vs i j (get_or vs a []) (get_or vs b []) (pos 1) (unit n a) s hi hj (get_dimension d vs b s.points hb) p is in
    let same : scale (pos 1) (unit n b) ≡ scale (pos 1) (turned n i j (pos 1) (unit n a)) = one_expression d vs (pos 1) (get_or vs b []) (unit n b) (turned n i j (pos 1) (unit n a)) (pos 1) (pos 1) s (weighted vs (get_or vs b []) (pos 1) (unit n b) q) (weighted vs (get_or vs b []) (pos 1) (turned n i j (pos 1) (unit n a)) t) in
    let there : number_at a (unit n b) ≡ number_at a (turned n i j (pos 1) (unit n a)) =
    sym (number_at-scale a (pos 1) (unit n b) ∙ one_mul_z (number_at a (unit n b))) ∙ ap (number_at a) same ∙ number_at-scale a (pos 1) (turned n i j (pos 1) (unit n a)) ∙ one_mul_z (number_at a (turned n i j (pos 1) (unit n a)))
    in
    let value : number_at a (turned n i j (pos 1) (unit n a)) ≡ negsuc 0 *ℤ number_at a (unit n a) +ℤ pos 1 *ℤ (number_at a (unit n i) +ℤ number_at a (unit n j)) =
    number_at-plus a (scale (negsuc 0) (unit n a)) (scale (pos 1) (plus (unit n i) (unit n j))) ∙ ap₂ (λ (x y : ℤ). x +ℤ y) (number_at-scale a (negsuc 0) (unit n a)) (number_at-scale a (pos 1) (plus (unit n i) (unit n j)) ∙ ap (λ x. pos 1 *ℤ x) (number_at-plus a (unit n i) (unit n j)))
    in
    cases (same_or_not a i) (same_or_not a j) (same_or_not a b) there value
  where
    cases : (a ≡ i) ⊎ (a ≢ i) → (a ≡ j) ⊎ (a ≢ j) → (a ≡ b) ⊎ (a ≢ b) → number_at a (unit (length vs) b) ≡ number_at a (turned (length vs) i j (pos 1) (unit (length vs) a)) →
        number_at a (turned (length vs) i j (pos 1) (unit (length vs) a)) ≡ negsuc 0 *ℤ number_at a (unit (length vs) a) +ℤ pos 1 *ℤ (number_at a (unit (length vs) i) +ℤ number_at a (unit (length vs) j)) → (a ≡ i) ⊎ (a ≡ j)
    cases (inl e) y z h k = inl e
    cases (inr x) (inl e) z h k = inr e
    cases (inr x) (inr y) (inl e) h k =
        let f : number_at a (unit (length vs) b) ≡ pos 1 = ap (λ (m : ℕ). number_at a (unit (length vs) m)) (sym e) ∙ number_at-unit_same (length vs) a ha in
        absurd (omega (arith, ints, h, k, f, number_at-unit_same (length vs) a ha, unit_other (length vs) i a x, unit_other (length vs) j a y))
    cases (inr x) (inr y) (inr z) h k =
        absurd (omega (arith, ints, h, k, unit_other (length vs) b a z, number_at-unit_same (length vs) a ha, unit_other (length vs) i a x, unit_other (length vs) j a y))

-- ---- a vertex against the points of its parity

pub index_of : (vs : List (List ℤ)) (x : List ℤ) → Contains vs x → (k : ℕ) × (k < length vs) × (get_or vs k [] ≡ x)
index_of [] x c = Contains-none x c
index_of (v ∷ vs) x c = elim (Contains-cases v vs x c) [ inl e ↦ (0, omega arith, e) | inr r ↦ (let s = index_of vs x r in (suc s.0, omega (arith, s.1), s.2)) ]

pub value-zeros : (d : ℕ) (q : List ℤ) → value q (zeros d) ≡ pos 0
value-zeros d q =
    let e : zeros d ≡ scale (pos 0) (zeros d) = none d in
    ap (value q) e ∙ ap (dot q) (squares-scale (pos 0) (zeros d)) ∙ dot-scale q (pos 0 *ℤ pos 0) (squares (zeros d)) ∙ zero_mul_z (dot q (squares (zeros d)))
  where
    none : (d : ℕ) → zeros d ≡ scale (pos 0) (zeros d)
    none zero = refl
    none (suc d) = ap (λ (l : List ℤ). pos 0 ∷ l) (none d)

pub value-negative : (q z : List ℤ) → value q (scale (negsuc 0) z) ≡ value q z
value-negative q z = ap (dot q) (squares-scale (negsuc 0) z) ∙ dot-scale q (negsuc 0 *ℤ negsuc 0) (squares z) ∙ one_mul_z (dot q (squares z))

-- a strictly empty simplex of which one vertex is 0
pub record IsPlaced (d : ℕ) (q : List ℤ) (s : List (List ℤ)) : Type 0 where
  pub simplex : IsSimplex d s
  pub empty : IsStrictlyEmpty d q s
  pub place : ℕ
  pub within : place < length s
  pub origin : get_or s place [] ≡ zeros d

pub placed_class : (d : ℕ) (q : List ℤ) (s : List (List ℤ)) → IsClass d s → IsStrictlyEmpty d q s → IsPlaced d q s
placed_class d q s c e = record { simplex = c.simplex; empty = e; place = 0; within = omega (arith, c.simplex.count); origin = c.first }

pub record IsNearest (d : ℕ) (q x z : List ℤ) : Type 0 where
  pub least : value q x ≤ℤ value q (plus x (scale (pos 2) z))
  pub tied : value q x ≡ value q (plus x (scale (pos 2) z)) → (z ≡ zeros d) ⊎ (plus x z ≡ zeros d)

pub nearest : (d : ℕ) (q : List ℤ) (s : List (List ℤ)) (x z : List ℤ) → IsPlaced d q s → Contains s x → length z ≡ d → IsNearest d q x z
nearest d q s x z cl m lz =
    let em : IsStrictlyEmpty d q s = cl.empty in
    let o = cl.place in
    let ix = index_of s x m in
    let lx : length x ≡ d = ap length (sym ix.2) ∙ get_dimension d s ix.0 cl.simplex.points ix.1 in
    let u = uniform d s cl.simplex in
    let p : List ℤ = plus x z in
    let w : List ℤ = scale (negsuc 0) z in
    let lp : length p ≡ d = length-plus x z (lx ∙ sym lz) ∙ lx in
    let lw : length w ≡ d = length-scale (negsuc 0) z ∙ lz in
    let b : List ℤ = u.b (pos 1) p in
    let e : IsExpression s p u.c b = expressed s p u.c b (u.is (pos 1) p lp) in
    let some : o < length s = cl.within in
    let at : (v : List ℤ) → dot v w ≡ dot v (get_or s o []) +ℤ dot v (get_or s ix.0 []) -ℤ dot v p = λ v.
    rw (cl.origin, ix.2) (omega (arith, ints, dot-scale v (negsuc 0) z, dot-plus v x z, dot-zeros d v))
    in
    let f : IsExpression s w u.c (turned (length s) o ix.0 u.c b) = turned_expression d s o ix.0 p w u.c b cl.simplex some ix.1 lw e at in
    let h1 = em.outside p u.c b lp e in
    let h2 = em.outside w u.c (turned (length s) o ix.0 u.c b) lw f in
    let g0 : dot (turned (length s) o ix.0 u.c b) (map (value q) s) ≡ u.c *ℤ (value q (get_or s o []) +ℤ value q (get_or s ix.0 [])) -ℤ dot b (map (value q) s) = turned-dot (value q) s o ix.0 u.c b some ix.1 in
    let g1 : dot (turned (length s) o ix.0 u.c b) (map (value q) s) ≡ u.c *ℤ (pos 0 +ℤ value q x) -ℤ dot b (map (value q) s) =
    g0 ∙ ap₂ (λ (k l : ℤ). u.c *ℤ (k +ℤ l) -ℤ dot b (map (value q) s)) (ap (value q) cl.origin ∙ value-zeros d q) (ap (value q) ix.2)
    in
    let par = parallelogram q p z (lp ∙ sym lz) in
    let y1 : plus p z ≡ plus x (scale (pos 2) z) = double d x z lx lz in
    let y2 : minus p z ≡ x = plus-back d x z lx lz in
    let sum : value q (plus x (scale (pos 2) z)) +ℤ value q x ≡ pos 2 *ℤ value q p +ℤ pos 2 *ℤ value q z = ap₂ (λ (k l : ℤ). k +ℤ l) (ap (value q) (sym y1)) (ap (value q) (sym y2)) ∙ par in
    let both : pos 2 *ℤ (excess q s p u.c b +ℤ excess q s w u.c (turned (length s) o ix.0 u.c b)) ≡ u.c *ℤ value q (plus x (scale (pos 2) z)) -ℤ u.c *ℤ value q x =
    end u.c (value q p) (value q w) (value q z) (value q x) (value q (plus x (scale (pos 2) z))) (dot b (map (value q) s)) (dot (turned (length s) o ix.0 u.c b) (map (value q) s)) (value-negative q z) g1 sum
    in
    record {
      least = le_of_mul_le_mul_z u.c (value q x) (value q (plus x (scale (pos 2) z))) u.positive (omega (arith, ints, both, h1, h2));
      tied = λ t.
          let same : u.c *ℤ value q x ≡ u.c *ℤ value q (plus x (scale (pos 2) z)) = ap (λ n. u.c *ℤ n) t in
          let z1 : excess q s p u.c b ≡ pos 0 = omega (arith, ints, both, h1, h2, same) in
          let z2 : excess q s w u.c (turned (length s) o ix.0 u.c b) ≡ pos 0 = omega (arith, ints, both, h1, h2, same) in
          let i1 = index_of s p (em.touches p u.c b lp e z1) in
          let i2 = index_of s w (em.touches w u.c (turned (length s) o ix.0 u.c b) lw f z2) in
          let which = one_of_two d s o ix.0 i1.0 i2.0 cl.simplex some ix.1 i1.1 i2.1 (λ v. rw (i1.2, i2.2) (at v)) in
          elim which [
            | inl k ↦ inr (sym i1.2 ∙ ap (λ (n : ℕ). get_or s n []) k ∙ cl.origin)
            | inr k ↦ inl (none d x z lx lz (sym i1.2 ∙ ap (λ (n : ℕ). get_or s n []) k ∙ ix.2))
          ];
    }
  where
    dot-zeros : (d : ℕ) (v : List ℤ) → dot v (zeros d) ≡ pos 0
    dot-zeros zero v = dot-nil v
    dot-zeros (suc d) [] = refl
    dot-zeros (suc d) (a ∷ v) = omega (arith, ints, dot-zeros d v, mul_zero_z a)

    double : (d : ℕ) (x z : List ℤ) → length x ≡ d → length z ≡ d → plus (plus x z) z ≡ plus x (scale (pos 2) z)
    double zero [] [] lx lz = refl
    double zero [] (c ∷ z) lx lz = absurd (omega arith)
    double zero (a ∷ x) z lx lz = absurd (omega arith)
    double (suc d) [] z lx lz = absurd (omega arith)
    double (suc d) (a ∷ x) [] lx lz = absurd (omega arith)
    double (suc d) (a ∷ x) (c ∷ z) lx lz =
        let e : a +ℤ c +ℤ c ≡ a +ℤ pos 2 *ℤ c = omega (arith, ints) in
        ap₂ (λ (n : ℤ) (l : List ℤ). n ∷ l) e (double d x z (omega arith) (omega arith))

    none : (d : ℕ) (x z : List ℤ) → length x ≡ d → length z ≡ d → plus x z ≡ x → z ≡ zeros d
    none zero [] [] lx lz h = refl
    none zero [] (c ∷ z) lx lz h = absurd (omega arith)
    none zero (a ∷ x) z lx lz h = absurd (omega arith)
    none (suc d) [] z lx lz h = absurd (omega arith)
    none (suc d) (a ∷ x) [] lx lz h = absurd (omega arith)
    none (suc d) (a ∷ x) (c ∷ z) lx lz h =
        let e : a +ℤ c ≡ a = cc in
        let f : plus x z ≡ x = cc in
        let g : c ≡ pos 0 = omega (arith, ints, e) in
        ap₂ (λ (n : ℤ) (l : List ℤ). n ∷ l) g (none d x z (omega arith) (omega arith) f)

    end : (c p w z x y b t : ℤ) → w ≡ z → t ≡ c *ℤ (pos 0 +ℤ x) -ℤ b → y +ℤ x ≡ pos 2 *ℤ p +ℤ pos 2 *ℤ z → pos 2 *ℤ (c *ℤ p -ℤ b +ℤ (c *ℤ w -ℤ t)) ≡ c *ℤ y -ℤ c *ℤ x
    end c p w z x y b t h k l =
        let own : pos 2 *ℤ (c *ℤ p -ℤ b +ℤ (c *ℤ z -ℤ (c *ℤ (pos 0 +ℤ x) -ℤ b))) ≡ c *ℤ (pos 2 *ℤ p +ℤ pos 2 *ℤ z) -ℤ pos 2 *ℤ (c *ℤ x) =
        ring (c ∷ p ∷ z ∷ x ∷ b ∷ []) (num (pos 2) ⊗ (var 0 ⊗ var 1 ⊖ var 4 ⊕ (var 0 ⊗ var 2 ⊖ (var 0 ⊗ (num (pos 0) ⊕ var 3) ⊖ var 4)))) (var 0 ⊗ (num (pos 2) ⊗ var 1 ⊕ num (pos 2) ⊗ var 2) ⊖ num (pos 2) ⊗ (var 0 ⊗ var 3)) tt
        in
        let m : c *ℤ (y +ℤ x) ≡ c *ℤ (pos 2 *ℤ p +ℤ pos 2 *ℤ z) = ap (λ n. c *ℤ n) l in
        let n : c *ℤ (y +ℤ x) ≡ c *ℤ y +ℤ c *ℤ x = ring (c ∷ y ∷ x ∷ []) (var 0 ⊗ (var 1 ⊕ var 2)) (var 0 ⊗ var 1 ⊕ var 0 ⊗ var 2) tt in
        rw (h, k) (omega (arith, ints, own, m, n))

pub stays : (d : ℕ) (x z : List ℤ) → length x ≡ d → z ≡ zeros d → plus x (scale (pos 2) z) ≡ x
stays d x z lx h = ap (λ (w : List ℤ). plus x (scale (pos 2) w)) h ∙ none d x lx
  where
    none : (d : ℕ) (x : List ℤ) → length x ≡ d → plus x (scale (pos 2) (zeros d)) ≡ x
    none zero [] l = refl
    none zero (a ∷ x) l = absurd (omega arith)
    none (suc d) [] l = absurd (omega arith)
    none (suc d) (a ∷ x) l =
        let e : a +ℤ pos 0 ≡ a = omega (arith, ints) in
        ap₂ (λ (n : ℤ) (l : List ℤ). n ∷ l) e (none d x (omega arith))

pub turns : (d : ℕ) (x z : List ℤ) → length x ≡ d → length z ≡ d → plus x z ≡ zeros d → plus x (scale (pos 2) z) ≡ scale (negsuc 0) x
turns zero [] [] lx lz h = refl
turns zero [] (c ∷ z) lx lz h = absurd (omega arith)
turns zero (a ∷ x) z lx lz h = absurd (omega arith)
turns (suc d) [] z lx lz h = absurd (omega arith)
turns (suc d) (a ∷ x) [] lx lz h = absurd (omega arith)
turns (suc d) (a ∷ x) (c ∷ z) lx lz h =
    let e : a +ℤ c ≡ pos 0 = cc in
    let f : plus x z ≡ zeros d = cc in
    let g : a +ℤ pos 2 *ℤ c ≡ negsuc 0 *ℤ a = omega (arith, ints, e) in
    ap₂ (λ (n : ℤ) (l : List ℤ). n ∷ l) g (turns d x z (omega arith) (omega arith) f)

-- vertices of members, of one parity: they are equal or opposite
pub same_parity : (d : ℕ) (q : List ℤ) (s s' : List (List ℤ)) (x y : List ℤ) → IsPlaced d q s → IsPlaced d q s' → Contains s x → Contains s' y → parity x ≡ parity y → (y ≡ x) ⊎ (y ≡ scale (negsuc 0) x)
same_parity d q s s' x y cl cl' mx my e =
    let ix = index_of s x mx in
    let iy = index_of s' y my in
    let lx : length x ≡ d = ap length (sym ix.2) ∙ get_dimension d s ix.0 cl.simplex.points ix.1 in
    let ly : length y ≡ d = ap length (sym iy.2) ∙ get_dimension d s' iy.0 cl'.simplex.points iy.1 in
    let r = doubled d x y lx ly e in
    let t = doubled d y x ly lx (sym e) in
    let a = nearest d q s x r.0 cl mx r.1 in
    let b = nearest d q s' y t.0 cl' my t.1 in
    let h : value q x ≤ℤ value q y = subst (λ (v : List ℤ). value q x ≤ℤ value q v) (sym r.2) a.least in
    let k : value q y ≤ℤ value q x = subst (λ (v : List ℤ). value q y ≤ℤ value q v) (sym t.2) b.least in
    let tie : value q x ≡ value q (plus x (scale (pos 2) r.0)) = omega (arith, ints, h, k, ap (value q) r.2) in
    elim (a.tied tie) [
      | inl z ↦ inl (r.2 ∙ stays d x r.0 lx z)
      | inr z ↦ inr (r.2 ∙ turns d x r.0 lx r.1 z)
    ]
