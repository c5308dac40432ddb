-- One step of a walk: the numbers of a point over the simplex beyond a facet.
use Rattle.std.proofs.Common.{◌≡◌, ℕ, zero, suc, ℤ, pos, negsuc, ◌+ℤ◌, ◌-ℤ◌, ◌*ℤ◌, ◌<ℤ◌, ◌<◌, neg_ℤ, refl, ap, arith, sym, ◌∙◌, List, [], ◌∷◌, length, map, get_or}
use Rattle.std.proofs.lemmas.Int.{ints}
use Rattle.std.proofs.Math.IntN.{*ℤ-zero}
use Rattle.lt_model.proofs.Integers.{spread, triple_is, mul_assoc_z}
use Rattle.lt_model.proofs.Vectors.{dot-scale}
use Rattle.lt_model.proofs.Squares.{length-scale, length-plus}
use Rattle.lt_model.proofs.Excess.{dot-combine, same_from_dots, plus-dot, scale-dot, dot-constant}
use Rattle.lt_model.specs.Vectors.{plus, scale, dot, total, combine}
use Rattle.lt_model.specs.Forms.{value}
use Rattle.lt_model.specs.Simplices.{AllOfDimension, IsExpression, excess}
use Rattle.lt_model.specs.Facets.{without, with_at, number_at}
use Rattle.lt_model.proofs.Inequalities.{mul_pos_z}

pub plus-nil : (x : List ℤ) → plus x [] ≡ x
plus-nil [] = refl
plus-nil (a ∷ x) = refl

-- a sum of products, with the one at place i apart
pub dot-without : (i : ℕ) (b u : List ℤ) → length b ≡ length u → dot b u ≡ number_at i b *ℤ number_at i u +ℤ dot (without i b) (without i u)
dot-without i [] [] h = refl
dot-without i [] (y ∷ u) h = absurd (omega arith)
dot-without i (a ∷ b) [] h = absurd (omega arith)
dot-without zero (a ∷ b) (y ∷ u) h = refl
dot-without (suc i) (a ∷ b) (y ∷ u) h = rw (dot-without i b u (omega arith)) (omega (arith, ints))

pub without-map : (g : List ℤ → ℤ) (i : ℕ) (vs : List (List ℤ)) → without i (map g vs) ≡ map g (without i vs)
without-map g i [] = refl
without-map g zero (v ∷ vs) = refl
without-map g (suc i) (v ∷ vs) = ap (λ l. g v ∷ l) (without-map g i vs)

pub number_at-map : (g : List ℤ → ℤ) (i : ℕ) (vs : List (List ℤ)) (d : List ℤ) → i < length vs → number_at i (map g vs) ≡ g (get_or vs i d)
number_at-map g i [] d h = absurd (omega arith)
number_at-map g zero (v ∷ vs) d h = refl
number_at-map g (suc i) (v ∷ vs) d h = number_at-map g i vs d (omega arith)

pub number_at-plus : (i : ℕ) (x y : List ℤ) → number_at i (plus x y) ≡ number_at i x +ℤ number_at i y
number_at-plus i [] y = omega (arith, ints)
number_at-plus i (a ∷ x) [] = omega (arith, ints)
number_at-plus zero (a ∷ x) (b ∷ y) = refl
number_at-plus (suc i) (a ∷ x) (b ∷ y) = number_at-plus i x y

pub number_at-scale : (i : ℕ) (k : ℤ) (x : List ℤ) → number_at i (scale k x) ≡ k *ℤ number_at i x
number_at-scale i k [] = sym (*ℤ-zero k)
number_at-scale zero k (a ∷ x) = refl
number_at-scale (suc i) k (a ∷ x) = number_at-scale i k x

pub without-with_at : (j : ℕ) (y : ℤ) (b : List ℤ) → j < suc (length b) → without j (with_at j y b) ≡ b
without-with_at zero y b h = refl
without-with_at (suc j) y [] h = absurd (omega arith)
without-with_at (suc j) y (a ∷ b) h = ap (λ l. a ∷ l) (without-with_at j y b (omega arith))

pub number_at-with_at : (j : ℕ) (y : ℤ) (b : List ℤ) → j < suc (length b) → number_at j (with_at j y b) ≡ y
number_at-with_at zero y b h = refl
number_at-with_at (suc j) y [] h = absurd (omega arith)
number_at-with_at (suc j) y (a ∷ b) h = number_at-with_at j y b (omega arith)

pub length-with_at : (j : ℕ) (y : ℤ) (b : List ℤ) → length (with_at j y b) ≡ suc (length b)
length-with_at zero y b = refl
length-with_at (suc j) y [] = refl
length-with_at (suc j) y (a ∷ b) = ap suc (length-with_at j y b)

pub length-without : {X : Type 0} (i : ℕ) (b : List X) → i < length b → suc (length (without i b)) ≡ length b
length-without i [] h = absurd (omega arith)
length-without zero (a ∷ b) h = refl
length-without (suc i) (a ∷ b) h = ap suc (length-without i b (omega arith))

-- the coefficients of the point over the simplex beyond facet i: b over the first, f those of the new vertex, e their sum
abbrev pub next_coefficients : ℕ → ℕ → List ℤ → List ℤ → ℤ → List ℤ
next_coefficients i j b f e =
    with_at j (neg_ℤ (number_at i b *ℤ e)) (without i (plus (scale (number_at i b) f) (scale (neg_ℤ (number_at i f)) b)))

-- one step, for the numbers of any function at the vertices
pub step : (i j : ℕ) (b f u u' : List ℤ) (e : ℤ) → i < length u → j < length u' → length b ≡ length u → length f ≡ length u → length u' ≡ length u → without j u' ≡ without i u →
    dot (next_coefficients i j b f e) u' ≡ neg_ℤ (number_at i f) *ℤ dot b u -ℤ number_at i b *ℤ (e *ℤ number_at j u' -ℤ dot f u)
step i j b f u u' e hi hj lb lf lu same =
    let bi = number_at i b in
    let fi = number_at i f in
    let z : List ℤ = plus (scale bi f) (scale (neg_ℤ fi) b) in
    let lz : length z ≡ length u = length-plus (scale bi f) (scale (neg_ℤ fi) b) (length-scale bi f ∙ lf ∙ sym lb ∙ sym (length-scale (neg_ℤ fi) b)) ∙ length-scale bi f ∙ lf in
    let lw : suc (length (without i z)) ≡ length u = length-without i z (omega arith) ∙ lz in
    let new = next_coefficients i j b f e in
    let ln : length new ≡ length u' = length-with_at j (neg_ℤ (bi *ℤ e)) (without i z) ∙ lw ∙ sym lu in
    let e1 : dot new u' ≡ number_at j new *ℤ number_at j u' +ℤ dot (without j new) (without j u') = dot-without j new u' ln in
    let e2 : number_at j new ≡ neg_ℤ (bi *ℤ e) = number_at-with_at j (neg_ℤ (bi *ℤ e)) (without i z) (omega arith) in
    let e3 : without j new ≡ without i z = without-with_at j (neg_ℤ (bi *ℤ e)) (without i z) (omega arith) in
    let e4 : dot z u ≡ number_at i z *ℤ number_at i u +ℤ dot (without i z) (without i u) = dot-without i z u lz in
    let e5 : number_at i z ≡ bi *ℤ fi +ℤ neg_ℤ fi *ℤ bi = number_at-plus i (scale bi f) (scale (neg_ℤ fi) b) ∙ (rw (number_at-scale i bi f, number_at-scale i (neg_ℤ fi) b) refl) in
    let e6 : dot z u ≡ bi *ℤ dot f u +ℤ neg_ℤ fi *ℤ dot b u = plus-dot (scale bi f) (scale (neg_ℤ fi) b) u ∙ (rw (scale-dot bi f u, scale-dot (neg_ℤ fi) b u) refl) in
    e1 ∙ (rw (e2, e3, same) (finish bi fi e (number_at j u') (number_at i u) (dot z u) (number_at i z) (dot (without i z) (without i u)) (dot f u) (dot b u) e4 e5 e6))
  where
    finish : (bi fi e w ui zu zi rest fu bu : ℤ) → zu ≡ zi *ℤ ui +ℤ rest → zi ≡ bi *ℤ fi +ℤ neg_ℤ fi *ℤ bi → zu ≡ bi *ℤ fu +ℤ neg_ℤ fi *ℤ bu → neg_ℤ (bi *ℤ e) *ℤ w +ℤ rest ≡ neg_ℤ fi *ℤ bu -ℤ bi *ℤ (e *ℤ w -ℤ fu)
    finish bi fi e w ui zu zi rest fu bu e4 e5 e6 =
        let zero_there : zi ≡ pos 0 = e5 ∙ (simp spread (omega (arith, ints))) in
        let e7 : zu ≡ pos 0 *ℤ ui +ℤ rest = e4 ∙ ap (λ n. n *ℤ ui +ℤ rest) zero_there in
        let e9 : zu ≡ bi *ℤ fu +ℤ neg_ℤ (fi *ℤ bu) = simp spread at e6 in
        let e8 : rest ≡ bi *ℤ fu +ℤ neg_ℤ (fi *ℤ bu) = omega (arith, ints, e7, e9) in
        simp spread (rw e8 (omega (arith, ints, triple_is)))

pub length-combine : (d : ℕ) (b : List ℤ) (vs : List (List ℤ)) → AllOfDimension d vs → length b ≡ length vs → 0 < length vs → length (combine b vs) ≡ d
length-combine d [] [] all l h = absurd (omega arith)
length-combine d [] (v ∷ vs) all l h = absurd (omega arith)
length-combine d (a ∷ b) [] all l h = absurd (omega arith)
length-combine d (a ∷ []) (v ∷ []) all l h = rw plus-nil (length-scale a v ∙ all.0)
length-combine d (a ∷ []) (v ∷ w ∷ vs) all l h = absurd (omega arith)
length-combine d (a ∷ a' ∷ b) (v ∷ []) all l h = absurd (omega arith)
length-combine d (a ∷ a' ∷ b) (v ∷ w ∷ vs) all l h =
    let rest : length (combine (a' ∷ b) (w ∷ vs)) ≡ d = length-combine d (a' ∷ b) (w ∷ vs) all.1 (omega arith) (omega arith) in
    length-plus (scale a v) (combine (a' ∷ b) (w ∷ vs)) (length-scale a v ∙ all.0 ∙ sym rest) ∙ length-scale a v ∙ all.0

pub length-map : (g : List ℤ → ℤ) (vs : List (List ℤ)) → length (map g vs) ≡ length vs
length-map g [] = refl
length-map g (v ∷ vs) = ap suc (length-map g vs)

-- ws has the facet i of vs, its place j is outside vs, and x and the vertex at place j are beyond the facet
-- c times the rational point x / m is the sum of the b_i v_i over m: an expression is the case of m = 1
pub record IsWeighted (vs : List (List ℤ)) (m : ℤ) (x : List ℤ) (c : ℤ) (b : List ℤ) : Type 0 where
  pub positive : pos 0 <ℤ c
  pub one_each : length b ≡ length vs
  pub point : combine b vs ≡ scale c x
  pub sum : total b ≡ c *ℤ m

pub record IsStep (d i j : ℕ) (vs ws : List (List ℤ)) (w : List ℤ) (m : ℤ) (x b f : List ℤ) (c e : ℤ) : Type 0 where
  pub dimension : length x ≡ d
  pub points : AllOfDimension d vs
  pub next_points : AllOfDimension d ws
  pub place : i < length vs
  pub next_place : j < length ws
  pub count : length ws ≡ length vs
  pub facet : without j ws ≡ without i vs
  pub vertex : get_or ws j w ≡ w
  pub expression : IsWeighted vs m x c b
  pub beyond : number_at i b <ℤ pos 0
  pub vertex_expression : IsExpression vs w e f
  pub vertex_beyond : number_at i f <ℤ pos 0

-- the step at any function of points
pub step_at : (g : List ℤ → ℤ) (d i j : ℕ) (vs ws : List (List ℤ)) (w : List ℤ) (m : ℤ) (x b f : List ℤ) (c e : ℤ) → IsStep d i j vs ws w m x b f c e →
    dot (next_coefficients i j b f e) (map g ws) ≡ neg_ℤ (number_at i f) *ℤ dot b (map g vs) -ℤ number_at i b *ℤ (e *ℤ g w -ℤ dot f (map g vs))
step_at g d i j vs ws w m x b f c e s =
    let lv : length (map g vs) ≡ length vs = length-map g vs in
    let lw : length (map g ws) ≡ length ws = length-map g ws in
    let facet : without j (map g ws) ≡ without i (map g vs) = without-map g j ws ∙ ap (map g) s.facet ∙ sym (without-map g i vs) in
    let vertex : number_at j (map g ws) ≡ g w = number_at-map g j ws w s.next_place ∙ ap g s.vertex in
    let lb : length b ≡ length vs = s.expression.one_each in
    let lf : length f ≡ length vs = s.vertex_expression.one_each in
    let p1 : i < length vs = s.place in
    let p2 : j < length ws = s.next_place in
    let p3 : length ws ≡ length vs = s.count in
    step i j b f (map g vs) (map g ws) e (omega arith) (omega arith) (omega arith) (omega arith) (omega arith) facet ∙
    ap (λ n. neg_ℤ (number_at i f) *ℤ dot b (map g vs) -ℤ number_at i b *ℤ (e *ℤ n -ℤ dot f (map g vs))) vertex

length-next : (i j : ℕ) (b f : List ℤ) (e : ℤ) (m n : ℕ) → i < m → n ≡ m → length b ≡ m → length f ≡ m → length (next_coefficients i j b f e) ≡ n
length-next i j b f e m n hi hn lb lf =
    let bi = number_at i b in
    let fi = number_at i f in
    let z : List ℤ = plus (scale bi f) (scale (neg_ℤ fi) b) in
    let lz : length z ≡ m = length-plus (scale bi f) (scale (neg_ℤ fi) b) (length-scale bi f ∙ lf ∙ sym lb ∙ sym (length-scale (neg_ℤ fi) b)) ∙ length-scale bi f ∙ lf in
    length-with_at j (neg_ℤ (bi *ℤ e)) (without i z) ∙ length-without i z (omega arith) ∙ lz ∙ sym hn

sum_end : (t fi c bi e : ℤ) → t *ℤ pos 1 ≡ neg_ℤ fi *ℤ (c *ℤ pos 1) -ℤ bi *ℤ (e *ℤ pos 1 -ℤ e *ℤ pos 1) → t ≡ neg_ℤ fi *ℤ c
sum_end t fi c bi e h =
    let a : e *ℤ pos 1 -ℤ e *ℤ pos 1 ≡ pos 0 = omega (arith, ints) in
    let k : t *ℤ pos 1 ≡ neg_ℤ fi *ℤ (c *ℤ pos 1) -ℤ bi *ℤ pos 0 = rw a at h in
    let m : c *ℤ pos 1 ≡ c = omega (arith, ints) in
    let n : t *ℤ pos 1 ≡ neg_ℤ fi *ℤ c -ℤ bi *ℤ pos 0 = rw m at k in
    omega (arith, ints, n)

pub next_expression : (d i j : ℕ) (vs ws : List (List ℤ)) (w : List ℤ) (m : ℤ) (x b f : List ℤ) (c e : ℤ) → IsStep d i j vs ws w m x b f c e → IsWeighted ws m x (neg_ℤ (number_at i f) *ℤ c) (next_coefficients i j b f e)
next_expression d i j vs ws w m x b f c e s =
    record {
      positive = mul_pos_z (neg_ℤ (number_at i f)) c (omega (arith, ints, s.vertex_beyond)) s.expression.positive;
      one_each = one_each;
      point = same_from_dots (combine new ws) (scale c' x) (length-combine d new ws s.next_points one_each (omega (arith, s.next_place)) ∙ sym s.dimension ∙ sym (length-scale c' x)) agrees;
      sum = sums;
    }
  where
    new : List ℤ
    new = next_coefficients i j b f e

    c' : ℤ
    c' = neg_ℤ (number_at i f) *ℤ c

    one_each : length (next_coefficients i j b f e) ≡ length ws
    one_each = length-next i j b f e (length vs) (length ws) s.place s.count s.expression.one_each s.vertex_expression.one_each

    sums : total (next_coefficients i j b f e) ≡ neg_ℤ (number_at i f) *ℤ c *ℤ m
    sums =
        let one : List ℤ → ℤ = λ v. pos 1 in
        let t1 : dot b (map one vs) ≡ c *ℤ m *ℤ pos 1 = dot-constant b (pos 1) vs s.expression.one_each ∙ ap (λ n. n *ℤ pos 1) s.expression.sum in
        let t2 : dot f (map one vs) ≡ e *ℤ pos 1 = dot-constant f (pos 1) vs s.vertex_expression.one_each ∙ ap (λ n. n *ℤ pos 1) s.vertex_expression.sum in
        let t3 : total (next_coefficients i j b f e) *ℤ pos 1 ≡ neg_ℤ (number_at i f) *ℤ dot b (map one vs) -ℤ number_at i b *ℤ (e *ℤ pos 1 -ℤ dot f (map one vs)) =
        sym (dot-constant (next_coefficients i j b f e) (pos 1) ws one_each) ∙ step_at one d i j vs ws w m x b f c e s
        in
        let t4 : total (next_coefficients i j b f e) *ℤ pos 1 ≡ neg_ℤ (number_at i f) *ℤ (c *ℤ m *ℤ pos 1) -ℤ number_at i b *ℤ (e *ℤ pos 1 -ℤ e *ℤ pos 1) = rw (t1, t2) at t3 in
        sum_end (total (next_coefficients i j b f e)) (number_at i f) (c *ℤ m) (number_at i b) e t4 ∙ sym (mul_assoc_z (neg_ℤ (number_at i f)) c m)

    agrees : (u : List ℤ) → dot u (combine (next_coefficients i j b f e) ws) ≡ dot u (scale (neg_ℤ (number_at i f) *ℤ c) x)
    agrees u =
        let e1 : dot b (map (dot u) vs) ≡ c *ℤ dot u x = sym (dot-combine u b vs) ∙ ap (dot u) s.expression.point ∙ dot-scale u c x in
        let e2 : dot f (map (dot u) vs) ≡ e *ℤ dot u w = sym (dot-combine u f vs) ∙ ap (dot u) s.vertex_expression.point ∙ dot-scale u e w in
        dot-combine u (next_coefficients i j b f e) ws ∙ step_at (dot u) d i j vs ws w m x b f c e s ∙ (rw (e1, e2, dot-scale u (neg_ℤ (number_at i f) *ℤ c) x) (simp spread (omega (arith, ints, triple_is))))

-- the value at x of the affine function that agrees with Q on the vertices rises: each is a sum over its scale
pub value_rises : (q : List ℤ) (d i j : ℕ) (vs ws : List (List ℤ)) (w : List ℤ) (m : ℤ) (x b f : List ℤ) (c e : ℤ) → IsStep d i j vs ws w m x b f c e → pos 0 <ℤ excess q vs w e f →
    (neg_ℤ (number_at i f) *ℤ c *ℤ dot b (map (value q) vs)) <ℤ (c *ℤ dot (next_coefficients i j b f e) (map (value q) ws))
value_rises q d i j vs ws w m x b f c e s h =
    let up_by : pos 0 <ℤ (c *ℤ (neg_ℤ (number_at i b) *ℤ excess q vs w e f)) =
    mul_pos_z c (neg_ℤ (number_at i b) *ℤ excess q vs w e f) s.expression.positive (mul_pos_z (neg_ℤ (number_at i b)) (excess q vs w e f) (omega (arith, ints, s.beyond)) h)
    in
    rises_end c (number_at i b) (number_at i f) (dot b (map (value q) vs)) (excess q vs w e f) (dot (next_coefficients i j b f e) (map (value q) ws)) (step_at (value q) d i j vs ws w m x b f c e s) up_by
  where
    rises_end : (c bi fi h k h' : ℤ) → h' ≡ neg_ℤ fi *ℤ h -ℤ bi *ℤ k → pos 0 <ℤ (c *ℤ (neg_ℤ bi *ℤ k)) → (neg_ℤ fi *ℤ c *ℤ h) <ℤ (c *ℤ h')
    rises_end c bi fi h k h' e p =
        let e1 : c *ℤ h' ≡ neg_ℤ fi *ℤ c *ℤ h +ℤ c *ℤ (neg_ℤ bi *ℤ k) = ap (λ n. c *ℤ n) e ∙ (simp spread (omega (arith, ints, triple_is))) in
        omega (arith, ints, e1, p)
