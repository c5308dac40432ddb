-- Points with coordinates, forms, independent simplices, expressions, sides of facets.
use Rattle.std.proofs.Common.{List, [], ◌∷◌, ◌≡◌, ◌≢◌, ℕ, inl, inr, refl, sym, ◌∙◌, ap, ap₂, subst, arith, ℤ, pos, neg_ℤ, ◌+ℤ◌, ◌-ℤ◌, ◌*ℤ◌, ◌<ℤ◌, ◌≤ℤ◌}
use Rattle.std.proofs.lemmas.Int.{ints}
use Rattle.std.proofs.Math.IntN.{ℤ_discrete}
use Rattle.lt_model.proofs.Ring.{ring, ring_by, ring_by_two, var, num, neg, ◌⊕◌, ◌⊖◌, ◌⊗◌}
use Rattle.lt_walls.proofs.Signs.{ring_by_three, mul_nz}
use Rattle.lt_walls.proofs.Sums.{qs, qs-lin}
use Rattle.lt_model.proofs.Inequalities.{mul_pos_z}
use Rattle.lt_walls.proofs.Lists.{Alike, alike-sym, qs-cons, qs-of, qs-fun, qs-scale, qs-minus, qs-diff, qs-off, qs-zero, qs-above, In, in-head, in-cases, in-alike, in-or, Distinct, distinct-alike, distinct-out, upd, upd-at, upd-cons}

-- a form that is 0 at x - v, and a line of points along which it grows without bound, while any form is quadratic there, with its value at x - v as the leading number
pub record Probe {P Form : Type 0} (val : Form → P → ℤ) (y : P) : Type 0 where
  pub form : Form
  pub along : ℤ → P
  pub rate : ℤ
  pub rate_pos : pos 0 <ℤ rate
  pub zero_there : val form y ≡ pos 0
  pub grows : (k : ℤ) → val form (along k) ≡ k *ℤ rate
  pub slope : Form → ℤ
  pub bends : (q : Form) (k : ℤ) → val q (along k) ≡ (val q (along (pos 0)) +ℤ k *ℤ slope q) +ℤ (k *ℤ k) *ℤ val q y

-- points, of which hom 0, hom 1, .. are the coordinates of (1, x), and forms, of which val is the value at a point
pub record Space (P Form : Type 0) : Type 0 where
  pub hom : ℕ → P → ℤ
  pub dec : (x y : P) → Dec (x ≡ y)
  pub one : (v : P) → hom 0 v ≡ pos 1
  pub inj : (x y : P) → ((j : ℕ) → hom j x ≡ hom j y) → x ≡ y
  pub val : Form → P → ℤ
  pub sub : P → P → P
  pub mix : ℤ → Form → ℤ → Form → Form
  pub mixed : (m : ℤ) (a : Form) (n : ℤ) (b : Form) (x : P) → val (mix m a n b) x ≡ m *ℤ val a x +ℤ n *ℤ val b x
  pub same : (q : Form) (x : P) → val q (sub x x) ≡ pos 0
  -- the excess is minus the sum of the b(v) Q[x - v]
  pub reflection : (q : Form) (x : P) (c : ℤ) (b : P → ℤ) (S : List P) → ((j : ℕ) → c *ℤ hom j x ≡ qs (hom j) b S) → c *ℤ val q x -ℤ qs (val q) b S ≡ neg_ℤ (qs (λ v. val q (sub x v)) b S)
  pub probe : (x v : P) → x ≢ v → Probe val (sub x v)

-- independence: a combination that is 0 in each coordinate has all coefficients 0
pub record Simp {P Form : Type 0} (sp : Space P Form) (S : List P) : Type 0 where
  pub distinct : Distinct sp.dec S
  pub free : (s : P → ℤ) → ((j : ℕ) → qs (sp.hom j) s S ≡ pos 0) → (v : P) → In sp.dec v S → s v ≡ pos 0

pub record Expr {P Form : Type 0} (sp : Space P Form) (x : P) (S : List P) (c : ℤ) (b : P → ℤ) : Type 0 where
  pub positive : pos 0 <ℤ c
  pub is : (j : ℕ) → c *ℤ sp.hom j x ≡ qs (sp.hom j) b S

pub excess : {P : Type 0} → (P → ℤ) → P → List P → ℤ → (P → ℤ) → ℤ
excess q x S c b = c *ℤ q x -ℤ qs q b S

pub record Weak {P Form : Type 0} (sp : Space P Form) (q : P → ℤ) (S : List P) : Type 0 where
  pub outside : (x : P) (c : ℤ) (b : P → ℤ) → Expr sp x S c b → pos 0 ≤ℤ excess q x S c b

pub record Strict {P Form : Type 0} (sp : Space P Form) (q : P → ℤ) (S : List P) : Type 0 where
  pub weak : Weak sp q S
  pub touches : (x : P) (c : ℤ) (b : P → ℤ) → Expr sp x S c b → excess q x S c b ≡ pos 0 → In sp.dec x S

pub record Definite {P Form : Type 0} (sp : Space P Form) (q : Form) : Type 0 where
  pub above : (x v : P) → x ≢ v → pos 0 <ℤ sp.val q (sp.sub x v)

pub excess-is : {P : Type 0} → (q : P → ℤ) (x : P) (S : List P) (c : ℤ) (b : P → ℤ) → excess q x S c b ≡ c *ℤ q x -ℤ qs q b S
unfolding excess
excess-is q x S c b = refl

pub simp-alike : {P Form : Type 0} → {sp : Space P Form} → {S S' : List P} → Simp sp S → Alike S S' → Simp sp S'
simp-alike {P} {Form} {sp} {S} {S'} h k = record {
  distinct = distinct-alike h.distinct k;
  free = λ s z v i. h.free s (λ j. k.same (sp.hom j) s ∙ z j) v (in-alike i (alike-sym k));
}

pub free-sum : {P Form : Type 0} → {sp : Space P Form} → {S : List P} → Simp sp S → (s : P → ℤ) → ((j : ℕ) → qs (sp.hom j) s S ≡ pos 0) → (q : P → ℤ) → qs q s S ≡ pos 0
free-sum {P} {Form} {sp} {S} h s z q = qs-zero sp.dec q s S (h.free s z)

pub free-head : {P Form : Type 0} → {sp : Space P Form} → {w : P} → {F : List P} → Simp sp (w ∷ F) → (l : ℤ) (s : P → ℤ) → ((j : ℕ) → l *ℤ sp.hom j w +ℤ qs (sp.hom j) s F ≡ pos 0) → (l ≡ pos 0) × ((q : P → ℤ) → l *ℤ q w +ℤ qs q s F ≡ pos 0)
free-head {P} {Form} {sp} {w} {F} h l s z = (
  sym (upd-at sp.dec w l s) ∙ h.free t zt w (in-head sp.dec w F),
  λ q. sym (upd-cons sp.dec w l s q F out) ∙ free-sum h t zt q,
)
  where
    out : In sp.dec w F → ⊥
    out = distinct-out h.distinct

    t : P → ℤ
    t = upd sp.dec w l s

    zt : (j : ℕ) → qs (sp.hom j) t (w ∷ F) ≡ pos 0
    zt j = upd-cons sp.dec w l s (sp.hom j) F out ∙ z j

-- two combinations that agree in each coordinate agree in all sums and coefficients
pub same-sum : {P Form : Type 0} → {sp : Space P Form} → {S : List P} → Simp sp S → (s t : P → ℤ) → ((j : ℕ) → qs (sp.hom j) s S ≡ qs (sp.hom j) t S) → (q : P → ℤ) → qs q s S ≡ qs q t S
same-sum {P} {Form} {sp} {S} h s t e q =
    let d : (f : P → ℤ) → qs f (λ v. s v -ℤ t v) S ≡ qs f s S -ℤ qs f t S = λ f. qs-diff f s t S in
    let z : (j : ℕ) → qs (sp.hom j) (λ v. s v -ℤ t v) S ≡ pos 0 = λ j. omega (arith, ints, d (sp.hom j), e j) in
    omega (arith, ints, d q, free-sum h (λ v. s v -ℤ t v) z q)

pub same-at : {P Form : Type 0} → {sp : Space P Form} → {S : List P} → Simp sp S → (s t : P → ℤ) → ((j : ℕ) → qs (sp.hom j) s S ≡ qs (sp.hom j) t S) → (v : P) → In sp.dec v S → s v ≡ t v
same-at {P} {Form} {sp} {S} h s t e v i =
    let d : (f : P → ℤ) → qs f (λ v. s v -ℤ t v) S ≡ qs f s S -ℤ qs f t S = λ f. qs-diff f s t S in
    let z : (j : ℕ) → qs (sp.hom j) (λ v. s v -ℤ t v) S ≡ pos 0 = λ j. omega (arith, ints, d (sp.hom j), e j) in
    let y : s v -ℤ t v ≡ pos 0 = h.free (λ v. s v -ℤ t v) z v i in
    omega (arith, ints, y)

-- the excesses of two expressions of one point
pub rescale : {P Form : Type 0} → {sp : Space P Form} → {S : List P} → Simp sp S → (x : P) (c c' : ℤ) (b b' : P → ℤ) →
    ((j : ℕ) → c *ℤ sp.hom j x ≡ qs (sp.hom j) b S) → ((j : ℕ) → c' *ℤ sp.hom j x ≡ qs (sp.hom j) b' S) →
    (q : P → ℤ) → c' *ℤ excess q x S c b ≡ c *ℤ excess q x S c' b'
unfolding excess
rescale {P} {Form} {sp} {S} h x c c' b b' e e' q =
    ring_by (c ∷ c' ∷ (q x) ∷ (qs q b S) ∷ (qs q b' S) ∷ []) (var 1 ⊗ (var 0 ⊗ var 2 ⊖ var 3)) (var 0 ⊗ (var 1 ⊗ var 2 ⊖ var 4)) (neg (num (pos 1))) (var 1 ⊗ var 3) (var 0 ⊗ var 4) tt (sym (qs-scale q b c' S) ∙ sums ∙ qs-scale q b' c S)
  where
    sums : qs q (λ v. c' *ℤ b v) S ≡ qs q (λ v. c *ℤ b' v) S
    sums = same-sum h (λ v. c' *ℤ b v) (λ v. c *ℤ b' v) (λ j. qs-scale (sp.hom j) b c' S ∙ ring_by_two (c ∷ c' ∷ (sp.hom j x) ∷ (qs (sp.hom j) b S) ∷ (qs (sp.hom j) b' S) ∷ []) (var 1 ⊗ var 3) (var 0 ⊗ var 4) (neg (var 1)) (var 0 ⊗ var 2) (var 3) (var 0) (var 1 ⊗ var 2) (var 4) tt (e j) (e' j) ∙ sym (qs-scale (sp.hom j) b' c S)) q

pub rescale-zero : {P Form : Type 0} → {sp : Space P Form} → {S : List P} → Simp sp S → (x : P) (c c' : ℤ) (b b' : P → ℤ) →
    Expr sp x S c b → Expr sp x S c' b' → (q : P → ℤ) → excess q x S c b ≡ pos 0 → excess q x S c' b' ≡ pos 0
rescale-zero {P} {Form} {sp} {S} h x c c' b b' e e' q z = go (ℤ_discrete y (pos 0))
  where
    y : ℤ
    y = excess q x S c' b'

    eq : c *ℤ y ≡ c' *ℤ pos 0
    eq = sym (rescale h x c c' b b' e.is e'.is q) ∙ ap (λ k. c' *ℤ k) z

    zero : c' *ℤ pos 0 ≡ pos 0
    zero = ring (c' ∷ []) (var 0 ⊗ num (pos 0)) (num (pos 0)) tt

    go : Dec (y ≡ pos 0) → y ≡ pos 0
    go (yes p) = p
    go (no n) = absurd (mul_nz c y (λ q. omega (arith, ints, e.positive, q)) n (eq ∙ zero))

-- an expression with the coefficient h at the head
pub expr-head : {P Form : Type 0} → (sp : Space P Form) (x w : P) (F : List P) (c h : ℤ) (s : P → ℤ) → (In sp.dec w F → ⊥) → pos 0 <ℤ c → ((j : ℕ) → c *ℤ sp.hom j x ≡ h *ℤ sp.hom j w +ℤ qs (sp.hom j) s F) → Expr sp x (w ∷ F) c (upd sp.dec w h s)
expr-head sp x w F c h s n p e = record { positive = p; is = λ j. e j ∙ sym (upd-cons sp.dec w h s (sp.hom j) F n) }

pub excess-head : {P : Type 0} → (dec : (x y : P) → Dec (x ≡ y)) (q : P → ℤ) (x w : P) (F : List P) (c h : ℤ) (s : P → ℤ) → (In dec w F → ⊥) → excess q x (w ∷ F) c (upd dec w h s) ≡ c *ℤ q x -ℤ (h *ℤ q w +ℤ qs q s F)
unfolding excess
excess-head dec q x w F c h s n = ap (λ z. c *ℤ q x -ℤ z) (upd-cons dec w h s q F n)

pub excess-mixed : {P Form : Type 0} → (sp : Space P Form) (m : ℤ) (A : Form) (n : ℤ) (B : Form) (x : P) (S : List P) (c : ℤ) (b : P → ℤ) →
    excess (sp.val (sp.mix m A n B)) x S c b ≡ m *ℤ excess (sp.val A) x S c b +ℤ n *ℤ excess (sp.val B) x S c b
unfolding excess
excess-mixed sp m A n B x S c b =
    ap₂ (λ y z. c *ℤ y -ℤ z) (sp.mixed m A n B x) (qs-fun (sp.val (sp.mix m A n B)) (λ v. m *ℤ sp.val A v +ℤ n *ℤ sp.val B v) b (sp.mixed m A n B) S ∙ qs-of (sp.val A) (sp.val B) b m n S)
    ∙ ring (m ∷ n ∷ c ∷ (sp.val A x) ∷ (sp.val B x) ∷ (qs (sp.val A) b S) ∷ (qs (sp.val B) b S) ∷ []) (var 2 ⊗ (var 0 ⊗ var 3 ⊕ var 1 ⊗ var 4) ⊖ (var 0 ⊗ var 5 ⊕ var 1 ⊗ var 6)) (var 0 ⊗ (var 2 ⊗ var 3 ⊖ var 5) ⊕ var 1 ⊗ (var 2 ⊗ var 4 ⊖ var 6)) tt

-- no inner points
pub inner : {P Form : Type 0} → (sp : Space P Form) (Q : Form) → Definite sp Q → (x : P) (S : List P) (c : ℤ) (b : P → ℤ) → Expr sp x S c b → ((v : P) → In sp.dec v S → pos 0 ≤ℤ b v) → pos 0 ≤ℤ excess (sp.val Q) x S c b → In sp.dec x S
unfolding excess
inner {P} {Form} sp Q def x S c b e h le = elim (in-or sp.dec x S) [ inl i ↦ i | inr n ↦ absurd (no_way n) ]
  where
    ones : qs (sp.hom 0) b S ≡ c
    ones = sym (e.is 0) ∙ ap (λ z. c *ℤ z) (sp.one x) ∙ ring (c ∷ []) (var 0 ⊗ num (pos 1)) (var 0) tt

    more : (In sp.dec x S → ⊥) → qs (sp.hom 0) b S ≤ℤ qs (λ v. sp.val Q (sp.sub x v)) b S
    more n = qs-above sp.dec (λ v. sp.val Q (sp.sub x v)) (sp.hom 0) b S h (λ v i. let g = def.above x v (λ q. n (subst (λ y. In sp.dec y S) (sym q) i)) in omega (arith, ints, g, sp.one v))

    no_way : (In sp.dec x S → ⊥) → ⊥
    no_way n = omega (arith, ints, more n, ones, le, e.positive, sp.reflection Q x c b S e.is)

-- ---- sides of a facet

-- w and p are on opposite sides of F: c w + m p is the sum of the bs v
pub record Opp {P Form : Type 0} (sp : Space P Form) (p w : P) (F : List P) : Type 0 where
  pub c : ℤ
  pub m : ℤ
  pub bs : P → ℤ
  pub c_pos : pos 0 <ℤ c
  pub m_pos : pos 0 <ℤ m
  pub flat : (j : ℕ) → c *ℤ sp.hom j w +ℤ m *ℤ sp.hom j p ≡ qs (sp.hom j) bs F

-- on the same side: c w is m p and the sum of the bs v
pub record Same {P Form : Type 0} (sp : Space P Form) (p w : P) (F : List P) : Type 0 where
  pub c : ℤ
  pub m : ℤ
  pub bs : P → ℤ
  pub c_pos : pos 0 <ℤ c
  pub m_pos : pos 0 <ℤ m
  pub flat : (j : ℕ) → c *ℤ sp.hom j w ≡ m *ℤ sp.hom j p +ℤ qs (sp.hom j) bs F

pub rise : {P Form : Type 0} → {sp : Space P Form} → {p w : P} → {F : List P} → (P → ℤ) → Opp sp p w F → ℤ
rise {P} {Form} {sp} {p} {w} {F} q o = (o.c *ℤ q w +ℤ o.m *ℤ q p) -ℤ qs q o.bs F

pub rise-is : {P Form : Type 0} → {sp : Space P Form} → {p w : P} → {F : List P} → (q : P → ℤ) (o : Opp sp p w F) → rise q o ≡ (o.c *ℤ q w +ℤ o.m *ℤ q p) -ℤ qs q o.bs F
unfolding rise
rise-is q o = refl

pub opp-sym : {P Form : Type 0} → {sp : Space P Form} → {p w : P} → {F : List P} → Opp sp p w F → Opp sp w p F
opp-sym {P} {Form} {sp} {p} {w} {F} o = record { c = o.m; m = o.c; bs = o.bs; c_pos = o.m_pos; m_pos = o.c_pos; flat = λ j. ring ((o.m *ℤ sp.hom j p) ∷ (o.c *ℤ sp.hom j w) ∷ []) (var 0 ⊕ var 1) (var 1 ⊕ var 0) tt ∙ o.flat j }

pub opp-alike : {P Form : Type 0} → {sp : Space P Form} → {p w : P} → {F F' : List P} → Opp sp p w F → Alike F F' → Opp sp p w F'
opp-alike {P} {Form} {sp} {p} {w} {F} {F'} o k = record { c = o.c; m = o.m; bs = o.bs; c_pos = o.c_pos; m_pos = o.m_pos; flat = λ j. o.flat j ∙ k.same (sp.hom j) o.bs }

pub rise-alike : {P Form : Type 0} → {sp : Space P Form} → {p w : P} → {F F' : List P} → (o : Opp sp p w F) (k : Alike F F') (q : P → ℤ) → rise q (opp-alike o k) ≡ rise q o
unfolding rise opp-alike
rise-alike {P} {Form} {sp} {p} {w} {F} {F'} o k q = ap (λ y. (o.c *ℤ q w +ℤ o.m *ℤ q p) -ℤ y) (sym (k.same q o.bs))

-- Opp(p, w) and Opp(p, z) give Same(w, z)
pub opp-opp : {P Form : Type 0} → {sp : Space P Form} → {p w z : P} → {F : List P} → Opp sp p w F → Opp sp p z F → Same sp w z F
opp-opp {P} {Form} {sp} {p} {w} {z} {F} o k = record {
  c = o.m *ℤ k.c;
  m = k.m *ℤ o.c;
  bs = λ v. o.m *ℤ k.bs v -ℤ k.m *ℤ o.bs v;
  c_pos = mul_pos_z o.m k.c o.m_pos k.c_pos;
  m_pos = mul_pos_z k.m o.c k.m_pos o.c_pos;
  flat = λ j. ring_by_two (o.c ∷ o.m ∷ k.c ∷ k.m ∷ (sp.hom j w) ∷ (sp.hom j p) ∷ (sp.hom j z) ∷ (qs (sp.hom j) o.bs F) ∷ (qs (sp.hom j) k.bs F) ∷ []) (var 1 ⊗ var 2 ⊗ var 6) (var 3 ⊗ var 0 ⊗ var 4 ⊕ (var 1 ⊗ var 8 ⊖ var 3 ⊗ var 7)) (neg (var 3)) (var 0 ⊗ var 4 ⊕ var 1 ⊗ var 5) (var 7) (var 1) (var 2 ⊗ var 6 ⊕ var 3 ⊗ var 5) (var 8) tt (o.flat j) (k.flat j)
      ∙ ap (λ y. (k.m *ℤ o.c) *ℤ sp.hom j w +ℤ y) (sym (qs-off (sp.hom j) k.bs o.bs o.m k.m F));
}

-- Same(p, w) and Opp(p, z) give Opp(w, z)
pub same-opp : {P Form : Type 0} → {sp : Space P Form} → {p w z : P} → {F : List P} → Same sp p w F → Opp sp p z F → Opp sp w z F
same-opp {P} {Form} {sp} {p} {w} {z} {F} o k = record {
  c = o.m *ℤ k.c;
  m = k.m *ℤ o.c;
  bs = λ v. o.m *ℤ k.bs v +ℤ k.m *ℤ o.bs v;
  c_pos = mul_pos_z o.m k.c o.m_pos k.c_pos;
  m_pos = mul_pos_z k.m o.c k.m_pos o.c_pos;
  flat = λ j. ring_by_two (o.c ∷ o.m ∷ k.c ∷ k.m ∷ (sp.hom j w) ∷ (sp.hom j p) ∷ (sp.hom j z) ∷ (qs (sp.hom j) o.bs F) ∷ (qs (sp.hom j) k.bs F) ∷ []) (var 1 ⊗ var 2 ⊗ var 6 ⊕ var 3 ⊗ var 0 ⊗ var 4) (var 1 ⊗ var 8 ⊕ var 3 ⊗ var 7) (var 3) (var 0 ⊗ var 4) (var 1 ⊗ var 5 ⊕ var 7) (var 1) (var 2 ⊗ var 6 ⊕ var 3 ⊗ var 5) (var 8) tt (o.flat j) (k.flat j)
      ∙ sym (qs-lin (sp.hom j) k.bs o.bs o.m k.m F);
}

-- the outer vertex isn't the inner one
pub opp-other : {P Form : Type 0} → {sp : Space P Form} → {p w : P} → {F : List P} → Simp sp (p ∷ F) → Opp sp p w F → w ≢ p
opp-other {P} {Form} {sp} {p} {w} {F} h o e = omega (arith, ints, o.c_pos, o.m_pos, zero)
  where
    zero : o.c +ℤ o.m ≡ pos 0
    zero = (free-head h (o.c +ℤ o.m) (λ v. neg_ℤ (o.bs v)) (λ j. ap (λ y. (o.c +ℤ o.m) *ℤ sp.hom j p +ℤ y) (qs-minus (sp.hom j) o.bs F) ∙
        ring_by (o.c ∷ o.m ∷ (sp.hom j p) ∷ (qs (sp.hom j) o.bs F) ∷ []) ((var 0 ⊕ var 1) ⊗ var 2 ⊕ neg (var 3)) (num (pos 0)) (num (pos 1)) (var 0 ⊗ var 2 ⊕ var 1 ⊗ var 2) (var 3) tt (ap (λ y. o.c *ℤ sp.hom j y +ℤ o.m *ℤ sp.hom j p) (sym e) ∙ o.flat j))).0

-- the expression of w over p ∷ F
pub opp-expr : {P Form : Type 0} → {sp : Space P Form} → {p w : P} → {F : List P} → Simp sp (p ∷ F) → (o : Opp sp p w F) → Expr sp w (p ∷ F) o.c (upd sp.dec p (neg_ℤ o.m) o.bs)
opp-expr {P} {Form} {sp} {p} {w} {F} h o = expr-head sp w p F o.c (neg_ℤ o.m) o.bs (distinct-out h.distinct) o.c_pos (λ j. ring_by (o.c ∷ o.m ∷ (sp.hom j p) ∷ (sp.hom j w) ∷ (qs (sp.hom j) o.bs F) ∷ []) (var 0 ⊗ var 3) (neg (var 1) ⊗ var 2 ⊕ var 4) (num (pos 1)) (var 0 ⊗ var 3 ⊕ var 1 ⊗ var 2) (var 4) tt (o.flat j))

pub opp-excess : {P Form : Type 0} → {sp : Space P Form} → {p w : P} → {F : List P} → Simp sp (p ∷ F) → (o : Opp sp p w F) (q : P → ℤ) → excess q w (p ∷ F) o.c (upd sp.dec p (neg_ℤ o.m) o.bs) ≡ rise q o
opp-excess {P} {Form} {sp} {p} {w} {F} h o q = excess-head sp.dec q w p F o.c (neg_ℤ o.m) o.bs (distinct-out h.distinct) ∙
    ring (o.c ∷ o.m ∷ (q p) ∷ (q w) ∷ (qs q o.bs F) ∷ []) (var 0 ⊗ var 3 ⊖ (neg (var 1) ⊗ var 2 ⊕ var 4)) (var 0 ⊗ var 3 ⊕ var 1 ⊗ var 2 ⊖ var 4) tt ∙ sym (rise-is q o)

-- w isn't in p ∷ F
pub opp-out : {P Form : Type 0} → {sp : Space P Form} → {p w : P} → {F : List P} → Simp sp (p ∷ F) → (In sp.dec w F → ⊥) → Opp sp p w F → In sp.dec w (p ∷ F) → ⊥
opp-out {P} {Form} {sp} {p} {w} {F} h n o i = elim (in-cases sp.dec w p F i) [ inl e ↦ opp-other h o e | inr j ↦ n j ]

-- the exact change of the excess across a facet (the signs of c and m are free)
pub change : {P Form : Type 0} → {sp : Space P Form} → (p w : P) → {F : List P} → Simp sp (w ∷ F) → (X : ℕ → ℤ) (u c m : ℤ) (bs a b : P → ℤ) →
    ((j : ℕ) → c *ℤ sp.hom j w +ℤ m *ℤ sp.hom j p ≡ qs (sp.hom j) bs F) →
    ((j : ℕ) → X j ≡ qs (sp.hom j) a (p ∷ F)) → ((j : ℕ) → X j ≡ qs (sp.hom j) b (w ∷ F)) → (q : P → ℤ) →
    m *ℤ (u -ℤ qs q b (w ∷ F)) ≡ m *ℤ (u -ℤ qs q a (p ∷ F)) +ℤ a p *ℤ ((c *ℤ q w +ℤ m *ℤ q p) -ℤ qs q bs F)
change {P} {Form} {sp} p w {F} h X u c m bs a b fl ea eb q = ap (λ y. m *ℤ (u -ℤ y)) (qs-cons q b w F) ∙ main ∙ ap (λ z. m *ℤ (u -ℤ z) +ℤ a p *ℤ ((c *ℤ q w +ℤ m *ℤ q p) -ℤ qs q bs F)) (sym (qs-cons q a p F))
  where
    l : ℤ
    l = neg_ℤ (a p *ℤ c) -ℤ m *ℤ b w

    s : P → ℤ
    s v = (a p *ℤ bs v +ℤ m *ℤ a v) -ℤ m *ℤ b v

    sums : (f : P → ℤ) → qs f s F ≡ (a p *ℤ qs f bs F +ℤ m *ℤ qs f a F) -ℤ m *ℤ qs f b F
    sums f = qs-diff f (λ v. a p *ℤ bs v +ℤ m *ℤ a v) (λ v. m *ℤ b v) F ∙ ap₂ (λ y z. y -ℤ z) (qs-lin f bs a (a p) m F) (qs-scale f b m F)

    eaj : (j : ℕ) → X j ≡ a p *ℤ sp.hom j p +ℤ qs (sp.hom j) a F
    eaj j = ea j ∙ qs-cons (sp.hom j) a p F

    ebj : (j : ℕ) → X j ≡ b w *ℤ sp.hom j w +ℤ qs (sp.hom j) b F
    ebj j = eb j ∙ qs-cons (sp.hom j) b w F

    zero_q : l *ℤ q w +ℤ qs q s F ≡ pos 0
    zero_q = (free-head h l s (λ j. ap (λ z. l *ℤ sp.hom j w +ℤ z) (sums (sp.hom j)) ∙
        ring_by_three ((X j) ∷ c ∷ m ∷ (sp.hom j w) ∷ (sp.hom j p) ∷ (qs (sp.hom j) bs F) ∷ (qs (sp.hom j) a F) ∷ (qs (sp.hom j) b F) ∷ (a p) ∷ (b w) ∷ []) ((neg (var 8 ⊗ var 1) ⊖ var 2 ⊗ var 9) ⊗ var 3 ⊕ (var 8 ⊗ var 5 ⊕ var 2 ⊗ var 6 ⊖ var 2 ⊗ var 7)) (num (pos 0)) (neg (var 8)) (var 1 ⊗ var 3 ⊕ var 2 ⊗ var 4) (var 5) (neg (var 2)) (var 0) (var 8 ⊗ var 4 ⊕ var 6) (var 2) (var 0) (var 9 ⊗ var 3 ⊕ var 7) tt (fl j) (eaj j) (ebj j))).1 q

    main : m *ℤ (u -ℤ (b w *ℤ q w +ℤ qs q b F)) ≡ m *ℤ (u -ℤ (a p *ℤ q p +ℤ qs q a F)) +ℤ a p *ℤ ((c *ℤ q w +ℤ m *ℤ q p) -ℤ qs q bs F)
    main = ring_by (u ∷ c ∷ m ∷ (q w) ∷ (q p) ∷ (qs q bs F) ∷ (qs q a F) ∷ (qs q b F) ∷ (a p) ∷ (b w) ∷ []) (var 2 ⊗ (var 0 ⊖ (var 9 ⊗ var 3 ⊕ var 7))) (var 2 ⊗ (var 0 ⊖ (var 8 ⊗ var 4 ⊕ var 6)) ⊕ var 8 ⊗ (var 1 ⊗ var 3 ⊕ var 2 ⊗ var 4 ⊖ var 5)) (num (pos 1)) ((neg (var 8 ⊗ var 1) ⊖ var 2 ⊗ var 9) ⊗ var 3 ⊕ (var 8 ⊗ var 5 ⊕ var 2 ⊗ var 6 ⊖ var 2 ⊗ var 7)) (num (pos 0)) tt (ap (λ z. l *ℤ q w +ℤ z) (sym (sums q)) ∙ zero_q)
