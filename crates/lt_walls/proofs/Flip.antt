-- The flipped set: empty in the order of W first and then - A, and closed under facets.
use Rattle.std.proofs.Common.{List, [], ◌∷◌, ◌≡◌, ◌≢◌, ℕ, ◌⊎◌, inl, inr, sym, ◌∙◌, ap, ap₂, subst, arith, ℤ, pos, neg_ℤ, ◌+ℤ◌, ◌-ℤ◌, ◌*ℤ◌, ◌<ℤ◌, ◌≤ℤ◌}
use Rattle.std.proofs.lemmas.Int.{ints, by_lt_z}
use Rattle.std.proofs.Math.IntN.{ℤ_discrete}
use Rattle.lt_model.proofs.Ring.{ring, ring_by, ring_by_two, var, num, neg, ◌⊕◌, ◌⊖◌, ◌⊗◌}
use Rattle.lt_walls.proofs.Sums.{qs, qs-lin}
use Rattle.lt_model.proofs.Inequalities.{mul_nonneg_z, mul_pos_z}
use Rattle.lt_walls.proofs.Signs.{sign}
use Rattle.lt_walls.proofs.Lists.{Alike, alike-refl, alike-sym, alike-trans, alike-cons, alike-swap, alike-second, alike-qs, qs-cons, qs-nil, qs-minus, qs-off, In, in-head, in-tail, in-cases, in-alike, in-or, front, Distinct, distinct-alike, distinct-out, distinct-tail, upd, upd-at, upd-off, upd-cons, negative}
use Rattle.lt_walls.proofs.Space.{Space, Simp, Expr, Weak, excess, excess-is, Opp, Same, rise, opp-expr, opp-excess, opp-out, opp-sym, opp-opp, same-opp, free-head, expr-head, excess-head}
use Rattle.lt_walls.proofs.Walls.{Tri, wall-weak, its-wall}
use Rattle.lt_walls.proofs.Ellipsoid.{same-side}
use Rattle.lt_walls.proofs.Cells.{Cell, dep-expr, dep-excess, cell-of, cell-distinct, parallel-sum, cell-wall, cell-rise, cell-simp, cell-member, cell-weak, cell-zeros, cell-one, Out, Kept, New, kept-or-out}

-- the members of the flipped set
unfoldable pub Flipped : {P Form R : Type 0} → {sp : Space P Form} → {Mem : List P → Type 0} → {Reg : R → Type 0} → {func : R → Form → ℤ} → {N : R} → {A W : Form} → (t : Tri sp Mem Reg func N A W) → List P → Type 0
Flipped t S = Kept t S ⊎ New t S

pub flipped-simp : {P Form R : Type 0} → {sp : Space P Form} → {Mem : List P → Type 0} → {Reg : R → Type 0} → {func : R → Form → ℤ} → {N : R} → {A W : Form} → (t : Tri sp Mem Reg func N A W) → (S : List P) → Flipped t S → Simp sp S
unfolding Flipped
flipped-simp t S (inl k) = t.simp S k.mem
flipped-simp t S (inr n) = cell-simp t n.cell n.u S n.rest (λ e. omega (arith, ints, n.below, e))

pub flipped-alike : {P Form R : Type 0} → {sp : Space P Form} → {Mem : List P → Type 0} → {Reg : R → Type 0} → {func : R → Form → ℤ} → {N : R} → {A W : Form} → (t : Tri sp Mem Reg func N A W) → {S S' : List P} → Flipped t S → Alike S S' → Flipped t S'
unfolding Flipped
flipped-alike t (inl k) al = inl (record { mem = t.alike k.mem al; none = λ o. k.none (record { V = o.V; s = o.s; i = o.i; cell = o.cell; above = o.above; rest = alike-trans o.rest (alike-cons o.i (alike-sym al)) }) })
flipped-alike t (inr n) al = inr (record { V = n.V; s = n.s; u = n.u; cell = n.cell; below = n.below; rest = alike-trans n.rest (alike-cons n.u al) })

-- excesses at W over the flipped set aren't negative
pub flipped-weak : {P Form R : Type 0} → {sp : Space P Form} → {Mem : List P → Type 0} → {Reg : R → Type 0} → {func : R → Form → ℤ} → {N : R} → {A W : Form} → (t : Tri sp Mem Reg func N A W) → (S : List P) → Flipped t S → Weak sp (sp.val W) S
unfolding Flipped
flipped-weak {W = W} t S (inl k) = wall-weak t W (its-wall t) S k.mem
flipped-weak t S (inr n) = cell-weak t n.cell n.u S n.rest

-- a point on the ellipsoid of W of a kept member is a vertex
pub kept-zeros : {P Form R : Type 0} → {sp : Space P Form} → {Mem : List P → Type 0} → {Reg : R → Type 0} → {func : R → Form → ℤ} → {N : R} → {A W : Form} → (t : Tri sp Mem Reg func N A W) → (S : List P) → Kept t S → (x : P) (c : ℤ) (b : P → ℤ) → Expr sp x S c b → excess (sp.val W) x S c b ≡ pos 0 → In sp.dec x S
kept-zeros {P} {Form} {R} {sp} {Mem} {Reg} {func} {N} {A} {W} t S k x c b e z = elim (in-or sp.dec x S) [ inl i ↦ i | inr out ↦ absurd (no_way out) ]
  where
    no_way : (In sp.dec x S → ⊥) → ⊥
    no_way out = k.none (record { V = x ∷ S; s = s; i = x; above = px; rest = alike-refl (x ∷ S); cell = cell-of t S k.mem x out s px (λ j. sums (sp.hom j) ∙ ring_by ((c *ℤ sp.hom j x) ∷ (qs (sp.hom j) b S) ∷ []) (var 0 ⊖ var 1) (num (pos 0)) (num (pos 1)) (var 0) (var 1) tt (e.is j)) (sums (sp.val W) ∙ sym (excess-is (sp.val W) x S c b) ∙ z) })
      where
        s : P → ℤ
        s = upd sp.dec x c (λ v. neg_ℤ (b v))

        px : pos 0 <ℤ s x
        px = subst (λ y. pos 0 <ℤ y) (sym (upd-at sp.dec x c (λ v. neg_ℤ (b v)))) e.positive

        sums : (f : P → ℤ) → qs f s (x ∷ S) ≡ c *ℤ f x -ℤ qs f b S
        sums f = upd-cons sp.dec x c (λ v. neg_ℤ (b v)) f S out ∙ ap (λ y. c *ℤ f x +ℤ y) (qs-minus f b S) ∙ ring ((c *ℤ f x) ∷ (qs f b S) ∷ []) (var 0 ⊕ neg (var 1)) (var 0 ⊖ var 1) tt

-- the excess at A of the point that a new simplex leaves out
pub new-low : {P Form R : Type 0} → {sp : Space P Form} → {Mem : List P → Type 0} → {Reg : R → Type 0} → {func : R → Form → ℤ} → {N : R} → {A W : Form} → (t : Tri sp Mem Reg func N A W) → (S : List P) (n : New t S) (c : ℤ) (b : P → ℤ) → Expr sp n.u S c b → excess (sp.val A) n.u S c b <ℤ pos 0
new-low {P} {Form} {R} {sp} {Mem} {Reg} {func} {N} {A} {W} t S n c b e = by_lt_z (excess (sp.val A) n.u S c b) (pos 0) (λ l. l) (λ g. absurd (omega (
  arith,
  ints,
  eq,
  mul_pos_z c (qs (sp.val A) n.s n.V) e.positive (cell-rise t n.cell),
  mul_nonneg_z (neg_ℤ (n.s n.u)) (excess (sp.val A) n.u S c b) (omega (arith, ints, n.below)) g,
  ring ((n.s n.u) ∷ (excess (sp.val A) n.u S c b) ∷ []) (neg (var 0) ⊗ var 1) (neg (var 0 ⊗ var 1)) tt,
)))
  where
    u : P
    u = n.u

    out : In sp.dec u S → ⊥
    out = distinct-out (distinct-alike (cell-distinct t n.cell) n.rest)

    r : P → ℤ
    r = upd sp.dec u c (λ v. neg_ℤ (b v))

    sums : (f : P → ℤ) → qs f r n.V ≡ c *ℤ f u -ℤ qs f b S
    sums f = n.rest.same f r ∙ upd-cons sp.dec u c (λ v. neg_ℤ (b v)) f S out ∙ ap (λ y. c *ℤ f u +ℤ y) (qs-minus f b S) ∙ ring ((c *ℤ f u) ∷ (qs f b S) ∷ []) (var 0 ⊕ neg (var 1)) (var 0 ⊖ var 1) tt

    eq : n.s u *ℤ excess (sp.val A) u S c b ≡ c *ℤ qs (sp.val A) n.s n.V
    eq = ap (λ y. n.s u *ℤ y) (excess-is (sp.val A) u S c b ∙ sym (sums (sp.val A))) ∙ parallel-sum t n.cell r (λ j. sums (sp.hom j) ∙ ring_by ((c *ℤ sp.hom j u) ∷ (qs (sp.hom j) b S) ∷ []) (var 0 ⊖ var 1) (num (pos 0)) (num (pos 1)) (var 0) (var 1) tt (e.is j)) u (in-alike (in-head sp.dec u S) (alike-sym n.rest)) (sp.val A) ∙ ap (λ y. y *ℤ qs (sp.val A) n.s n.V) (upd-at sp.dec u c (λ v. neg_ℤ (b v)))

-- a point with the excess 0 at W that isn't a vertex
pub flipped-low : {P Form R : Type 0} → {sp : Space P Form} → {Mem : List P → Type 0} → {Reg : R → Type 0} → {func : R → Form → ℤ} → {N : R} → {A W : Form} → (t : Tri sp Mem Reg func N A W) → (S : List P) → Flipped t S → (x : P) → (In sp.dec x S → ⊥) → (c : ℤ) (b : P → ℤ) → Expr sp x S c b → excess (sp.val W) x S c b ≡ pos 0 → excess (sp.val A) x S c b <ℤ pos 0
unfolding Flipped
flipped-low {P} {Form} {R} {sp} {Mem} {Reg} {func} {N} {A} {W} t S (inl k) x out c b e z = absurd (out (kept-zeros t S k x c b e z))
flipped-low {P} {Form} {R} {sp} {Mem} {Reg} {func} {N} {A} {W} t S (inr n) x out c b e z = subst (λ y. excess (sp.val A) y S c b <ℤ pos 0) (sym same) (new-low t S n c b (subst (λ y. Expr sp y S c b) same e))
  where
    same : x ≡ n.u
    same = elim (in-cases sp.dec x n.u S (in-alike (cell-zeros t n.cell n.u S n.rest x c b e z) n.rest)) [ inl q ↦ q | inr i ↦ absurd (out i) ]

-- ---- neighbours in the flipped set

pub record Next {P Form R : Type 0} {sp : Space P Form} {Mem : List P → Type 0} {Reg : R → Type 0} {func : R → Form → ℤ} {N : R} {A W : Form} (t : Tri sp Mem Reg func N A W) (p : P) (F : List P) : Type 0 where
  pub z : P
  pub mem : Flipped t (z ∷ F)
  pub opp : Opp sp p z F

-- from a dependency with positive numbers at p and z
dep-opp : {P Form : Type 0} → (sp : Space P Form) (p z : P) (F : List P) (s : P → ℤ) → pos 0 <ℤ s p → pos 0 <ℤ s z → ((j : ℕ) → qs (sp.hom j) s (p ∷ z ∷ F) ≡ pos 0) → Opp sp p z F
dep-opp sp p z F s pp pz fl = record {
  c = s z;
  m = s p;
  bs = λ v. neg_ℤ (s v);
  c_pos = pz;
  m_pos = pp;
  flat = λ j. ring_by ((s z *ℤ sp.hom j z) ∷ (s p *ℤ sp.hom j p) ∷ (qs (sp.hom j) s F) ∷ []) (var 0 ⊕ var 1) (neg (var 2)) (num (pos 1)) (var 1 ⊕ (var 0 ⊕ var 2)) (num (pos 0)) tt (ap (λ y. s p *ℤ sp.hom j p +ℤ y) (sym (qs-cons (sp.hom j) s z F)) ∙ sym (qs-cons (sp.hom j) s p (z ∷ F)) ∙ fl j) ∙ sym (qs-minus (sp.hom j) s F);
}

-- negative at both
dep-opp-neg : {P Form : Type 0} → (sp : Space P Form) (p z : P) (F : List P) (s : P → ℤ) → s p <ℤ pos 0 → s z <ℤ pos 0 → ((j : ℕ) → qs (sp.hom j) s (p ∷ z ∷ F) ≡ pos 0) → Opp sp p z F
dep-opp-neg sp p z F s pp pz fl = record {
  c = neg_ℤ (s z);
  m = neg_ℤ (s p);
  bs = s;
  c_pos = omega (arith, ints, pz);
  m_pos = omega (arith, ints, pp);
  flat = λ j. ring_by ((s z) ∷ (s p) ∷ (sp.hom j z) ∷ (sp.hom j p) ∷ (qs (sp.hom j) s F) ∷ []) (neg (var 0) ⊗ var 2 ⊕ neg (var 1) ⊗ var 3) (var 4) (neg (num (pos 1))) (var 1 ⊗ var 3 ⊕ (var 0 ⊗ var 2 ⊕ var 4)) (num (pos 0)) tt (ap (λ y. s p *ℤ sp.hom j p +ℤ y) (sym (qs-cons (sp.hom j) s z F)) ∙ sym (qs-cons (sp.hom j) s p (z ∷ F)) ∙ fl j);
}

-- negative at p, positive at z
dep-same : {P Form : Type 0} → (sp : Space P Form) (p z : P) (F : List P) (s : P → ℤ) → s p <ℤ pos 0 → pos 0 <ℤ s z → ((j : ℕ) → qs (sp.hom j) s (p ∷ z ∷ F) ≡ pos 0) → Same sp p z F
dep-same sp p z F s pp pz fl = record {
  c = s z;
  m = neg_ℤ (s p);
  bs = λ v. neg_ℤ (s v);
  c_pos = pz;
  m_pos = omega (arith, ints, pp);
  flat = λ j. ring_by ((s z) ∷ (s p) ∷ (sp.hom j z) ∷ (sp.hom j p) ∷ (qs (sp.hom j) s F) ∷ []) (var 0 ⊗ var 2) (neg (var 1) ⊗ var 3 ⊕ neg (var 4)) (num (pos 1)) (var 1 ⊗ var 3 ⊕ (var 0 ⊗ var 2 ⊕ var 4)) (num (pos 0)) tt (ap (λ y. s p *ℤ sp.hom j p +ℤ y) (sym (qs-cons (sp.hom j) s z F)) ∙ sym (qs-cons (sp.hom j) s p (z ∷ F)) ∙ fl j) ∙ ap (λ y. neg_ℤ (s p) *ℤ sp.hom j p +ℤ y) (sym (qs-minus (sp.hom j) s F));
}

-- Same and Opp exclude each other
pub same-not-opp : {P Form : Type 0} → {sp : Space P Form} → {p w : P} → {F : List P} → Simp sp (p ∷ F) → Same sp p w F → Opp sp p w F → ⊥
same-not-opp {P} {Form} {sp} {p} {w} {F} h a o = omega (
  arith,
  ints,
  mul_pos_z o.c a.m o.c_pos a.m_pos,
  mul_pos_z a.c o.m a.c_pos o.m_pos,
  (free-head h (o.c *ℤ a.m +ℤ a.c *ℤ o.m) (λ v. o.c *ℤ a.bs v -ℤ a.c *ℤ o.bs v) (λ j. ap (λ y. (o.c *ℤ a.m +ℤ a.c *ℤ o.m) *ℤ sp.hom j p +ℤ y) (qs-off (sp.hom j) a.bs o.bs o.c a.c F) ∙
      ring_by_two (o.c ∷ o.m ∷ a.c ∷ a.m ∷ (sp.hom j p) ∷ (sp.hom j w) ∷ (qs (sp.hom j) a.bs F) ∷ (qs (sp.hom j) o.bs F) ∷ []) ((var 0 ⊗ var 3 ⊕ var 2 ⊗ var 1) ⊗ var 4 ⊕ (var 0 ⊗ var 6 ⊖ var 2 ⊗ var 7)) (num (pos 0)) (neg (var 0)) (var 2 ⊗ var 5) (var 3 ⊗ var 4 ⊕ var 6) (var 2) (var 0 ⊗ var 5 ⊕ var 1 ⊗ var 4) (var 7) tt (a.flat j) (o.flat j))).0,
)

-- y in the span of F isn't the apex
pub on-not-head : {P Form : Type 0} → {sp : Space P Form} → {p : P} → {F : List P} → Simp sp (p ∷ F) → (c : ℤ) (bs : P → ℤ) → pos 0 <ℤ c → ((j : ℕ) → c *ℤ sp.hom j p ≡ qs (sp.hom j) bs F) → ⊥
on-not-head {P} {Form} {sp} {p} {F} h c bs pc fl = omega (arith, ints, pc, (free-head h c (λ v. neg_ℤ (bs v)) (λ j. ap (λ y. c *ℤ sp.hom j p +ℤ y) (qs-minus (sp.hom j) bs F) ∙ ring_by ((c *ℤ sp.hom j p) ∷ (qs (sp.hom j) bs F) ∷ []) (var 0 ⊕ neg (var 1)) (num (pos 0)) (num (pos 1)) (var 0) (var 1) tt (fl j))).0)

-- what lies behind a facet of a member of T
behind : {P Form R : Type 0} → {sp : Space P Form} → {Mem : List P → Type 0} → {Reg : R → Type 0} → {func : R → Form → ℤ} → {N : R} → {A W : Form} → (t : Tri sp Mem Reg func N A W) → (s : P) (F : List P) → Mem (s ∷ F) →
    ((y : P) → (In sp.dec y F → ⊥) → (c : ℤ) (bs : P → ℤ) → Expr sp y F c bs → excess (sp.val W) y F c bs ≡ pos 0 → ⊥) →
    ((w : P) → Mem (w ∷ F) → Opp sp s w F → (V : List P) (r : P → ℤ) → Cell t V r → (i j : P) → Alike V (i ∷ s ∷ F) → Alike V (j ∷ w ∷ F) → pos 0 <ℤ r i → pos 0 <ℤ r j → ⊥) →
    Next t s F
unfolding Flipped
behind {P} {Form} {R} {sp} {Mem} {Reg} {func} {N} {A} {W} t s F mem no_on no_cell = go (kept-or-out t (w ∷ F) mw)
  where
    n : (w : P) × Mem (w ∷ F) × Opp sp s w F
    n = t.closed s F mem

    w : P
    w = n.0

    mw : Mem (w ∷ F)
    mw = n.1

    o : Opp sp s w F
    o = n.2

    go : Kept t (w ∷ F) ⊎ Out t (w ∷ F) → Next t s F
    go (inl k) = record { z = w; mem = inl k; opp = o }
    go (inr k) = sides (ℤ_discrete (k.s w) (pos 0))
      where
        y : P
        y = k.i

        al : Alike k.V (w ∷ y ∷ F)
        al = alike-trans k.rest (alike-swap y w F)

        fl : (j : ℕ) → qs (sp.hom j) k.s (w ∷ y ∷ F) ≡ pos 0
        fl j = sym (al.same (sp.hom j) k.s) ∙ k.cell.flat j

        out_y : In sp.dec y F → ⊥
        out_y = distinct-out (distinct-tail (distinct-alike (cell-distinct t k.cell) al))

        zero : k.s w ≡ pos 0 → Next t s F
        zero e = absurd (no_on y out_y (k.s y) (λ v. neg_ℤ (k.s v)) (dep-expr sp y F k.s k.above (λ j. without (sp.hom j) ∙ fl j)) (dep-excess (sp.val W) y F k.s ∙ without (sp.val W) ∙ sym (al.same (sp.val W) k.s) ∙ cell-wall t k.cell))
          where
            without : (f : P → ℤ) → k.s y *ℤ f y +ℤ qs f k.s F ≡ qs f k.s (w ∷ y ∷ F)
            without f = ring_by ((k.s y *ℤ f y) ∷ (qs f k.s F) ∷ (k.s w) ∷ (f w) ∷ []) (var 0 ⊕ var 1) (var 2 ⊗ var 3 ⊕ (var 0 ⊕ var 1)) (neg (var 3)) (var 2) (num (pos 0)) tt (e) ∙ ap (λ q. k.s w *ℤ f w +ℤ q) (sym (qs-cons f k.s y F)) ∙ sym (qs-cons f k.s w (y ∷ F))

        above : pos 0 <ℤ k.s w → Next t s F
        above l = absurd (no_cell w mw o k.V k.s k.cell w y (subst (λ q. Alike k.V (w ∷ q ∷ F)) same al) k.rest l k.above)
          where
            my : Mem (y ∷ F)
            my = cell-member t k.cell w (y ∷ F) al l

            same : y ≡ s
            same = same-side t s y F mem my (opp-opp (opp-sym o) (dep-opp sp w y F k.s l k.above fl))

        below : k.s w <ℤ pos 0 → Next t s F
        below l = record {
          z = y;
          mem = inr (record { V = k.V; s = k.s; u = w; cell = k.cell; below = l; rest = al });
          opp = opp-sym (same-opp (dep-same sp w y F k.s l k.above fl) (opp-sym o));
        }

        sides : Dec (k.s w ≡ pos 0) → Next t s F
        sides (yes e) = zero e
        sides (no m) = elim (sign (k.s w) m) [ inl l ↦ below l | inr l ↦ above l ]

-- K: a kept member
next-kept : {P Form R : Type 0} → {sp : Space P Form} → {Mem : List P → Type 0} → {Reg : R → Type 0} → {func : R → Form → ℤ} → {N : R} → {A W : Form} → (t : Tri sp Mem Reg func N A W) → (r : P) (F : List P) → Kept t (r ∷ F) → Next t r F
next-kept {P} {Form} {R} {sp} {Mem} {Reg} {func} {N} {A} {W} t r F k = behind t r F k.mem
    (λ y out c bs e z. on y out (in-cases sp.dec y r F (kept-zeros t (r ∷ F) k y c (upd sp.dec r (pos 0) bs) (expr-head sp y r F c (pos 0) bs nr e.positive (λ j. e.is j ∙ ring ((qs (sp.hom j) bs F) ∷ (sp.hom j r) ∷ []) (var 0) (num (pos 0) ⊗ var 1 ⊕ var 0) tt))
    (excess-head sp.dec (sp.val W) y r F c (pos 0) bs nr ∙ ring ((c *ℤ sp.val W y) ∷ (qs (sp.val W) bs F) ∷ (sp.val W r) ∷ []) (var 0 ⊖ (num (pos 0) ⊗ var 2 ⊕ var 1)) (var 0 ⊖ var 1) tt ∙ sym (excess-is (sp.val W) y F c bs) ∙ z))) c bs e)
    (λ w mw o V s cell i j al al' pi pj. k.none (record { V = V; s = s; i = i; cell = cell; above = pi; rest = al }))
  where
    sr : Simp sp (r ∷ F)
    sr = t.simp (r ∷ F) k.mem

    nr : In sp.dec r F → ⊥
    nr = distinct-out sr.distinct

    on : (y : P) → (In sp.dec y F → ⊥) → (y ≡ r) ⊎ In sp.dec y F → (c : ℤ) (bs : P → ℤ) → Expr sp y F c bs → ⊥
    on y out (inl q) c bs e = on-not-head sr c bs e.positive (subst (λ x. (j : ℕ) → c *ℤ sp.hom j x ≡ qs (sp.hom j) bs F) q e.is)
    on y out (inr i) c bs e = out i

-- N-
next-new-neg : {P Form R : Type 0} → {sp : Space P Form} → {Mem : List P → Type 0} → {Reg : R → Type 0} → {func : R → Form → ℤ} → {N : R} → {A W : Form} → (t : Tri sp Mem Reg func N A W) → (r : P) (F : List P) (n : New t (r ∷ F)) → n.s r <ℤ pos 0 → Next t r F
unfolding Flipped
next-new-neg {P} {Form} {R} {sp} {Mem} {Reg} {func} {N} {A} {W} t r F n l = record { z = n.u; mem = inr (record { V = n.V; s = n.s; u = r; cell = n.cell; below = l; rest = al }); opp = dep-opp-neg sp r n.u F n.s l n.below (λ j. sym (al.same (sp.hom j) n.s) ∙ n.cell.flat j) }
  where
    al : Alike n.V (r ∷ n.u ∷ F)
    al = alike-trans n.rest (alike-swap n.u r F)

-- N+
next-new-pos : {P Form R : Type 0} → {sp : Space P Form} → {Mem : List P → Type 0} → {Reg : R → Type 0} → {func : R → Form → ℤ} → {N : R} → {A W : Form} → (t : Tri sp Mem Reg func N A W) → (r : P) (F : List P) (n : New t (r ∷ F)) → pos 0 <ℤ n.s r → Next t r F
next-new-pos {P} {Form} {R} {sp} {Mem} {Reg} {func} {N} {A} {W} t r F n l = finish (behind t u F mu no_on no_cell)
  where
    u : P
    u = n.u

    al : Alike n.V (r ∷ u ∷ F)
    al = alike-trans n.rest (alike-swap u r F)

    mu : Mem (u ∷ F)
    mu = cell-member t n.cell r (u ∷ F) al l

    su : Simp sp (u ∷ F)
    su = t.simp (u ∷ F) mu

    nu : In sp.dec u F → ⊥
    nu = distinct-out su.distinct

    sr : Simp sp (r ∷ F)
    sr = cell-simp t n.cell u (r ∷ F) n.rest (λ e. omega (arith, ints, n.below, e))

    side : Same sp u r F
    side = dep-same sp u r F n.s n.below l (λ j. sym (n.rest.same (sp.hom j) n.s) ∙ n.cell.flat j)

    no_on : (y : P) → (In sp.dec y F → ⊥) → (c : ℤ) (bs : P → ℤ) → Expr sp y F c bs → excess (sp.val W) y F c bs ≡ pos 0 → ⊥
    no_on y out c bs e z = third (in-cases sp.dec y r (u ∷ F) (in-alike (cell-zeros t n.cell r (u ∷ F) al y c (upd sp.dec u (pos 0) bs) (expr-head sp y u F c (pos 0) bs nu e.positive (λ j. e.is j ∙ ring ((qs (sp.hom j) bs F) ∷ (sp.hom j u) ∷ []) (var 0) (num (pos 0) ⊗ var 1 ⊕ var 0) tt))
        (excess-head sp.dec (sp.val W) y u F c (pos 0) bs nu ∙ ring ((c *ℤ sp.val W y) ∷ (qs (sp.val W) bs F) ∷ (sp.val W u) ∷ []) (var 0 ⊖ (num (pos 0) ⊗ var 2 ⊕ var 1)) (var 0 ⊖ var 1) tt ∙ sym (excess-is (sp.val W) y F c bs) ∙ z)) al))
      where
        third : (y ≡ r) ⊎ In sp.dec y (u ∷ F) → ⊥
        third (inl q) = on-not-head sr c bs e.positive (subst (λ x. (j : ℕ) → c *ℤ sp.hom j x ≡ qs (sp.hom j) bs F) q e.is)
        third (inr i) = elim (in-cases sp.dec y u F i) [ inl q ↦ on-not-head su c bs e.positive (subst (λ x. (j : ℕ) → c *ℤ sp.hom j x ≡ qs (sp.hom j) bs F) q e.is) | inr h ↦ out h ]

    no_cell : (w : P) → Mem (w ∷ F) → Opp sp u w F → (V : List P) (s : P → ℤ) → Cell t V s → (i j : P) → Alike V (i ∷ u ∷ F) → Alike V (j ∷ w ∷ F) → pos 0 <ℤ s i → pos 0 <ℤ s j → ⊥
    no_cell w mw o V s cell i j ai aj pi pj = where_w (in-cases sp.dec w i (u ∷ F) (in-alike (in-tail sp.dec w j (w ∷ F) (in-head sp.dec w F)) (alike-trans (alike-sym aj) ai)))
      where
        is_r : i ≡ r
        is_r = cell-one t cell n.cell i r (u ∷ F) ai al (λ e. omega (arith, ints, pi, e))

        where_w : (w ≡ i) ⊎ In sp.dec w (u ∷ F) → ⊥
        where_w (inl q) = same-not-opp su (subst (λ x. Same sp u x F) (sym is_r) side) (subst (λ x. Opp sp u x F) q o)
        where_w (inr h) = opp-out su (distinct-out (t.simp (w ∷ F) mw).distinct) o h

    finish : Next t u F → Next t r F
    finish x = record { z = x.z; mem = x.mem; opp = same-opp side x.opp }

-- across a facet of a new simplex whose point has the number 0
next-new-zero : {P Form R : Type 0} → {sp : Space P Form} → {Mem : List P → Type 0} → {Reg : R → Type 0} → {func : R → Form → ℤ} → {N : R} → {A W : Form} → (t : Tri sp Mem Reg func N A W) → (r : P) (F : List P) (n : New t (r ∷ F)) → n.s r ≡ pos 0 → Next t r F
unfolding Flipped
next-new-zero {P} {Form} {R} {sp} {Mem} {Reg} {func} {N} {A} {W} t r F n e = go (negative sp.dec (λ v. neg_ℤ (s v)) (u ∷ r ∷ F))
  where
    u : P
    u = n.u

    s : P → ℤ
    s = n.s

    fl : (j : ℕ) → qs (sp.hom j) s (u ∷ r ∷ F) ≡ pos 0
    fl j = sym (n.rest.same (sp.hom j) s) ∙ n.cell.flat j

    dist : Distinct sp.dec (u ∷ r ∷ F)
    dist = distinct-alike (cell-distinct t n.cell) n.rest

    go : ((y : P) × (G : List P) × Alike (u ∷ r ∷ F) (y ∷ G) × (neg_ℤ (s y) <ℤ pos 0)) ⊎ ((v : P) → In sp.dec v (u ∷ r ∷ F) → pos 0 ≤ℤ neg_ℤ (s v)) → Next t r F
    go (inr h) = absurd (omega (arith, ints, n.below, sum, less))
      where
        sum : s u *ℤ sp.hom 0 u +ℤ qs (sp.hom 0) s (r ∷ F) ≡ pos 0
        sum = sym (qs-cons (sp.hom 0) s u (r ∷ F)) ∙ fl 0

        rest : (S : List P) → ((v : P) → In sp.dec v S → pos 0 ≤ℤ neg_ℤ (s v)) → qs (sp.hom 0) s S ≤ℤ pos 0
        rest [] k = omega (arith, ints, qs-nil (sp.hom 0) s)
        rest (v ∷ S) k = omega (arith, ints, qs-cons (sp.hom 0) s v S, k v (in-head sp.dec v S), ap (λ q. s v *ℤ q) (sp.one v), ring ((s v) ∷ []) (var 0 ⊗ num (pos 1)) (var 0) tt, rest S (λ x i. k x (in-tail sp.dec x v S i)))

        less : (s u *ℤ sp.hom 0 u +ℤ qs (sp.hom 0) s (r ∷ F)) <ℤ pos 0
        less = omega (arith, ints, n.below, ap (λ q. s u *ℤ q) (sp.one u), ring ((s u) ∷ []) (var 0 ⊗ num (pos 1)) (var 0) tt, rest (r ∷ F) (λ x i. h x (in-tail sp.dec x u (r ∷ F) i)))
    go (inl g) = found (in-cases sp.dec y u (r ∷ F) iy)
      where
        y : P
        y = g.0

        y_pos : pos 0 <ℤ s y
        y_pos = omega (arith, ints, g.3)

        iy : In sp.dec y (u ∷ r ∷ F)
        iy = in-alike (in-head sp.dec y (g.1)) (alike-sym (g.2))

        inside : In sp.dec y F → Next t r F
        inside i = result (t.closed r G mem_r)
          where
            f : (F0 : List P) × Alike F (y ∷ F0)
            f = front sp.dec y F i

            F0 : List P
            F0 = f.0

            G : List P
            G = u ∷ F0

            -- V is y, r, u and F0
            al : Alike n.V (y ∷ r ∷ u ∷ F0)
            al = alike-trans n.rest (alike-trans (alike-swap u r F) (alike-trans (alike-cons r (alike-second u y (alike-refl (u ∷ F)) (f.1))) (alike-swap r y G)))

            dv : Distinct sp.dec (y ∷ r ∷ u ∷ F0)
            dv = distinct-alike (cell-distinct t n.cell) al

            mem_r : Mem (r ∷ G)
            mem_r = cell-member t n.cell y (r ∷ G) al y_pos

            sums : (q : P → ℤ) → qs q s n.V ≡ s y *ℤ q y +ℤ (s u *ℤ q u +ℤ qs q s F0)
            sums q = alike-qs q s y al ∙ ap (λ z. s y *ℤ q y +ℤ z) (qs-cons q s r G ∙ ap₂ (λ a z. a *ℤ q r +ℤ z) e (qs-cons q s u F0) ∙ ring ((q r) ∷ (s u *ℤ q u +ℤ qs q s F0) ∷ []) (num (pos 0) ⊗ var 0 ⊕ var 1) (var 1) tt)

            y_out_G : In sp.dec y G → ⊥
            y_out_G h = distinct-out dv (in-tail sp.dec y r G h)

            result : (w : P) × Mem (w ∷ G) × Opp sp r w G → Next t r F
            result c = record { z = w; mem = inr (record { V = y ∷ w ∷ G; s = s2; u = u; cell = cell; below = subst (λ z. z <ℤ pos 0) (sym (upd-off sp.dec w (pos 0) s u u_not_w)) n.below; rest = to_u }); opp = opp2 }
              where
                w : P
                w = c.0

                mw : Mem (w ∷ G)
                mw = c.1

                o : Opp sp r w G
                o = c.2

                sw : Simp sp (w ∷ G)
                sw = t.simp (w ∷ G) mw

                nw : In sp.dec w G → ⊥
                nw = distinct-out sw.distinct

                u_not_w : u ≢ w
                u_not_w q = nw (subst (λ x. In sp.dec x G) q (in-head sp.dec u F0))

                y_not_w : y ≢ w
                y_not_w q = omega (arith, ints, y_pos, (free-head sw (s y) s (λ j. ap (λ x. s y *ℤ sp.hom j x +ℤ qs (sp.hom j) s G) (sym q) ∙ ap (λ z. s y *ℤ sp.hom j y +ℤ z) (qs-cons (sp.hom j) s u F0) ∙ sym (sums (sp.hom j)) ∙ n.cell.flat j)).0)

                out : In sp.dec y (w ∷ G) → ⊥
                out h = elim (in-cases sp.dec y w G h) [ inl q ↦ y_not_w q | inr k ↦ y_out_G k ]

                s2 : P → ℤ
                s2 = upd sp.dec w (pos 0) s

                s2_sum : (q : P → ℤ) → qs q s2 (y ∷ w ∷ G) ≡ qs q s n.V
                s2_sum q = qs-cons q s2 y (w ∷ G) ∙ ap₂ (λ a z. a *ℤ q y +ℤ z) (upd-off sp.dec w (pos 0) s y y_not_w) (upd-cons sp.dec w (pos 0) s q G nw ∙ ring ((q w) ∷ (qs q s G) ∷ []) (num (pos 0) ⊗ var 0 ⊕ var 1) (var 1) tt ∙ qs-cons q s u F0) ∙ sym (sums q)

                cell : Cell t (y ∷ w ∷ G) s2
                cell = cell-of t (w ∷ G) mw y out s2 (subst (λ z. pos 0 <ℤ z) (sym (upd-off sp.dec w (pos 0) s y y_not_w)) y_pos) (λ j. s2_sum (sp.hom j) ∙ n.cell.flat j) (s2_sum (sp.val W) ∙ cell-wall t n.cell)

                to_u : Alike (y ∷ w ∷ G) (u ∷ w ∷ F)
                to_u = alike-trans (alike-cons y (alike-swap w u F0)) (alike-trans (alike-swap y u (w ∷ F0)) (alike-cons u (alike-trans (alike-swap y w F0) (alike-cons w (alike-sym (f.1))))))

                a : ℤ
                a = neg_ℤ (s u)

                bu : ℤ
                bu = o.bs u

                b2 : P → ℤ
                b2 v = bu *ℤ s v +ℤ a *ℤ o.bs v

                nF0 : In sp.dec y F0 → ⊥
                nF0 h = y_out_G (in-tail sp.dec y u F0 h)

                opp2 : Opp sp r w F
                opp2 = record {
                  c = a *ℤ o.c;
                  m = a *ℤ o.m;
                  bs = upd sp.dec y (bu *ℤ s y) b2;
                  c_pos = mul_pos_z a o.c (omega (arith, ints, n.below)) o.c_pos;
                  m_pos = mul_pos_z a o.m (omega (arith, ints, n.below)) o.m_pos;
                  flat = λ j. ring_by_two (o.c ∷ o.m ∷ (s u) ∷ bu ∷ (s y) ∷ (sp.hom j w) ∷ (sp.hom j r) ∷ (sp.hom j u) ∷ (sp.hom j y) ∷ (qs (sp.hom j) o.bs F0) ∷ (qs (sp.hom j) s F0) ∷ []) (neg (var 2) ⊗ var 0 ⊗ var 5 ⊕ neg (var 2) ⊗ var 1 ⊗ var 6) (var 3 ⊗ var 4 ⊗ var 8 ⊕ (var 3 ⊗ var 10 ⊕ neg (var 2) ⊗ var 9)) (neg (var 2)) (var 0 ⊗ var 5 ⊕ var 1 ⊗ var 6) (var 3 ⊗ var 7 ⊕ var 9) (neg (var 3)) (var 4 ⊗ var 8 ⊕ (var 2 ⊗ var 7 ⊕ var 10)) (num (pos 0)) tt (o.flat j ∙ qs-cons (sp.hom j) o.bs u F0) (sym (sums (sp.hom j)) ∙ n.cell.flat j)
                      ∙ ap (λ z. (bu *ℤ s y) *ℤ sp.hom j y +ℤ z) (sym (qs-lin (sp.hom j) s o.bs bu a F0)) ∙ sym (upd-cons sp.dec y (bu *ℤ s y) b2 (sp.hom j) F0 nF0) ∙ sym ((f.1).same (sp.hom j) (upd sp.dec y (bu *ℤ s y) b2));
                }

        found : (y ≡ u) ⊎ In sp.dec y (r ∷ F) → Next t r F
        found (inl q) = absurd (omega (arith, ints, y_pos, n.below, ap s q))
        found (inr h) = elim (in-cases sp.dec y r F h) [ inl q ↦ absurd (omega (arith, ints, y_pos, e, ap s q)) | inr i ↦ inside i ]

-- the flipped set is closed under facets
pub flipped-closed : {P Form R : Type 0} → {sp : Space P Form} → {Mem : List P → Type 0} → {Reg : R → Type 0} → {func : R → Form → ℤ} → {N : R} → {A W : Form} → (t : Tri sp Mem Reg func N A W) → (r : P) (F : List P) → Flipped t (r ∷ F) → Next t r F
unfolding Flipped
flipped-closed t r F (inl k) = next-kept t r F k
flipped-closed t r F (inr n) = elim (ℤ_discrete (n.s r) (pos 0)) [
  | yes e ↦ next-new-zero t r F n e
  | no m ↦ elim (sign (n.s r) m) [ inl l ↦ next-new-neg t r F n l | inr l ↦ next-new-pos t r F n l ]
]

-- what a facet of the flipped set shows
pub flipped-rise : {P Form R : Type 0} → {sp : Space P Form} → {Mem : List P → Type 0} → {Reg : R → Type 0} → {func : R → Form → ℤ} → {N : R} → {A W : Form} → (t : Tri sp Mem Reg func N A W) → (r z : P) (F : List P) → Flipped t (r ∷ F) → Flipped t (z ∷ F) → (o : Opp sp r z F) → (pos 0 <ℤ rise (sp.val W) o) ⊎ ((rise (sp.val W) o ≡ pos 0) × (rise (sp.val A) o <ℤ pos 0))
flipped-rise {P} {Form} {R} {sp} {Mem} {Reg} {func} {N} {A} {W} t r z F mr mz o = by_lt_z (pos 0) (rise (sp.val W) o) (λ l. inl l) (λ g. let e : rise (sp.val W) o ≡ pos 0 = omega (arith, ints, g, up) in inr (e, low e))
  where
    sr : Simp sp (r ∷ F)
    sr = flipped-simp t (r ∷ F) mr

    out : In sp.dec z (r ∷ F) → ⊥
    out = opp-out sr (distinct-out (flipped-simp t (z ∷ F) mz).distinct) o

    up : pos 0 ≤ℤ rise (sp.val W) o
    up = subst (λ y. pos 0 ≤ℤ y) (opp-excess sr o (sp.val W)) ((flipped-weak t (r ∷ F) mr).outside z o.c (upd sp.dec r (neg_ℤ o.m) o.bs) (opp-expr sr o))

    low : rise (sp.val W) o ≡ pos 0 → rise (sp.val A) o <ℤ pos 0
    low e = subst (λ y. y <ℤ pos 0) (opp-excess sr o (sp.val A)) (flipped-low t (r ∷ F) mr z out o.c (upd sp.dec r (neg_ℤ o.m) o.bs) (opp-expr sr o) (opp-excess sr o (sp.val W) ∙ e))
