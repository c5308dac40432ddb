-- Cells: d + 2 points with their dependency. Members that the flip keeps, and simplices that it makes.
use Rattle.std.proofs.Common.{List, [], ◌∷◌, ◌≡◌, ◌≢◌, ℕ, ◌⊎◌, inl, inr, refl, sym, ◌∙◌, ap, ap₂, subst, arith, ℤ, pos, neg_ℤ, ◌+ℤ◌, ◌-ℤ◌, ◌*ℤ◌, ◌<ℤ◌, ◌≤ℤ◌}
use Rattle.std.proofs.lemmas.Int.{ints, by_lt_z}
use Rattle.lt_model.proofs.Ring.{ring, ring_by, ring_by_two, var, num, neg, ◌⊕◌, ◌⊖◌, ◌⊗◌}
use Rattle.lt_walls.proofs.Sums.{qs}
use Rattle.lt_model.proofs.Inequalities.{mul_nonneg_z, mul_pos_z, cancel_nonzero_z}
use Rattle.lt_walls.proofs.Signs.{mul_neg_pos, sign}
use Rattle.lt_walls.proofs.Lists.{Alike, alike-refl, alike-sym, alike-trans, alike-cons, alike-cancel, alike-second, alike-both, alike-qs, qs-cons, qs-scale, qs-minus, qs-off, qs-same, In, in-head, in-tail, in-cases, in-alike, in-or, front, Distinct, distinct-alike, distinct-out, distinct-tail, distinct-cons, differ, upd, upd-at, upd-off, upd-cons, negative, each}
use Rattle.lt_walls.proofs.Space.{Space, Simp, Expr, Weak, excess, excess-is, Opp, rise, rise-is, opp-expr, opp-excess, opp-out, inner, free-head}
use Rattle.lt_walls.proofs.Walls.{Tri, wall-weak, its-wall}
use Rattle.lt_walls.proofs.Ellipsoid.{expr-alike, excess-alike, one-outside, beyond, next-member}

-- the points V with the dependency s: those of a pair of members with the regulator N
pub record Cell {P Form R : Type 0} {sp : Space P Form} {Mem : List P → Type 0} {Reg : R → Type 0} {func : R → Form → ℤ} {N : R} {A W : Form} (t : Tri sp Mem Reg func N A W) (V : List P) (s : P → ℤ) : Type 0 where
  pub p : P
  pub w : P
  pub F : List P
  pub all : Alike V (p ∷ w ∷ F)
  pub mem_p : Mem (p ∷ F)
  pub mem_w : Mem (w ∷ F)
  pub p_pos : pos 0 <ℤ s p
  pub w_pos : pos 0 <ℤ s w
  pub flat : (j : ℕ) → qs (sp.hom j) s V ≡ pos 0
  pub factor : ℤ
  pub factor_pos : pos 0 <ℤ factor
  pub multiple : (Q : Form) → qs (sp.val Q) s V ≡ factor *ℤ func N Q

-- a dependency on x ∷ S as an expression of x
pub dep-expr : {P Form : Type 0} → (sp : Space P Form) (x : P) (S : List P) (s : P → ℤ) → pos 0 <ℤ s x → ((j : ℕ) → s x *ℤ sp.hom j x +ℤ qs (sp.hom j) s S ≡ pos 0) → Expr sp x S (s x) (λ v. neg_ℤ (s v))
dep-expr sp x S s p fl = record { positive = p; is = λ j. ring_by ((s x) ∷ (sp.hom j x) ∷ (qs (sp.hom j) s S) ∷ []) (var 0 ⊗ var 1) (neg (var 2)) (num (pos 1)) (var 0 ⊗ var 1 ⊕ var 2) (num (pos 0)) tt (fl j) ∙ sym (qs-minus (sp.hom j) s S) }

pub dep-excess : {P : Type 0} → (q : P → ℤ) (x : P) (S : List P) (s : P → ℤ) → excess q x S (s x) (λ v. neg_ℤ (s v)) ≡ s x *ℤ q x +ℤ qs q s S
dep-excess q x S s = excess-is q x S (s x) (λ v. neg_ℤ (s v)) ∙ ap (λ z. s x *ℤ q x -ℤ z) (qs-minus q s S) ∙ ring ((s x *ℤ q x) ∷ (qs q s S) ∷ []) (var 0 ⊖ neg (var 1)) (var 0 ⊕ var 1) tt

-- and of a point with a negative coefficient
pub neg-expr : {P Form : Type 0} → (sp : Space P Form) (x : P) (S : List P) (s : P → ℤ) → s x <ℤ pos 0 → ((j : ℕ) → s x *ℤ sp.hom j x +ℤ qs (sp.hom j) s S ≡ pos 0) → Expr sp x S (neg_ℤ (s x)) s
neg-expr sp x S s p fl = record { positive = omega (arith, ints, p); is = λ j. ring_by ((s x) ∷ (sp.hom j x) ∷ (qs (sp.hom j) s S) ∷ []) (neg (var 0) ⊗ var 1) (var 2) (neg (num (pos 1))) (var 0 ⊗ var 1 ⊕ var 2) (num (pos 0)) tt (fl j) }

pub neg-excess : {P : Type 0} → (q : P → ℤ) (x : P) (S : List P) (s : P → ℤ) → excess q x S (neg_ℤ (s x)) s ≡ neg_ℤ (s x *ℤ q x +ℤ qs q s S)
neg-excess q x S s = excess-is q x S (neg_ℤ (s x)) s ∙ ring ((s x) ∷ (q x) ∷ (qs q s S) ∷ []) (neg (var 0) ⊗ var 1 ⊖ var 2) (neg (var 0 ⊗ var 1 ⊕ var 2)) tt

-- a point on the ellipsoid of W of a member makes a cell with it, by any dependency that is positive at the point; the point is the outer vertex of a pair
pub outer-cell : {P Form R : Type 0} → {sp : Space P Form} → {Mem : List P → Type 0} → {Reg : R → Type 0} → {func : R → Form → ℤ} → {N : R} → {A W : Form} → (t : Tri sp Mem Reg func N A W) → (S : List P) → Mem S → (x : P) → (In sp.dec x S → ⊥) → (s : P → ℤ) → pos 0 <ℤ s x → ((j : ℕ) → qs (sp.hom j) s (x ∷ S) ≡ pos 0) → qs (sp.val W) s (x ∷ S) ≡ pos 0 → (k : Cell t (x ∷ S) s) × (k.w ≡ x)
outer-cell {P} {Form} {R} {sp} {Mem} {Reg} {func} {N} {A} {W} t S mem x out s pos_x fl zero = go (negative sp.dec (λ v. neg_ℤ (s v)) S)
  where
    c : ℤ
    c = s x

    b : P → ℤ
    b v = neg_ℤ (s v)

    fl' : (j : ℕ) → s x *ℤ sp.hom j x +ℤ qs (sp.hom j) s S ≡ pos 0
    fl' j = sym (qs-cons (sp.hom j) s x S) ∙ fl j

    e : Expr sp x S c b
    e = dep-expr sp x S s pos_x fl'

    z : excess (sp.val W) x S c b ≡ pos 0
    z = dep-excess (sp.val W) x S s ∙ sym (qs-cons (sp.val W) s x S) ∙ zero

    go : ((k : P) × (F : List P) × Alike S (k ∷ F) × (b k <ℤ pos 0)) ⊎ ((v : P) → In sp.dec v S → pos 0 ≤ℤ b v) → (k : Cell t (x ∷ S) s) × (k.w ≡ x)
    go (inr h) = absurd (out (inner sp A t.definite x S c b e h ((t.strict S mem).weak.outside x c b e)))
    go (inl r) = finish (t.regular k x F mem_k mem_x o)
      where
        k : P
        k = r.0

        F : List P
        F = r.1

        mem_k : Mem (k ∷ F)
        mem_k = t.alike mem (r.2)

        out_k : In sp.dec x (k ∷ F) → ⊥
        out_k i = out (in-alike i (alike-sym (r.2)))

        mem_x : Mem (x ∷ F)
        mem_x = next-member t k F mem_k x out_k c b (expr-alike e (r.2)) (sym (excess-alike (sp.val W) x c b (r.2)) ∙ z) (r.3)

        all : Alike (x ∷ S) (k ∷ x ∷ F)
        all = alike-second x k (alike-refl (x ∷ S)) (r.2)

        k_pos : pos 0 <ℤ s k
        k_pos = omega (arith, ints, r.3)

        sums : (f : P → ℤ) → qs f s (x ∷ S) ≡ s k *ℤ f k +ℤ (s x *ℤ f x +ℤ qs f s F)
        sums f = alike-qs f s k all ∙ ap (λ y. s k *ℤ f k +ℤ y) (qs-cons f s x F)

        o : Opp sp k x F
        o = record {
          c = s x;
          m = s k;
          bs = b;
          c_pos = pos_x;
          m_pos = k_pos;
          flat = λ j. ring_by ((s x *ℤ sp.hom j x) ∷ (s k *ℤ sp.hom j k) ∷ (qs (sp.hom j) s F) ∷ []) (var 0 ⊕ var 1) (neg (var 2)) (num (pos 1)) (var 1 ⊕ (var 0 ⊕ var 2)) (num (pos 0)) tt (sym (sums (sp.hom j)) ∙ fl j) ∙ sym (qs-minus (sp.hom j) s F);
        }

        rise_is : (f : P → ℤ) → rise f o ≡ qs f s (x ∷ S)
        rise_is f = rise-is f o ∙ ap (λ y. (s x *ℤ f x +ℤ s k *ℤ f k) -ℤ y) (qs-minus f s F) ∙ ring ((s x *ℤ f x) ∷ (s k *ℤ f k) ∷ (qs f s F) ∷ []) (var 0 ⊕ var 1 ⊖ neg (var 2)) (var 1 ⊕ (var 0 ⊕ var 2)) tt ∙ sym (sums f)

        finish : (M : R) × Reg M × (n : ℤ) × (pos 0 <ℤ n) × ((Q : Form) → rise (sp.val Q) o ≡ n *ℤ func M Q) → (k : Cell t (x ∷ S) s) × (k.w ≡ x)
        finish g = last (t.decide (g.0))
          where
            wall_at : g.2 *ℤ func (g.0) W ≡ pos 0
            wall_at = sym (g.4 W) ∙ rise_is (sp.val W) ∙ zero

            last : Dec (g.0 ≡ N) → (k : Cell t (x ∷ S) s) × (k.w ≡ x)
            last (no n) = absurd (omega (arith, ints, wall_at, mul_pos_z (g.2) (func (g.0) W) (g.3) (t.wall_pos (g.0) (g.1) n)))
            last (yes q) = (
              record {
                p = k;
                w = x;
                F = F;
                all = all;
                mem_p = mem_k;
                mem_w = mem_x;
                p_pos = k_pos;
                w_pos = pos_x;
                flat = fl;
                factor = g.2;
                factor_pos = g.3;
                multiple = λ Q. sym (rise_is (sp.val Q)) ∙ g.4 Q ∙ ap (λ y. g.2 *ℤ func y Q) q;
              },
              refl,
            )

pub cell-of : {P Form R : Type 0} → {sp : Space P Form} → {Mem : List P → Type 0} → {Reg : R → Type 0} → {func : R → Form → ℤ} → {N : R} → {A W : Form} → (t : Tri sp Mem Reg func N A W) → (S : List P) → Mem S → (x : P) → (In sp.dec x S → ⊥) → (s : P → ℤ) → pos 0 <ℤ s x → ((j : ℕ) → qs (sp.hom j) s (x ∷ S) ≡ pos 0) → qs (sp.val W) s (x ∷ S) ≡ pos 0 → Cell t (x ∷ S) s
cell-of t S mem x out s pos_x fl zero = (outer-cell t S mem x out s pos_x fl zero).0

-- ---- what a cell knows

pub cell-distinct : {P Form R : Type 0} → {sp : Space P Form} → {Mem : List P → Type 0} → {Reg : R → Type 0} → {func : R → Form → ℤ} → {N : R} → {A W : Form} → (t : Tri sp Mem Reg func N A W) → {V : List P} → {s : P → ℤ} → Cell t V s → Distinct sp.dec V
cell-distinct {P} {Form} {R} {sp} {Mem} {Reg} {func} {N} {A} {W} t {V} {s} k = distinct-alike (distinct-cons k.p (k.w ∷ k.F) (t.simp (k.w ∷ k.F) k.mem_w).distinct out) (alike-sym k.all)
  where
    fl : (j : ℕ) → s k.p *ℤ sp.hom j k.p +ℤ (s k.w *ℤ sp.hom j k.w +ℤ qs (sp.hom j) s k.F) ≡ pos 0
    fl j = ap (λ y. s k.p *ℤ sp.hom j k.p +ℤ y) (sym (qs-cons (sp.hom j) s k.w k.F)) ∙ sym (alike-qs (sp.hom j) s k.p k.all) ∙ k.flat j

    other : k.p ≡ k.w → ⊥
    other e = omega (arith, ints, k.p_pos, k.w_pos, (free-head (t.simp (k.w ∷ k.F) k.mem_w) (s k.p +ℤ s k.w) s (λ j. ring_by ((s k.p) ∷ (s k.w) ∷ (sp.hom j k.w) ∷ (qs (sp.hom j) s k.F) ∷ []) ((var 0 ⊕ var 1) ⊗ var 2 ⊕ var 3) (num (pos 0)) (num (pos 1)) (var 0 ⊗ var 2 ⊕ (var 1 ⊗ var 2 ⊕ var 3)) (num (pos 0)) tt (ap (λ y. s k.p *ℤ sp.hom j y +ℤ (s k.w *ℤ sp.hom j k.w +ℤ qs (sp.hom j) s k.F)) (sym e) ∙ fl j))).0)

    out : In sp.dec k.p (k.w ∷ k.F) → ⊥
    out i = elim (in-cases sp.dec k.p k.w k.F i) [ inl e ↦ other e | inr h ↦ distinct-out (t.simp (k.p ∷ k.F) k.mem_p).distinct h ]

-- all dependencies are multiples of s
pub parallel : {P Form R : Type 0} → {sp : Space P Form} → {Mem : List P → Type 0} → {Reg : R → Type 0} → {func : R → Form → ℤ} → {N : R} → {A W : Form} → (t : Tri sp Mem Reg func N A W) → {V : List P} → {s : P → ℤ} → Cell t V s → (r : P → ℤ) → ((j : ℕ) → qs (sp.hom j) r V ≡ pos 0) → (u v : P) → In sp.dec u V → In sp.dec v V → s u *ℤ r v ≡ r u *ℤ s v
parallel {P} {Form} {R} {sp} {Mem} {Reg} {func} {N} {A} {W} t {V} {s} k r fl u v iu iv = cancel_nonzero_z (s k.p) (s u *ℤ r v) (r u *ℤ s v) (λ q. omega (arith, ints, k.p_pos, q))
    (ring_by_two ((s k.p) ∷ (r k.p) ∷ (s u) ∷ (s v) ∷ (r u) ∷ (r v) ∷ []) (var 0 ⊗ (var 2 ⊗ var 5)) (var 0 ⊗ (var 4 ⊗ var 3)) (var 2) (var 0 ⊗ var 5) (var 1 ⊗ var 3) (neg (var 3)) (var 0 ⊗ var 4) (var 1 ⊗ var 2) tt (base v iv) (base u iu))
  where
    d : P → ℤ
    d y = s k.p *ℤ r y -ℤ r k.p *ℤ s y

    at_p : d k.p ≡ pos 0
    at_p = ring ((s k.p) ∷ (r k.p) ∷ []) (var 0 ⊗ var 1 ⊖ var 1 ⊗ var 0) (num (pos 0)) tt

    sum : (j : ℕ) → qs (sp.hom j) d V ≡ pos 0
    sum j = qs-off (sp.hom j) r s (s k.p) (r k.p) V ∙ ap₂ (λ y z. s k.p *ℤ y -ℤ r k.p *ℤ z) (fl j) (k.flat j) ∙ ring ((s k.p) ∷ (r k.p) ∷ []) (var 0 ⊗ num (pos 0) ⊖ var 1 ⊗ num (pos 0)) (num (pos 0)) tt

    rest : (j : ℕ) → qs (sp.hom j) d (k.w ∷ k.F) ≡ pos 0
    rest j = ring_by_two ((d k.p) ∷ (sp.hom j k.p) ∷ (qs (sp.hom j) d (k.w ∷ k.F)) ∷ []) (var 2) (num (pos 0)) (num (pos 1)) (var 0 ⊗ var 1 ⊕ var 2) (num (pos 0)) (neg (var 1)) (var 0) (num (pos 0)) tt (sym (alike-qs (sp.hom j) d k.p k.all) ∙ sum j) (at_p)

    zero : (y : P) → (y ≡ k.p) ⊎ In sp.dec y (k.w ∷ k.F) → d y ≡ pos 0
    zero y (inl e) = ap d e ∙ at_p
    zero y (inr i) = (t.simp (k.w ∷ k.F) k.mem_w).free d rest y i

    base : (y : P) → In sp.dec y V → s k.p *ℤ r y ≡ r k.p *ℤ s y
    base y i = ring_by ((s k.p) ∷ (r k.p) ∷ (r y) ∷ (s y) ∷ []) (var 0 ⊗ var 2) (var 1 ⊗ var 3) (num (pos 1)) (var 0 ⊗ var 2 ⊖ var 1 ⊗ var 3) (num (pos 0)) tt (zero y (in-cases sp.dec y k.p (k.w ∷ k.F) (in-alike i k.all)))

pub parallel-sum : {P Form R : Type 0} → {sp : Space P Form} → {Mem : List P → Type 0} → {Reg : R → Type 0} → {func : R → Form → ℤ} → {N : R} → {A W : Form} → (t : Tri sp Mem Reg func N A W) → {V : List P} → {s : P → ℤ} → Cell t V s → (r : P → ℤ) → ((j : ℕ) → qs (sp.hom j) r V ≡ pos 0) → (u : P) → In sp.dec u V → (q : P → ℤ) → s u *ℤ qs q r V ≡ r u *ℤ qs q s V
parallel-sum {P} {Form} {R} {sp} {Mem} {Reg} {func} {N} {A} {W} t {V} {s} k r fl u iu q = sym (qs-scale q r (s u) V) ∙ qs-same sp.dec q (λ v. s u *ℤ r v) (λ v. r u *ℤ s v) V (λ v iv. parallel t k r fl u v iu iv) ∙ qs-scale q s (r u) V

pub cell-wall : {P Form R : Type 0} → {sp : Space P Form} → {Mem : List P → Type 0} → {Reg : R → Type 0} → {func : R → Form → ℤ} → {N : R} → {A W : Form} → (t : Tri sp Mem Reg func N A W) → {V : List P} → {s : P → ℤ} → Cell t V s → qs (sp.val W) s V ≡ pos 0
cell-wall {P} {Form} {R} {sp} {Mem} {Reg} {func} {N} {A} {W} t {V} {s} k = k.multiple W ∙ ap (λ y. k.factor *ℤ y) t.wall_zero ∙ ring (k.factor ∷ []) (var 0 ⊗ num (pos 0)) (num (pos 0)) tt

pub cell-rise : {P Form R : Type 0} → {sp : Space P Form} → {Mem : List P → Type 0} → {Reg : R → Type 0} → {func : R → Form → ℤ} → {N : R} → {A W : Form} → (t : Tri sp Mem Reg func N A W) → {V : List P} → {s : P → ℤ} → Cell t V s → pos 0 <ℤ qs (sp.val A) s V
cell-rise {P} {Form} {R} {sp} {Mem} {Reg} {func} {N} {A} {W} t {V} {s} k = omega (arith, ints, k.multiple A, mul_pos_z k.factor (func N A) k.factor_pos (t.rises N t.facet))

pub in-p : {P Form R : Type 0} → {sp : Space P Form} → {Mem : List P → Type 0} → {Reg : R → Type 0} → {func : R → Form → ℤ} → {N : R} → {A W : Form} → (t : Tri sp Mem Reg func N A W) → {V : List P} → {s : P → ℤ} → (k : Cell t V s) → In sp.dec k.p V
in-p {P} {Form} {R} {sp} {Mem} {Reg} {func} {N} {A} {W} t {V} {s} k = in-alike (in-head sp.dec k.p (k.w ∷ k.F)) (alike-sym k.all)

-- each dependency has the sum 0 at W
pub dep-wall : {P Form R : Type 0} → {sp : Space P Form} → {Mem : List P → Type 0} → {Reg : R → Type 0} → {func : R → Form → ℤ} → {N : R} → {A W : Form} → (t : Tri sp Mem Reg func N A W) → {V : List P} → {s : P → ℤ} → Cell t V s → (r : P → ℤ) → ((j : ℕ) → qs (sp.hom j) r V ≡ pos 0) → qs (sp.val W) r V ≡ pos 0
dep-wall {P} {Form} {R} {sp} {Mem} {Reg} {func} {N} {A} {W} t {V} {s} k r fl = cancel_nonzero_z (s k.p) (qs (sp.val W) r V) (pos 0) (λ q. omega (arith, ints, k.p_pos, q))
    (parallel-sum t k r fl k.p (in-p t k) (sp.val W) ∙ ap (λ y. r k.p *ℤ y) (cell-wall t k) ∙ ring ((r k.p) ∷ (s k.p) ∷ []) (var 0 ⊗ num (pos 0)) (var 1 ⊗ num (pos 0)) tt)

-- the cell without a point: where its coefficient isn't 0 the rest is independent
pub cell-simp : {P Form R : Type 0} → {sp : Space P Form} → {Mem : List P → Type 0} → {Reg : R → Type 0} → {func : R → Form → ℤ} → {N : R} → {A W : Form} → (t : Tri sp Mem Reg func N A W) → {V : List P} → {s : P → ℤ} → Cell t V s → (i : P) (S : List P) → Alike V (i ∷ S) → s i ≢ pos 0 → Simp sp S
cell-simp {P} {Form} {R} {sp} {Mem} {Reg} {func} {N} {A} {W} t {V} {s} k i S al nz = record { distinct = distinct-tail dist; free = free }
  where
    dist : Distinct sp.dec (i ∷ S)
    dist = distinct-alike (cell-distinct t k) al

    out : In sp.dec i S → ⊥
    out = distinct-out dist

    in_i : In sp.dec i V
    in_i = in-alike (in-head sp.dec i S) (alike-sym al)

    free : (r : P → ℤ) → ((j : ℕ) → qs (sp.hom j) r S ≡ pos 0) → (v : P) → In sp.dec v S → r v ≡ pos 0
    free r z v iv = cancel_nonzero_z (s i) (r v) (pos 0) nz (ap (λ y. s i *ℤ y) (sym (upd-off sp.dec i (pos 0) r v (differ v out iv))) ∙ parallel t k (upd sp.dec i (pos 0) r) fl i v in_i (in-alike (in-tail sp.dec v i S iv) (alike-sym al)) ∙ ap (λ y. y *ℤ s v) (upd-at sp.dec i (pos 0) r) ∙ ring ((s v) ∷ (s i) ∷ []) (num (pos 0) ⊗ var 0) (var 1 ⊗ num (pos 0)) tt)
      where
        fl : (j : ℕ) → qs (sp.hom j) (upd sp.dec i (pos 0) r) V ≡ pos 0
        fl j = al.same (sp.hom j) (upd sp.dec i (pos 0) r) ∙ upd-cons sp.dec i (pos 0) r (sp.hom j) S out ∙ ap (λ y. pos 0 *ℤ sp.hom j i +ℤ y) (z j) ∙ ring ((sp.hom j i) ∷ []) (num (pos 0) ⊗ var 0 ⊕ num (pos 0)) (num (pos 0)) tt

-- the dependency at a point of the cell
pub cell-at : {P Form R : Type 0} → {sp : Space P Form} → {Mem : List P → Type 0} → {Reg : R → Type 0} → {func : R → Form → ℤ} → {N : R} → {A W : Form} → (t : Tri sp Mem Reg func N A W) → {V : List P} → {s : P → ℤ} → Cell t V s → (i : P) (S : List P) → Alike V (i ∷ S) → (j : ℕ) → s i *ℤ sp.hom j i +ℤ qs (sp.hom j) s S ≡ pos 0
cell-at {P} {Form} {R} {sp} {Mem} {Reg} {func} {N} {A} {W} t {V} {s} k i S al j = sym (alike-qs (sp.hom j) s i al) ∙ k.flat j

-- a simplex of a cell that leaves out a point with a positive number is a member
pub cell-member : {P Form R : Type 0} → {sp : Space P Form} → {Mem : List P → Type 0} → {Reg : R → Type 0} → {func : R → Form → ℤ} → {N : R} → {A W : Form} → (t : Tri sp Mem Reg func N A W) → {V : List P} → {s : P → ℤ} → Cell t V s → (i : P) (S : List P) → Alike V (i ∷ S) → pos 0 <ℤ s i → Mem S
cell-member {P} {Form} {R} {sp} {Mem} {Reg} {func} {N} {A} {W} t {V} {s} k i S al pi = go (in-cases sp.dec i k.p (k.w ∷ k.F) (in-alike (in-head sp.dec i S) (alike-trans (alike-sym al) k.all)))
  where
    go : (i ≡ k.p) ⊎ In sp.dec i (k.w ∷ k.F) → Mem S
    go (inl e) = t.alike k.mem_w (alike-cancel k.p (alike-trans (alike-sym k.all) (subst (λ y. Alike V (y ∷ S)) e al)))
    go (inr h) = t.alike (next-member t i G mem k.p out (s k.p) (λ v. neg_ℤ (s v)) e z (omega (arith, ints, pi))) (alike-sym (alike-both k.p i k.all (f.1) al))
      where
        f : (G : List P) × Alike (k.w ∷ k.F) (i ∷ G)
        f = front sp.dec i (k.w ∷ k.F) h

        G : List P
        G = f.0

        mem : Mem (i ∷ G)
        mem = t.alike k.mem_w (f.1)

        al' : Alike V (k.p ∷ i ∷ G)
        al' = alike-trans k.all (alike-cons k.p (f.1))

        out : In sp.dec k.p (i ∷ G) → ⊥
        out = distinct-out (distinct-alike (cell-distinct t k) al')

        e : Expr sp k.p (i ∷ G) (s k.p) (λ v. neg_ℤ (s v))
        e = dep-expr sp k.p (i ∷ G) s k.p_pos (cell-at t k k.p (i ∷ G) al')

        z : excess (sp.val W) k.p (i ∷ G) (s k.p) (λ v. neg_ℤ (s v)) ≡ pos 0
        z = dep-excess (sp.val W) k.p (i ∷ G) s ∙ sym (alike-qs (sp.val W) s k.p al') ∙ cell-wall t k

-- excesses at W over two simplices of a cell
pub cell-same : {P Form R : Type 0} → {sp : Space P Form} → {Mem : List P → Type 0} → {Reg : R → Type 0} → {func : R → Form → ℤ} → {N : R} → {A W : Form} → (t : Tri sp Mem Reg func N A W) → {V : List P} → {s : P → ℤ} → Cell t V s → (i j : P) (S S' : List P) → Alike V (i ∷ S) → Alike V (j ∷ S') → (x : P) (c c' : ℤ) (b b' : P → ℤ) →
    ((l : ℕ) → c *ℤ sp.hom l x ≡ qs (sp.hom l) b S) → ((l : ℕ) → c' *ℤ sp.hom l x ≡ qs (sp.hom l) b' S') → c' *ℤ excess (sp.val W) x S c b ≡ c *ℤ excess (sp.val W) x S' c' b'
cell-same {P} {Form} {R} {sp} {Mem} {Reg} {func} {N} {A} {W} t {V} {s} k i j S S' al al' x c c' b b' e e' =
    ap (λ y. c' *ℤ y) (excess-is (sp.val W) x S c b) ∙ ring_by (c ∷ c' ∷ (sp.val W x) ∷ (qs (sp.val W) b S) ∷ (qs (sp.val W) b' S') ∷ []) (var 1 ⊗ (var 0 ⊗ var 2 ⊖ var 3)) (var 0 ⊗ (var 1 ⊗ var 2 ⊖ var 4)) (neg (num (pos 1))) (var 1 ⊗ var 3 ⊖ var 0 ⊗ var 4) (num (pos 0)) tt (sym (sums (sp.val W)) ∙ dep-wall t k r fl) ∙ ap (λ y. c *ℤ y) (sym (excess-is (sp.val W) x S' c' b'))
  where
    dist : Distinct sp.dec V
    dist = cell-distinct t k

    r1 : P → ℤ
    r1 = upd sp.dec i (pos 0) b

    r2 : P → ℤ
    r2 = upd sp.dec j (pos 0) b'

    r : P → ℤ
    r v = c' *ℤ r1 v -ℤ c *ℤ r2 v

    one : (f : P → ℤ) → qs f r1 V ≡ qs f b S
    one f = al.same f r1 ∙ upd-cons sp.dec i (pos 0) b f S (distinct-out (distinct-alike dist al)) ∙ ring ((f i) ∷ (qs f b S) ∷ []) (num (pos 0) ⊗ var 0 ⊕ var 1) (var 1) tt

    two : (f : P → ℤ) → qs f r2 V ≡ qs f b' S'
    two f = al'.same f r2 ∙ upd-cons sp.dec j (pos 0) b' f S' (distinct-out (distinct-alike dist al')) ∙ ring ((f j) ∷ (qs f b' S') ∷ []) (num (pos 0) ⊗ var 0 ⊕ var 1) (var 1) tt

    sums : (f : P → ℤ) → qs f r V ≡ c' *ℤ qs f b S -ℤ c *ℤ qs f b' S'
    sums f = qs-off f r1 r2 c' c V ∙ ap₂ (λ y z. c' *ℤ y -ℤ c *ℤ z) (one f) (two f)

    fl : (l : ℕ) → qs (sp.hom l) r V ≡ pos 0
    fl l = sums (sp.hom l) ∙ ring_by_two (c ∷ c' ∷ (sp.hom l x) ∷ (qs (sp.hom l) b S) ∷ (qs (sp.hom l) b' S') ∷ []) (var 1 ⊗ var 3 ⊖ var 0 ⊗ var 4) (num (pos 0)) (neg (var 1)) (var 0 ⊗ var 2) (var 3) (var 0) (var 1 ⊗ var 2) (var 4) tt (e l) (e' l)

-- the excess over the member V - p, at the common scale
base : {P Form R : Type 0} → {sp : Space P Form} → {Mem : List P → Type 0} → {Reg : R → Type 0} → {func : R → Form → ℤ} → {N : R} → {A W : Form} → (t : Tri sp Mem Reg func N A W) → {V : List P} → {s : P → ℤ} → (k : Cell t V s) (x : P) → (a : P → ℤ) × Expr sp x (k.w ∷ k.F) t.scale a
base {P} {Form} {R} {sp} {Mem} {Reg} {func} {N} {A} {W} t {V} {s} k x = let a = t.coords (k.w ∷ k.F) k.mem_w x in (a.0, record { positive = t.scale_pos; is = a.1 })

pub cell-weak : {P Form R : Type 0} → {sp : Space P Form} → {Mem : List P → Type 0} → {Reg : R → Type 0} → {func : R → Form → ℤ} → {N : R} → {A W : Form} → (t : Tri sp Mem Reg func N A W) → {V : List P} → {s : P → ℤ} → Cell t V s → (i : P) (S : List P) → Alike V (i ∷ S) → Weak sp (sp.val W) S
cell-weak {P} {Form} {R} {sp} {Mem} {Reg} {func} {N} {A} {W} t {V} {s} k i S al = record {
  outside = λ x c b e.
      let a = base t k x in
      let n : pos 0 ≤ℤ excess (sp.val W) x (k.w ∷ k.F) t.scale (a.0) = (wall-weak t W (its-wall t) (k.w ∷ k.F) k.mem_w).outside x t.scale (a.0) (a.1) in
      let y : ℤ = excess (sp.val W) x S c b in
      let q : t.scale *ℤ y ≡ c *ℤ excess (sp.val W) x (k.w ∷ k.F) t.scale (a.0) = cell-same t k i k.p S (k.w ∷ k.F) al k.all x c t.scale b (a.0) e.is (a.1).is in
      by_lt_z y (pos 0) (λ l. absurd (omega (arith, ints, mul_nonneg_z c (excess (sp.val W) x (k.w ∷ k.F) t.scale (a.0)) (omega (arith, ints, e.positive)) n, q, mul_neg_pos y t.scale l t.scale_pos, ring (t.scale ∷ y ∷ []) (var 0 ⊗ var 1) (var 1 ⊗ var 0) tt))) (λ g. g);
}

pub cell-zeros : {P Form R : Type 0} → {sp : Space P Form} → {Mem : List P → Type 0} → {Reg : R → Type 0} → {func : R → Form → ℤ} → {N : R} → {A W : Form} → (t : Tri sp Mem Reg func N A W) → {V : List P} → {s : P → ℤ} → Cell t V s → (i : P) (S : List P) → Alike V (i ∷ S) → (x : P) (c : ℤ) (b : P → ℤ) → Expr sp x S c b → excess (sp.val W) x S c b ≡ pos 0 → In sp.dec x V
cell-zeros {P} {Form} {R} {sp} {Mem} {Reg} {func} {N} {A} {W} t {V} {s} k i S al x c b e z = in-alike (go (in-or sp.dec x (k.w ∷ k.F))) (alike-sym k.all)
  where
    a : (a : P → ℤ) × Expr sp x (k.w ∷ k.F) t.scale a
    a = base t k x

    out : In sp.dec k.p (k.w ∷ k.F) → ⊥
    out = distinct-out (distinct-alike (cell-distinct t k) k.all)

    at_p : (j : ℕ) → s k.p *ℤ sp.hom j k.p +ℤ qs (sp.hom j) s (k.w ∷ k.F) ≡ pos 0
    at_p = cell-at t k k.p (k.w ∷ k.F) k.all

    zero_x : excess (sp.val W) x (k.w ∷ k.F) t.scale (a.0) ≡ pos 0
    zero_x = cancel_nonzero_z c (excess (sp.val W) x (k.w ∷ k.F) t.scale (a.0)) (pos 0) (λ q. omega (arith, ints, e.positive, q)) (sym (cell-same t k i k.p S (k.w ∷ k.F) al k.all x c t.scale b (a.0) e.is (a.1).is) ∙ ap (λ y. t.scale *ℤ y) z ∙ ring (t.scale ∷ c ∷ []) (var 0 ⊗ num (pos 0)) (var 1 ⊗ num (pos 0)) tt)

    go : In sp.dec x (k.w ∷ k.F) ⊎ (In sp.dec x (k.w ∷ k.F) → ⊥) → In sp.dec x (k.p ∷ k.w ∷ k.F)
    go (inl h) = in-tail sp.dec x k.p (k.w ∷ k.F) h
    go (inr n) = subst (λ y. In sp.dec y (k.p ∷ k.w ∷ k.F)) (one-outside t (k.w ∷ k.F) k.mem_w k.p x out n (s k.p) t.scale (λ v. neg_ℤ (s v)) (a.0) (dep-expr sp k.p (k.w ∷ k.F) s k.p_pos at_p) (a.1) (dep-excess (sp.val W) k.p (k.w ∷ k.F) s ∙ sym (alike-qs (sp.val W) s k.p k.all) ∙ cell-wall t k) zero_x) (in-head sp.dec k.p (k.w ∷ k.F))

-- the point left out is on the ellipsoid of the rest
pub cell-own : {P Form R : Type 0} → {sp : Space P Form} → {Mem : List P → Type 0} → {Reg : R → Type 0} → {func : R → Form → ℤ} → {N : R} → {A W : Form} → (t : Tri sp Mem Reg func N A W) → {V : List P} → {s : P → ℤ} → Cell t V s → (i : P) (S : List P) → Alike V (i ∷ S) → s i ≢ pos 0 → (c : ℤ) × (b : P → ℤ) × Expr sp i S c b × (excess (sp.val W) i S c b ≡ pos 0)
cell-own {P} {Form} {R} {sp} {Mem} {Reg} {func} {N} {A} {W} t {V} {s} k i S al nz = go (sign (s i) nz)
  where
    zero : s i *ℤ sp.val W i +ℤ qs (sp.val W) s S ≡ pos 0
    zero = sym (alike-qs (sp.val W) s i al) ∙ cell-wall t k

    go : (s i <ℤ pos 0) ⊎ (pos 0 <ℤ s i) → (c : ℤ) × (b : P → ℤ) × Expr sp i S c b × (excess (sp.val W) i S c b ≡ pos 0)
    go (inl l) = (neg_ℤ (s i), s, neg-expr sp i S s l (cell-at t k i S al), neg-excess (sp.val W) i S s ∙ ap neg_ℤ zero)
    go (inr l) = (s i, λ v. neg_ℤ (s v), dep-expr sp i S s l (cell-at t k i S al), dep-excess (sp.val W) i S s ∙ zero)

-- a simplex is in one cell
pub cell-one : {P Form R : Type 0} → {sp : Space P Form} → {Mem : List P → Type 0} → {Reg : R → Type 0} → {func : R → Form → ℤ} → {N : R} → {A W : Form} → (t : Tri sp Mem Reg func N A W) → {V V' : List P} → {s s' : P → ℤ} → Cell t V s → Cell t V' s' → (i j : P) (S : List P) → Alike V (i ∷ S) → Alike V' (j ∷ S) → s i ≢ pos 0 → i ≡ j
cell-one {P} {Form} {R} {sp} {Mem} {Reg} {func} {N} {A} {W} t {V} {V'} {s} {s'} k k' i j S al al' nz =
    let o = cell-own t k i S al nz in
    elim (in-cases sp.dec i j S (in-alike (cell-zeros t k' j S al' i (o.0) (o.1) (o.2) (o.3)) al')) [ inl e ↦ e | inr h ↦ absurd (distinct-out (distinct-alike (cell-distinct t k) al) h) ]

-- ---- kept and new

pub record Out {P Form R : Type 0} {sp : Space P Form} {Mem : List P → Type 0} {Reg : R → Type 0} {func : R → Form → ℤ} {N : R} {A W : Form} (t : Tri sp Mem Reg func N A W) (S : List P) : Type 0 where
  pub V : List P
  pub s : P → ℤ
  pub i : P
  pub cell : Cell t V s
  pub above : pos 0 <ℤ s i
  pub rest : Alike V (i ∷ S)

pub record Kept {P Form R : Type 0} {sp : Space P Form} {Mem : List P → Type 0} {Reg : R → Type 0} {func : R → Form → ℤ} {N : R} {A W : Form} (t : Tri sp Mem Reg func N A W) (S : List P) : Type 0 where
  pub mem : Mem S
  pub none : Out t S → ⊥

pub record New {P Form R : Type 0} {sp : Space P Form} {Mem : List P → Type 0} {Reg : R → Type 0} {func : R → Form → ℤ} {N : R} {A W : Form} (t : Tri sp Mem Reg func N A W) (S : List P) : Type 0 where
  pub V : List P
  pub s : P → ℤ
  pub u : P
  pub cell : Cell t V s
  pub below : s u <ℤ pos 0
  pub rest : Alike V (u ∷ S)

-- a neighbour at which W rises
record Rising {P Form R : Type 0} {sp : Space P Form} {Mem : List P → Type 0} {Reg : R → Type 0} {func : R → Form → ℤ} {N : R} {A W : Form} (t : Tri sp Mem Reg func N A W) (S : List P) (v : P) : Type 0 where
  F : List P
  al : Alike S (v ∷ F)
  w : P
  mem : Mem (w ∷ F)
  opp : Opp sp v w F
  above : pos 0 <ℤ rise (sp.val W) opp

pub kept-or-out : {P Form R : Type 0} → {sp : Space P Form} → {Mem : List P → Type 0} → {Reg : R → Type 0} → {func : R → Form → ℤ} → {N : R} → {A W : Form} → (t : Tri sp Mem Reg func N A W) → (S : List P) → Mem S → Kept t S ⊎ Out t S
kept-or-out {P} {Form} {R} {sp} {Mem} {Reg} {func} {N} {A} {W} t S mem = go (each sp.dec (Out t S) (Rising t S) S look)
  where
    look : (v : P) → In sp.dec v S → Out t S ⊎ Rising t S v
    look v iv = by_lt_z (pos 0) (rise q o) (λ l. inr (record { F = F; al = f.1; w = w; mem = n.1; opp = o; above = l })) (λ g. inl (found g))
      where
        q : P → ℤ
        q = sp.val W

        f : (F : List P) × Alike S (v ∷ F)
        f = front sp.dec v S iv

        F : List P
        F = f.0

        mv : Mem (v ∷ F)
        mv = t.alike mem (f.1)

        n : (w : P) × Mem (w ∷ F) × Opp sp v w F
        n = t.closed v F mv

        w : P
        w = n.0

        o : Opp sp v w F
        o = n.2

        sv : Simp sp (v ∷ F)
        sv = t.simp (v ∷ F) mv

        out_w : In sp.dec w F → ⊥
        out_w = distinct-out (t.simp (w ∷ F) (n.1)).distinct

        out_v : In sp.dec v F → ⊥
        out_v = distinct-out sv.distinct

        out : In sp.dec w (v ∷ F) → ⊥
        out = opp-out sv out_w o

        s : P → ℤ
        s = upd sp.dec w o.c (upd sp.dec v o.m (λ y. neg_ℤ (o.bs y)))

        sums : (f : P → ℤ) → qs f s (w ∷ v ∷ F) ≡ (o.c *ℤ f w +ℤ o.m *ℤ f v) -ℤ qs f o.bs F
        sums f = upd-cons sp.dec w o.c (upd sp.dec v o.m (λ y. neg_ℤ (o.bs y))) f (v ∷ F) out ∙ ap (λ y. o.c *ℤ f w +ℤ y) (upd-cons sp.dec v o.m (λ y. neg_ℤ (o.bs y)) f F out_v ∙ ap (λ y. o.m *ℤ f v +ℤ y) (qs-minus f o.bs F)) ∙ ring ((o.c *ℤ f w) ∷ (o.m *ℤ f v) ∷ (qs f o.bs F) ∷ []) (var 0 ⊕ (var 1 ⊕ neg (var 2))) (var 0 ⊕ var 1 ⊖ var 2) tt

        up : pos 0 ≤ℤ rise q o
        up = subst (λ y. pos 0 ≤ℤ y) (opp-excess sv o q) ((wall-weak t W (its-wall t) (v ∷ F) mv).outside w o.c (upd sp.dec v (neg_ℤ o.m) o.bs) (opp-expr sv o))

        found : rise q o ≤ℤ pos 0 → Out t S
        found g = record {
          V = w ∷ v ∷ F;
          s = s;
          i = w;
          above = subst (λ y. pos 0 <ℤ y) (sym (upd-at sp.dec w o.c (upd sp.dec v o.m (λ y. neg_ℤ (o.bs y))))) o.c_pos;
          rest = alike-cons w (alike-sym (f.1));
          cell = cell-of t (v ∷ F) mv w out s (subst (λ y. pos 0 <ℤ y) (sym (upd-at sp.dec w o.c (upd sp.dec v o.m (λ y. neg_ℤ (o.bs y))))) o.c_pos)
              (λ j. sums (sp.hom j) ∙ ap (λ y. y -ℤ qs (sp.hom j) o.bs F) (o.flat j) ∙ ring ((qs (sp.hom j) o.bs F) ∷ []) (var 0 ⊖ var 0) (num (pos 0)) tt)
              (sums q ∙ sym (rise-is q o) ∙ omega (arith, ints, up, g));
        }

    go : Out t S ⊎ ((v : P) → In sp.dec v S → Rising t S v) → Kept t S ⊎ Out t S
    go (inl o) = inr o
    go (inr h) = inl (record { mem = mem; none = none })
      where
        none : Out t S → ⊥
        none o = end (negative sp.dec b S)
          where
            b : P → ℤ
            b v = neg_ℤ (o.s v)

            e : Expr sp o.i S (o.s o.i) b
            e = dep-expr sp o.i S o.s o.above (cell-at t o.cell o.i S o.rest)

            z : excess (sp.val W) o.i S (o.s o.i) b ≡ pos 0
            z = dep-excess (sp.val W) o.i S o.s ∙ sym (alike-qs (sp.val W) o.s o.i o.rest) ∙ cell-wall t o.cell

            out : In sp.dec o.i S → ⊥
            out = distinct-out (distinct-alike (cell-distinct t o.cell) o.rest)

            end : ((k : P) × (F : List P) × Alike S (k ∷ F) × (b k <ℤ pos 0)) ⊎ ((v : P) → In sp.dec v S → pos 0 ≤ℤ b v) → ⊥
            end (inr nn) = out (inner sp A t.definite o.i S (o.s o.i) b e nn ((t.strict S mem).weak.outside o.i (o.s o.i) b e))
            end (inl r) = let g = h (r.0) (in-alike (in-head sp.dec (r.0) (r.1)) (alike-sym (r.2))) in
                omega (arith, ints, g.above, (beyond t (r.0) g.F (t.alike mem g.al) o.i (λ i. out (in-alike i (alike-sym g.al))) (o.s o.i) b (expr-alike e g.al) (sym (excess-alike (sp.val W) o.i (o.s o.i) b g.al) ∙ z) (r.3) g.w g.mem g.opp).1)
