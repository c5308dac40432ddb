-- The wall forms of a Delaunay triangulation: pressing, and positive definiteness.
use Rattle.std.proofs.Common.{List, [], ◌∷◌, ◌≡◌, ◌≢◌, ℕ, sym, ◌∙◌, ap, ap₂, subst, arith, ℤ, pos, negsuc, neg_ℤ, ◌+ℤ◌, ◌-ℤ◌, ◌*ℤ◌, ◌<ℤ◌, ◌≤ℤ◌}
use Rattle.std.proofs.lemmas.Int.{ints, by_lt_z}
use Rattle.lt_model.proofs.Ring.{ring, ring_by, ring_by_two, var, num, neg, ◌⊕◌, ◌⊖◌, ◌⊗◌}
use Rattle.lt_walls.proofs.Sums.{qs}
use Rattle.lt_model.proofs.Inequalities.{mul_nonneg_z, cancel_nonzero_z}
use Rattle.lt_walls.proofs.Lists.{Alike}
use Rattle.lt_walls.proofs.Space.{Space, Probe, Simp, Weak, Strict, Definite, excess, excess-mixed, Opp, rise}

-- A Delaunay triangulation of the form A, whose placed simplices are the Mem, whose regulators are the Reg with the values at forms func, and a wall form W of its regulator N
pub record Tri {P Form R : Type 0} (sp : Space P Form) (Mem : List P → Type 0) (Reg : R → Type 0) (func : R → Form → ℤ) (N : R) (A W : Form) : Type 0 where
  pub alike : {S S' : List P} → Mem S → Alike S S' → Mem S'
  pub simp : (S : List P) → Mem S → Simp sp S
  -- one scale for all points over all members
  pub scale : ℤ
  pub scale_pos : pos 0 <ℤ scale
  pub coords : (S : List P) → Mem S → (x : P) → (a : P → ℤ) × ((j : ℕ) → scale *ℤ sp.hom j x ≡ qs (sp.hom j) a S)
  pub closed : (p : P) (F : List P) → Mem (p ∷ F) → (w : P) × Mem (w ∷ F) × Opp sp p w F
  pub strict : (S : List P) → Mem S → Strict sp (sp.val A) S
  pub definite : Definite sp A
  pub linear : (M : R) (m : ℤ) (B : Form) (n : ℤ) (C : Form) → func M (sp.mix m B n C) ≡ m *ℤ func M B +ℤ n *ℤ func M C
  -- finitely many regulators: for each form some m makes m W +- B positive at all of them but N
  pub bound : (B : Form) → (m : ℤ) × (pos 0 <ℤ m) × ((M : R) → Reg M → M ≢ N → (pos 0 <ℤ (m *ℤ func M W +ℤ func M B)) × (pos 0 <ℤ (m *ℤ func M W -ℤ func M B)))
  -- the regulator of a pair of members with a common facet
  pub regular : (p w : P) (F : List P) → Mem (p ∷ F) → Mem (w ∷ F) → (o : Opp sp p w F) → (M : R) × Reg M × (k : ℤ) × (pos 0 <ℤ k) × ((Q : Form) → rise (sp.val Q) o ≡ k *ℤ func M Q)
  pub rises : (M : R) → Reg M → pos 0 <ℤ func M A
  -- local to global: where all regulators are positive, the members are empty, and no value is negative
  pub global : (Q : Form) → ((M : R) → Reg M → pos 0 <ℤ func M Q) → ((S : List P) → Mem S → Weak sp (sp.val Q) S) × ((y : P) → pos 0 ≤ℤ sp.val Q y)
  pub facet : Reg N
  pub decide : (M : R) → Dec (M ≡ N)
  -- over a member, the product of two different coordinates is the excess of a form
  pub product : (S : List P) → Mem S → (i j : P) (G : List P) → Alike S (i ∷ j ∷ G) → (Q : Form) × ((x : P) (b : P → ℤ) → ((k : ℕ) → scale *ℤ sp.hom k x ≡ qs (sp.hom k) b S) → excess (sp.val Q) x S scale b ≡ scale *ℤ (b i *ℤ b j))
  pub wall_zero : func N W ≡ pos 0
  pub wall_pos : (M : R) → Reg M → M ≢ N → pos 0 <ℤ func M W

pub record IsWall {P Form R : Type 0} {sp : Space P Form} {Mem : List P → Type 0} {Reg : R → Type 0} {func : R → Form → ℤ} {N : R} {A W : Form} (t : Tri sp Mem Reg func N A W) (V : Form) : Type 0 where
  pub zero_there : func N V ≡ pos 0
  pub others : (M : R) → Reg M → M ≢ N → pos 0 <ℤ func M V

-- u is at least 0 where m u + v is for every m from 1 on
pub limit : (u v : ℤ) → ((m : ℤ) → pos 1 ≤ℤ m → pos 0 ≤ℤ (m *ℤ u +ℤ v)) → pos 0 ≤ℤ u
limit u v h = by_lt_z u (pos 0) (λ l. by_lt_z v (pos 0) (λ n. low l n) (λ g. high l g)) (λ g. g)
  where
    low : u <ℤ pos 0 → v <ℤ pos 0 → pos 0 ≤ℤ u
    low l n = absurd (omega (arith, ints, l, n, h (pos 1) (omega (arith, ints))))

    high : u <ℤ pos 0 → pos 0 ≤ℤ v → pos 0 ≤ℤ u
    high l g =
        let p : pos 0 ≤ℤ ((v +ℤ pos 1) *ℤ (neg_ℤ u -ℤ pos 1)) = mul_nonneg_z (v +ℤ pos 1) (neg_ℤ u -ℤ pos 1) (omega (arith, ints, g)) (omega (arith, ints, l)) in
        let e : (v +ℤ pos 1) *ℤ (neg_ℤ u -ℤ pos 1) ≡ neg_ℤ ((v +ℤ pos 1) *ℤ u +ℤ v) -ℤ pos 1 = ring (u ∷ v ∷ []) ((var 1 ⊕ num (pos 1)) ⊗ (neg (var 0) ⊖ num (pos 1))) (neg ((var 1 ⊕ num (pos 1)) ⊗ var 0 ⊕ var 1) ⊖ num (pos 1)) tt in
        let q : pos 0 ≤ℤ ((v +ℤ pos 1) *ℤ u +ℤ v) = h (v +ℤ pos 1) (omega (arith, ints, g)) in
        absurd (omega (arith, ints, p, e, q))

-- every regulator is positive at m V + A
above : {P Form R : Type 0} → {sp : Space P Form} → {Mem : List P → Type 0} → {Reg : R → Type 0} → {func : R → Form → ℤ} → {N : R} → {A W : Form} → (t : Tri sp Mem Reg func N A W) (V : Form) → IsWall t V → (m : ℤ) → pos 1 ≤ℤ m →
    (M : R) → Reg M → pos 0 <ℤ func M (sp.mix m V (pos 1) A)
above {P} {Form} {R} {sp} {Mem} {Reg} {func} {N} {A} {W} t V w m g M r = go (t.decide M)
  where
    go : Dec (M ≡ N) → pos 0 <ℤ func M (sp.mix m V (pos 1) A)
    go (yes e) = omega (arith, ints, t.linear M m V (pos 1) A, t.rises M r, ring (m ∷ (func M A) ∷ []) (var 0 ⊗ num (pos 0) ⊕ num (pos 1) ⊗ var 1) (var 1) tt, ap (λ z. m *ℤ z +ℤ pos 1 *ℤ func M A) (ap (λ n. func n V) e ∙ w.zero_there))
    go (no n) = omega (arith, ints, t.linear M m V (pos 1) A, t.rises M r, ring ((func M A) ∷ []) (num (pos 1) ⊗ var 0) (var 0) tt, mul_nonneg_z m (func M V) (omega (arith, ints, g)) (omega (arith, ints, w.others M r n)))

-- a wall form is nowhere negative
pub wall-weak : {P Form R : Type 0} → {sp : Space P Form} → {Mem : List P → Type 0} → {Reg : R → Type 0} → {func : R → Form → ℤ} → {N : R} → {A W : Form} → (t : Tri sp Mem Reg func N A W) (V : Form) → IsWall t V → (S : List P) → Mem S → Weak sp (sp.val V) S
wall-weak {P} {Form} {R} {sp} {Mem} {Reg} {func} {N} {A} {W} t V w S h = record {
  outside = λ x c b e.
      limit (excess (sp.val V) x S c b) (excess (sp.val A) x S c b) (λ m g.
      let n = ((t.global (sp.mix m V (pos 1) A) (above t V w m g)).0 S h).outside x c b e in
      omega (arith, ints, n, excess-mixed sp m V (pos 1) A x S c b, ring ((excess (sp.val A) x S c b) ∷ []) (num (pos 1) ⊗ var 0) (var 0) tt));
}

pub wall-nonneg : {P Form R : Type 0} → {sp : Space P Form} → {Mem : List P → Type 0} → {Reg : R → Type 0} → {func : R → Form → ℤ} → {N : R} → {A W : Form} → (t : Tri sp Mem Reg func N A W) (V : Form) → IsWall t V → (y : P) → pos 0 ≤ℤ sp.val V y
wall-nonneg {P} {Form} {R} {sp} {Mem} {Reg} {func} {N} {A} {W} t V w y =
    limit (sp.val V y) (sp.val A y) (λ m g.
    let n = (t.global (sp.mix m V (pos 1) A) (above t V w m g)).1 y in
    omega (arith, ints, n, sp.mixed m V (pos 1) A y, ring ((sp.val A y) ∷ []) (num (pos 1) ⊗ var 0) (var 0) tt))

pub its-wall : {P Form R : Type 0} → {sp : Space P Form} → {Mem : List P → Type 0} → {Reg : R → Type 0} → {func : R → Form → ℤ} → {N : R} → {A W : Form} → (t : Tri sp Mem Reg func N A W) → IsWall t W
its-wall t = record { zero_there = t.wall_zero; others = t.wall_pos }

-- a form at which N is 0 makes wall forms with m W, on both sides
pub record Press {P Form R : Type 0} {sp : Space P Form} {Mem : List P → Type 0} {Reg : R → Type 0} {func : R → Form → ℤ} {N : R} {A W : Form} (t : Tri sp Mem Reg func N A W) (B : Form) : Type 0 where
  pub m : ℤ
  pub m_pos : pos 0 <ℤ m
  pub up : IsWall t (sp.mix m W (pos 1) B)
  pub down : IsWall t (sp.mix m W (negsuc 0) B)

pub press : {P Form R : Type 0} → {sp : Space P Form} → {Mem : List P → Type 0} → {Reg : R → Type 0} → {func : R → Form → ℤ} → {N : R} → {A W : Form} → (t : Tri sp Mem Reg func N A W) (B : Form) → func N B ≡ pos 0 → Press t B
press {P} {Form} {R} {sp} {Mem} {Reg} {func} {N} {A} {W} t B z = record {
  m = m;
  m_pos = (t.bound B).1;
  up = record { zero_there = none (pos 1); others = λ M r n. omega (arith, ints, t.linear M m W (pos 1) B, ((t.bound B).2 M r n).0, ring ((func M B) ∷ []) (num (pos 1) ⊗ var 0) (var 0) tt) };
  down = record { zero_there = none (negsuc 0); others = λ M r n. omega (arith, ints, t.linear M m W (negsuc 0) B, ((t.bound B).2 M r n).1) };
}
  where
    m : ℤ
    m = (t.bound B).0

    none : (n : ℤ) → func N (sp.mix m W n B) ≡ pos 0
    none n = t.linear N m W n B ∙ ap₂ (λ y z. m *ℤ y +ℤ n *ℤ z) t.wall_zero z ∙ ring (m ∷ n ∷ []) (var 0 ⊗ num (pos 0) ⊕ var 1 ⊗ num (pos 0)) (num (pos 0)) tt

pub record Linear {P Form : Type 0} (sp : Space P Form) (f : Form → ℤ) : Type 0 where
  pub is : (m : ℤ) (B : Form) (n : ℤ) (C : Form) → f (sp.mix m B n C) ≡ m *ℤ f B +ℤ n *ℤ f C

pub pressed-zero : {P Form R : Type 0} → {sp : Space P Form} → {Mem : List P → Type 0} → {Reg : R → Type 0} → {func : R → Form → ℤ} → {N : R} → {A W : Form} → (t : Tri sp Mem Reg func N A W) (f : Form → ℤ) → Linear sp f → ((V : Form) → IsWall t V → pos 0 ≤ℤ f V) → f W ≡ pos 0 →
    (B : Form) → func N B ≡ pos 0 → f B ≡ pos 0
pressed-zero {P} {Form} {R} {sp} {Mem} {Reg} {func} {N} {A} {W} t f lin h z B e =
    let k = press t B e in
    let m0 : k.m *ℤ f W ≡ pos 0 = ap (λ y. k.m *ℤ y) z ∙ ring (k.m ∷ []) (var 0 ⊗ num (pos 0)) (num (pos 0)) tt in
    omega (arith, ints, lin.is k.m W (pos 1) B, lin.is k.m W (negsuc 0) B, h (sp.mix k.m W (pos 1) B) k.up, h (sp.mix k.m W (negsuc 0) B) k.down, m0)

-- pressing
pub pressing : {P Form R : Type 0} → {sp : Space P Form} → {Mem : List P → Type 0} → {Reg : R → Type 0} → {func : R → Form → ℤ} → {N : R} → {A W : Form} → (t : Tri sp Mem Reg func N A W) (f : Form → ℤ) → Linear sp f → ((V : Form) → IsWall t V → pos 0 ≤ℤ f V) → f W ≡ pos 0 →
    (Q : Form) → func N A *ℤ f Q ≡ func N Q *ℤ f A
pressing {P} {Form} {R} {sp} {Mem} {Reg} {func} {N} {A} {W} t f lin h z Q =
    ring_by ((func N A) ∷ (func N Q) ∷ (f Q) ∷ (f A) ∷ (f B) ∷ []) (var 0 ⊗ var 2) (var 1 ⊗ var 3) (num (pos 1)) (var 0 ⊗ var 2 ⊕ neg (var 1) ⊗ var 3) (num (pos 0)) tt (sym (lin.is (func N A) Q (neg_ℤ (func N Q)) A) ∙ pressed-zero t f lin h z B zero)
  where
    B : Form
    B = sp.mix (func N A) Q (neg_ℤ (func N Q)) A

    zero : func N B ≡ pos 0
    zero = t.linear N (func N A) Q (neg_ℤ (func N Q)) A ∙ ring ((func N A) ∷ (func N Q) ∷ []) (var 0 ⊗ var 1 ⊕ neg (var 1) ⊗ var 0) (num (pos 0)) tt

-- a wall form is positive definite
pub wall-definite : {P Form R : Type 0} → {sp : Space P Form} → {Mem : List P → Type 0} → {Reg : R → Type 0} → {func : R → Form → ℤ} → {N : R} → {A W : Form} → (t : Tri sp Mem Reg func N A W) → Definite sp W
wall-definite {P} {Form} {R} {sp} {Mem} {Reg} {func} {N} {A} {W} t = record { above = λ x v n. by_lt_z (pos 0) (sp.val W (sp.sub x v)) (λ l. l) (λ g. absurd (flat x v n (omega (arith, ints, g, wall-nonneg t W (its-wall t) (sp.sub x v))))) }
  where
    flat : (x v : P) → x ≢ v → sp.val W (sp.sub x v) ≡ pos 0 → ⊥
    flat x v n z = omega (arith, ints, at_k, grow, gk, ring (r ∷ []) (num (pos 1) ⊗ var 0) (var 0) tt, pr.rate_pos, line kk, mul_nonneg_z k.m w0 (omega (arith, ints, k.m_pos)) (wall-nonneg t W (its-wall t) (pr.along (pos 0))))
      where
        y : P
        y = sp.sub x v

        pr : Probe sp.val y
        pr = sp.probe x v n

        lin : Linear sp (λ Q. sp.val Q y)
        lin = record { is = λ m B k C. sp.mixed m B k C y }

        nb : func N pr.form ≡ pos 0
        nb = cancel_nonzero_z (sp.val A y) (func N pr.form) (pos 0) (λ e. omega (arith, ints, t.definite.above x v n, e))
            (ring_by_two ((sp.val A y) ∷ (func N pr.form) ∷ (func N A) ∷ (sp.val pr.form y) ∷ []) (var 0 ⊗ var 1) (var 0 ⊗ num (pos 0)) (neg (num (pos 1))) (var 2 ⊗ var 3) (var 1 ⊗ var 0) (var 2) (var 3) (num (pos 0)) tt (pressing t (λ Q. sp.val Q y) lin (λ V w. wall-nonneg t V w y) z pr.form) (pr.zero_there))

        k : Press t pr.form
        k = press t pr.form nb

        r : ℤ
        r = pr.rate

        w0 : ℤ
        w0 = sp.val W (pr.along (pos 0))

        bend : (i : ℤ) → sp.val W (pr.along i) ≡ i *ℤ pr.slope W +ℤ w0
        bend i = pr.bends W i ∙ ring_by (i ∷ (pr.slope W) ∷ w0 ∷ (sp.val W y) ∷ []) (var 2 ⊕ var 0 ⊗ var 1 ⊕ var 0 ⊗ var 0 ⊗ var 3) (var 0 ⊗ var 1 ⊕ var 2) (var 0 ⊗ var 0) (var 3) (num (pos 0)) tt (z)

        up : pos 0 ≤ℤ pr.slope W
        up = limit (pr.slope W) w0 (λ i g. omega (arith, ints, bend i, wall-nonneg t W (its-wall t) (pr.along i)))

        down : pos 0 ≤ℤ neg_ℤ (pr.slope W)
        down = limit (neg_ℤ (pr.slope W)) w0 (λ i g. omega (arith, ints, bend (neg_ℤ i), wall-nonneg t W (its-wall t) (pr.along (neg_ℤ i)), ring (i ∷ (pr.slope W) ∷ []) (neg (var 0) ⊗ var 1) (var 0 ⊗ neg (var 1)) tt))

        line : (i : ℤ) → sp.val W (pr.along i) ≡ w0
        line i = bend i ∙ ring_by (i ∷ (pr.slope W) ∷ w0 ∷ []) (var 0 ⊗ var 1 ⊕ var 2) (var 2) (var 0) (var 1) (num (pos 0)) tt (omega (arith, ints, up, down))

        kk : ℤ
        kk = neg_ℤ (k.m *ℤ w0 +ℤ pos 1)

        at_k : pos 0 ≤ℤ (k.m *ℤ w0 +ℤ pos 1 *ℤ (kk *ℤ r))
        at_k = subst (λ q. pos 0 ≤ℤ q) (sp.mixed k.m W (pos 1) pr.form (pr.along kk) ∙ ap₂ (λ p q. k.m *ℤ p +ℤ pos 1 *ℤ q) (line kk) (pr.grows kk)) (wall-nonneg t (sp.mix k.m W (pos 1) pr.form) k.up (pr.along kk))

        gk : k.m *ℤ w0 +ℤ pos 1 *ℤ (kk *ℤ r) ≡ neg_ℤ (k.m *ℤ w0 *ℤ (r -ℤ pos 1)) -ℤ r
        gk = ring (k.m ∷ w0 ∷ r ∷ []) (var 0 ⊗ var 1 ⊕ num (pos 1) ⊗ (neg (var 0 ⊗ var 1 ⊕ num (pos 1)) ⊗ var 2)) (neg (var 0 ⊗ var 1 ⊗ (var 2 ⊖ num (pos 1))) ⊖ var 2) tt

        grow : pos 0 ≤ℤ (k.m *ℤ w0 *ℤ (r -ℤ pos 1))
        grow = mul_nonneg_z (k.m *ℤ w0) (r -ℤ pos 1) (mul_nonneg_z k.m w0 (omega (arith, ints, k.m_pos)) (wall-nonneg t W (its-wall t) (pr.along (pos 0)))) (omega (arith, ints, pr.rate_pos))
