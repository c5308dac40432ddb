-- The flipped set is strictly empty for m W - A.
use Rattle.std.proofs.Common.{List, [], ◌∷◌, ◌≡◌, ◌≢◌, ℕ, zero, suc, ◌⊎◌, inl, inr, refl, sym, ◌∙◌, ap, ap₂, subst, arith, ℤ, pos, negsuc, neg_ℤ, ◌+ℤ◌, ◌-ℤ◌, ◌*ℤ◌, ◌<ℤ◌, ◌≤ℤ◌}
use Rattle.std.proofs.lemmas.Int.{ints, by_lt_z}
use Rattle.lt_model.proofs.Ring.{ring, ring_by, ring_by_two, var, num, neg, ◌⊕◌, ◌⊖◌, ◌⊗◌}
use Rattle.lt_walls.proofs.Sums.{qs}
use Rattle.lt_model.proofs.Inequalities.{mul_nonneg_z, mul_pos_z, cancel_nonzero_z}
use Rattle.lt_walls.proofs.Signs.{mul_neg_pos, step, raised}
use Rattle.lt_walls.proofs.Lists.{Alike, alike-sym, alike-trans, alike-cons, qs-of, qs-fun, qs-minus, qs-diff, qs-zero, In, in-nil, in-head, in-tail, in-cases, in-alike, in-or, front, Distinct, distinct-alike, distinct-out, upd, upd-at, upd-off, upd-cons, negative}
use Rattle.lt_walls.proofs.Space.{Space, Simp, Expr, Strict, excess, excess-is, excess-mixed, Opp, rise, rise-is, rescale, same-sum, opp-expr, opp-excess, opp-out, inner, change}
use Rattle.lt_walls.proofs.Walls.{Tri, wall-definite}
use Rattle.lt_walls.proofs.Ellipsoid.{expr-alike, excess-alike}
use Rattle.lt_walls.proofs.Cells.{cell-distinct, parallel, parallel-sum, cell-rise, cell-zeros, cell-same, Kept, New}
use Rattle.lt_walls.proofs.Flip.{Flipped, flipped-simp, flipped-alike, flipped-weak, flipped-low, flipped-rise, kept-zeros, Next}

ratio : (a b c d e f : ℤ) → pos 0 <ℤ b → pos 0 <ℤ d → pos 0 <ℤ f → (a *ℤ d) ≤ℤ (c *ℤ b) → (c *ℤ f) ≤ℤ (e *ℤ d) → (a *ℤ f) ≤ℤ (e *ℤ b)
ratio a b c d e f pb pd pf h k = by_lt_z (e *ℤ b) (a *ℤ f) (λ l. absurd (
    omega (
      arith,
      ints,
      mul_pos_z d (a *ℤ f -ℤ e *ℤ b) pd (omega (arith, ints, l)),
      mul_nonneg_z f (c *ℤ b -ℤ a *ℤ d) (omega (arith, ints, pf)) (omega (arith, ints, h)),
      mul_nonneg_z b (e *ℤ d -ℤ c *ℤ f) (omega (arith, ints, pb)) (omega (arith, ints, k)),
      ring (a ∷ b ∷ c ∷ d ∷ e ∷ f ∷ []) (var 3 ⊗ (var 0 ⊗ var 5 ⊖ var 4 ⊗ var 1)) (neg (var 5 ⊗ (var 2 ⊗ var 1 ⊖ var 0 ⊗ var 3) ⊕ var 1 ⊗ (var 4 ⊗ var 3 ⊖ var 2 ⊗ var 5))) tt,
    ))) (λ g. g)

-- a point with s negative at which f over - s is least
Least : {P : Type 0} → ((x y : P) → Dec (x ≡ y)) → (f s : P → ℤ) → List P → P → Type 0
Least {P} dec f s V i = In dec i V × (s i <ℤ pos 0) × ((k : P) → In dec k V → s k <ℤ pos 0 → (f i *ℤ neg_ℤ (s k)) ≤ℤ (f k *ℤ neg_ℤ (s i)))

least : {P : Type 0} → (dec : (x y : P) → Dec (x ≡ y)) (f s : P → ℤ) (V : List P) → ((i : P) × Least dec f s V i) ⊎ ((v : P) → In dec v V → pos 0 ≤ℤ s v)
unfolding Least
least dec f s [] = inr (λ v i. absurd (in-nil i))
least {P} dec f s (x ∷ S) = by_lt_z (s x) (pos 0) (λ l. inl (here l (least dec f s S))) (λ g. pass g (least dec f s S))
  where
    tail_k : pos 0 ≤ℤ s x → (i : P) → Least dec f s S i → (k : P) → (k ≡ x) ⊎ In dec k S → s k <ℤ pos 0 → (f i *ℤ neg_ℤ (s k)) ≤ℤ (f k *ℤ neg_ℤ (s i))
    tail_k g i h k (inl q) l = absurd (omega (arith, ints, g, l, ap s q))
    tail_k g i h k (inr m) l = h.2 k m l

    all : pos 0 ≤ℤ s x → ((v : P) → In dec v S → pos 0 ≤ℤ s v) → (v : P) → (v ≡ x) ⊎ In dec v S → pos 0 ≤ℤ s v
    all g h v (inl q) = subst (λ y. pos 0 ≤ℤ s y) (sym q) g
    all g h v (inr i) = h v i

    pass : pos 0 ≤ℤ s x → ((i : P) × Least dec f s S i) ⊎ ((v : P) → In dec v S → pos 0 ≤ℤ s v) → ((i : P) × Least dec f s (x ∷ S) i) ⊎ ((v : P) → In dec v (x ∷ S) → pos 0 ≤ℤ s v)
    pass g (inl r) = inl (r.0, (in-tail dec (r.0) x S ((r.1).0), (r.1).1, λ k m l. tail_k g (r.0) (r.1) k (in-cases dec k x S m) l))
    pass g (inr h) = inr (λ v i. all g h v (in-cases dec v x S i))

    alone : s x <ℤ pos 0 → ((v : P) → In dec v S → pos 0 ≤ℤ s v) → (k : P) → (k ≡ x) ⊎ In dec k S → s k <ℤ pos 0 → (f x *ℤ neg_ℤ (s k)) ≤ℤ (f k *ℤ neg_ℤ (s x))
    alone g h k (inl q) l = subst (λ y. (f x *ℤ neg_ℤ (s y)) ≤ℤ (f y *ℤ neg_ℤ (s x))) (sym q) (omega (arith, ints))
    alone g h k (inr m) l = absurd (omega (arith, ints, h k m, l))

    stays : (i : P) → Least dec f s S i → (f i *ℤ neg_ℤ (s x)) ≤ℤ (f x *ℤ neg_ℤ (s i)) → (k : P) → (k ≡ x) ⊎ In dec k S → s k <ℤ pos 0 → (f i *ℤ neg_ℤ (s k)) ≤ℤ (f k *ℤ neg_ℤ (s i))
    stays i h c k (inl q) l = subst (λ y. (f i *ℤ neg_ℤ (s y)) ≤ℤ (f y *ℤ neg_ℤ (s i))) (sym q) c
    stays i h c k (inr m) l = h.2 k m l

    moves : s x <ℤ pos 0 → (i : P) → Least dec f s S i → (f x *ℤ neg_ℤ (s i)) ≤ℤ (f i *ℤ neg_ℤ (s x)) → (k : P) → (k ≡ x) ⊎ In dec k S → s k <ℤ pos 0 → (f x *ℤ neg_ℤ (s k)) ≤ℤ (f k *ℤ neg_ℤ (s x))
    moves g i h c k (inl q) l = subst (λ y. (f x *ℤ neg_ℤ (s y)) ≤ℤ (f y *ℤ neg_ℤ (s x))) (sym q) (omega (arith, ints))
    moves g i h c k (inr m) l = ratio (f x) (neg_ℤ (s x)) (f i) (neg_ℤ (s i)) (f k) (neg_ℤ (s k)) (omega (arith, ints, g)) (omega (arith, ints, h.1)) (omega (arith, ints, l)) c (h.2 k m l)

    here : s x <ℤ pos 0 → ((i : P) × Least dec f s S i) ⊎ ((v : P) → In dec v S → pos 0 ≤ℤ s v) → (i : P) × Least dec f s (x ∷ S) i
    here g (inr h) = (x, (in-head dec x S, g, λ k m l. alone g h k (in-cases dec k x S m) l))
    here g (inl r) = by_lt_z (f x *ℤ neg_ℤ (s (r.0))) (f (r.0) *ℤ neg_ℤ (s x))
        (λ c. (x, (in-head dec x S, g, λ k m l. moves g (r.0) (r.1) (omega (arith, ints, c)) k (in-cases dec k x S m) l)))
        (λ c. (r.0, (in-tail dec (r.0) x S ((r.1).0), (r.1).1, λ k m l. stays (r.0) (r.1) c k (in-cases dec k x S m) l)))

-- the excess at a vertex is 0
pub vertex-zero : {P Form : Type 0} → {sp : Space P Form} → {S : List P} → Simp sp S → (x : P) → In sp.dec x S → (c : ℤ) (b : P → ℤ) → Expr sp x S c b → (q : P → ℤ) → excess q x S c b ≡ pos 0
vertex-zero {P} {Form} {sp} {S} h x i c b e q = excess-is q x S c b ∙ ap (λ y. c *ℤ q x -ℤ y) (same-sum h b d (λ j. sym (e.is j) ∙ sym (sums (sp.hom j))) q ∙ sums q) ∙ ring ((c *ℤ q x) ∷ []) (var 0 ⊖ var 0) (num (pos 0)) tt
  where
    f : (R : List P) × Alike S (x ∷ R)
    f = front sp.dec x S i

    out : In sp.dec x (f.0) → ⊥
    out = distinct-out (distinct-alike h.distinct (f.1))

    d : P → ℤ
    d = upd sp.dec x c (λ y. pos 0)

    sums : (g : P → ℤ) → qs g d S ≡ c *ℤ g x
    sums g = (f.1).same g d ∙ upd-cons sp.dec x c (λ y. pos 0) g (f.0) out ∙ ap (λ y. c *ℤ g x +ℤ y) (qs-zero sp.dec g (λ y. pos 0) (f.0) (λ v k. refl)) ∙ ring ((c *ℤ g x) ∷ []) (var 0 ⊕ num (pos 0)) (var 0) tt

-- one scale for all points over all simplices of the flipped set
pub record Scale {P Form R : Type 0} {sp : Space P Form} {Mem : List P → Type 0} {Reg : R → Type 0} {func : R → Form → ℤ} {N : R} {A W : Form} (t : Tri sp Mem Reg func N A W) : Type 0 where
  pub scale : ℤ
  pub scale_pos : pos 0 <ℤ scale
  pub coords : (S : List P) → Flipped t S → (x : P) → (a : P → ℤ) × ((j : ℕ) → scale *ℤ sp.hom j x ≡ qs (sp.hom j) a S)

-- a number m at which each facet of the flipped set rises for m W - A
pub record Margin {P Form R : Type 0} {sp : Space P Form} {Mem : List P → Type 0} {Reg : R → Type 0} {func : R → Form → ℤ} {N : R} {A W : Form} (t : Tri sp Mem Reg func N A W) (m : ℤ) : Type 0 where
  pub step : (r : P) (F : List P) → Flipped t (r ∷ F) → (x : Next t r F) × (pos 0 <ℤ (m *ℤ rise (sp.val W) x.opp -ℤ rise (sp.val A) x.opp))

-- of the simplices of its cell, one from which no step leads to another of the cell
record Best {P Form R : Type 0} {sp : Space P Form} {Mem : List P → Type 0} {Reg : R → Type 0} {func : R → Form → ℤ} {N : R} {A W : Form} (t : Tri sp Mem Reg func N A W) (x : P) (D : ℤ) (S : List P) (a : P → ℤ) : Type 0 where
  S1 : List P
  mem : Flipped t S1
  a1 : P → ℤ
  over : Expr sp x S1 D a1
  same_w : excess (sp.val W) x S D a ≡ excess (sp.val W) x S1 D a1
  more_a : excess (sp.val A) x S D a ≤ℤ excess (sp.val A) x S1 D a1
  block : (r z : P) (F : List P) → Alike S1 (r ∷ F) → (o : Opp sp r z F) → (In sp.dec z (r ∷ F) → ⊥) → rise (sp.val W) o ≡ pos 0 → a1 r <ℤ pos 0 → ⊥

best-kept : {P Form R : Type 0} → {sp : Space P Form} → {Mem : List P → Type 0} → {Reg : R → Type 0} → {func : R → Form → ℤ} → {N : R} → {A W : Form} → (t : Tri sp Mem Reg func N A W) → (x : P) (D : ℤ) (S : List P) (a : P → ℤ) → Expr sp x S D a → Kept t S → Best t x D S a
unfolding Flipped
best-kept {P} {Form} {R} {sp} {Mem} {Reg} {func} {N} {A} {W} t x D S a e k = record {
  S1 = S;
  mem = inl k;
  a1 = a;
  over = e;
  same_w = refl;
  more_a = omega (arith, ints);
  block = λ r z F al o out flat low. let sr : Simp sp (r ∷ F) = t.simp (r ∷ F) (t.alike k.mem al) in
      out (in-alike (kept-zeros t S k z o.c (upd sp.dec r (neg_ℤ o.m) o.bs) (expr-alike (opp-expr sr o) (alike-sym al)) (excess-alike (sp.val W) z o.c (upd sp.dec r (neg_ℤ o.m) o.bs) al ∙ opp-excess sr o (sp.val W) ∙ flat)) al);
}

best-new : {P Form R : Type 0} → {sp : Space P Form} → {Mem : List P → Type 0} → {Reg : R → Type 0} → {func : R → Form → ℤ} → {N : R} → {A W : Form} → (t : Tri sp Mem Reg func N A W) → (k : Scale t) (x : P) (S : List P) (a : P → ℤ) → Expr sp x S k.scale a → New t S → Best t x k.scale S a
unfolding Flipped Least
best-new {P} {Form} {R} {sp} {Mem} {Reg} {func} {N} {A} {W} t k x S a e n = go (least sp.dec f s n.V)
  where
    D : ℤ
    D = k.scale

    s : P → ℤ
    s = n.s

    u : P
    u = n.u

    dv : Distinct sp.dec n.V
    dv = cell-distinct t n.cell

    out_u : In sp.dec u S → ⊥
    out_u = distinct-out (distinct-alike dv n.rest)

    in_u : In sp.dec u n.V
    in_u = in-alike (in-head sp.dec u S) (alike-sym n.rest)

    f : P → ℤ
    f = upd sp.dec u (pos 0) a

    f_sum : (q : P → ℤ) → qs q f n.V ≡ qs q a S
    f_sum q = n.rest.same q f ∙ upd-cons sp.dec u (pos 0) a q S out_u ∙ ring ((q u) ∷ (qs q a S) ∷ []) (num (pos 0) ⊗ var 0 ⊕ var 1) (var 1) tt

    go : ((i : P) × Least sp.dec f s n.V i) ⊎ ((v : P) → In sp.dec v n.V → pos 0 ≤ℤ s v) → Best t x D S a
    go (inr h) = absurd (omega (arith, ints, n.below, h u in_u))
    go (inl w) = record { S1 = rest1; mem = mem; a1 = a1; over = ex1; same_w = same_w; more_a = more_a; block = block }
      where
        i : P
        i = w.0

        in_i : In sp.dec i n.V
        in_i = (w.1).0

        low_i : s i <ℤ pos 0
        low_i = (w.1).1

        p : (rest1 : List P) × Alike n.V (i ∷ rest1)
        p = front sp.dec i n.V in_i

        rest1 : List P
        rest1 = p.0

        mem : Flipped t rest1
        mem = inr (record { V = n.V; s = s; u = i; cell = n.cell; below = low_i; rest = p.1 })

        c : (a : P → ℤ) × ((j : ℕ) → D *ℤ sp.hom j x ≡ qs (sp.hom j) a rest1)
        c = k.coords rest1 mem x

        a1 : P → ℤ
        a1 = c.0

        ex1 : Expr sp x rest1 D a1
        ex1 = record { positive = k.scale_pos; is = c.1 }

        out_i : In sp.dec i rest1 → ⊥
        out_i = distinct-out (distinct-alike dv (p.1))

        same_w : excess (sp.val W) x S D a ≡ excess (sp.val W) x rest1 D a1
        same_w = cancel_nonzero_z D (excess (sp.val W) x S D a) (excess (sp.val W) x rest1 D a1) (λ q. omega (arith, ints, k.scale_pos, q)) (cell-same t n.cell u i S rest1 n.rest (p.1) x D D a a1 e.is (c.1))

        g : P → ℤ
        g = upd sp.dec i (pos 0) a1

        g_sum : (q : P → ℤ) → qs q g n.V ≡ qs q a1 rest1
        g_sum q = (p.1).same q g ∙ upd-cons sp.dec i (pos 0) a1 q rest1 out_i ∙ ring ((q i) ∷ (qs q a1 rest1) ∷ []) (num (pos 0) ⊗ var 0 ⊕ var 1) (var 1) tt

        d : P → ℤ
        d v = f v -ℤ g v

        d_sum : (q : P → ℤ) → qs q d n.V ≡ qs q a S -ℤ qs q a1 rest1
        d_sum q = qs-diff q f g n.V ∙ ap₂ (λ y z. y -ℤ z) (f_sum q) (g_sum q)

        d_flat : (j : ℕ) → qs (sp.hom j) d n.V ≡ pos 0
        d_flat j = d_sum (sp.hom j) ∙ ring_by_two ((D *ℤ sp.hom j x) ∷ (qs (sp.hom j) a S) ∷ (qs (sp.hom j) a1 rest1) ∷ []) (var 1 ⊖ var 2) (num (pos 0)) (neg (num (pos 1))) (var 0) (var 1) (num (pos 1)) (var 0) (var 2) tt (e.is j) (c.1 j)

        d_i : d i ≡ f i
        d_i = ap (λ y. f i -ℤ y) (upd-at sp.dec i (pos 0) a1) ∙ ring ((f i) ∷ []) (var 0 ⊖ num (pos 0)) (var 0) tt

        f_low : f i ≤ℤ pos 0
        f_low = by_lt_z (pos 0) (f i) (λ l. absurd (omega (arith, ints, (w.1).2 u in_u n.below, mul_pos_z (f i) (neg_ℤ (s u)) l (omega (arith, ints, n.below)), ap (λ y. y *ℤ neg_ℤ (s i)) (upd-at sp.dec u (pos 0) a), ring ((neg_ℤ (s i)) ∷ []) (num (pos 0) ⊗ var 0) (num (pos 0)) tt))) (λ g. g)

        qa : ℤ
        qa = qs (sp.val A) s n.V

        eq : s i *ℤ (qs (sp.val A) a S -ℤ qs (sp.val A) a1 rest1) ≡ f i *ℤ qa
        eq = ap (λ y. s i *ℤ y) (sym (d_sum (sp.val A))) ∙ parallel-sum t n.cell d d_flat i in_i (sp.val A) ∙ ap (λ y. y *ℤ qa) d_i

        more : pos 0 ≤ℤ (qs (sp.val A) a S -ℤ qs (sp.val A) a1 rest1)
        more = by_lt_z (qs (sp.val A) a S -ℤ qs (sp.val A) a1 rest1) (pos 0)
            (λ l. absurd (omega (
              arith,
              ints,
              eq,
              mul_pos_z (neg_ℤ (s i)) (neg_ℤ (qs (sp.val A) a S -ℤ qs (sp.val A) a1 rest1)) (omega (arith, ints, low_i)) (omega (arith, ints, l)),
              ring ((s i) ∷ (qs (sp.val A) a S -ℤ qs (sp.val A) a1 rest1) ∷ []) (neg (var 0) ⊗ neg (var 1)) (var 0 ⊗ var 1) tt,
              mul_nonneg_z (neg_ℤ (f i)) qa (omega (arith, ints, f_low)) (omega (arith, ints, cell-rise t n.cell)),
              ring ((f i) ∷ qa ∷ []) (neg (var 0) ⊗ var 1) (neg (var 0 ⊗ var 1)) tt,
            ))) (λ g. g)

        more_a : excess (sp.val A) x S D a ≤ℤ excess (sp.val A) x rest1 D a1
        more_a = omega (arith, ints, more, excess-is (sp.val A) x S D a, excess-is (sp.val A) x rest1 D a1)

        block : (r z : P) (F : List P) → Alike rest1 (r ∷ F) → (o : Opp sp r z F) → (In sp.dec z (r ∷ F) → ⊥) → rise (sp.val W) o ≡ pos 0 → a1 r <ℤ pos 0 → ⊥
        block r z F al o out flat low = omega (arith, ints, back, mul_pos_z (neg_ℤ (s i)) (neg_ℤ (a1 r)) (omega (arith, ints, low_i)) (omega (arith, ints, low)), ring ((s i) ∷ (a1 r) ∷ []) (neg (var 0) ⊗ neg (var 1)) (neg (neg (var 0) ⊗ var 1)) tt, (w.1).2 r in_r low_r)
          where
            sr : Simp sp (r ∷ F)
            sr = flipped-simp t (r ∷ F) (flipped-alike t mem al)

            is_i : z ≡ i
            is_i = elim (in-cases sp.dec z i rest1 (in-alike (cell-zeros t n.cell i rest1 (p.1) z o.c (upd sp.dec r (neg_ℤ o.m) o.bs) (expr-alike (opp-expr sr o) (alike-sym al)) (excess-alike (sp.val W) z o.c (upd sp.dec r (neg_ℤ o.m) o.bs) al ∙ opp-excess sr o (sp.val W) ∙ flat)) (p.1)))
                [ inl q ↦ q | inr h ↦ absurd (out (in-alike h al)) ]

            all : Alike n.V (i ∷ r ∷ F)
            all = alike-trans (p.1) (alike-cons i al)

            out_r : In sp.dec r F → ⊥
            out_r = distinct-out sr.distinct

            in_r : In sp.dec r n.V
            in_r = in-alike (in-tail sp.dec r i (r ∷ F) (in-head sp.dec r F)) (alike-sym all)

            out2 : In sp.dec i (r ∷ F) → ⊥
            out2 h = out_i (in-alike h (alike-sym al))

            r_not_i : r ≢ i
            r_not_i q = out2 (subst (λ y. In sp.dec y (r ∷ F)) q (in-head sp.dec r F))

            h1 : P → ℤ
            h1 = upd sp.dec r o.m (λ y. neg_ℤ (o.bs y))

            h2 : P → ℤ
            h2 = upd sp.dec i o.c h1

            h_sum : (q : P → ℤ) → qs q h2 n.V ≡ o.c *ℤ q i +ℤ (o.m *ℤ q r +ℤ neg_ℤ (qs q o.bs F))
            h_sum q = all.same q h2 ∙ upd-cons sp.dec i o.c h1 q (r ∷ F) out2 ∙ ap (λ y. o.c *ℤ q i +ℤ y) (upd-cons sp.dec r o.m (λ y. neg_ℤ (o.bs y)) q F out_r ∙ ap (λ y. o.m *ℤ q r +ℤ y) (qs-minus q o.bs F))

            h_flat : (j : ℕ) → qs (sp.hom j) h2 n.V ≡ pos 0
            h_flat j = h_sum (sp.hom j) ∙ ring_by ((o.c *ℤ sp.hom j i) ∷ (o.m *ℤ sp.hom j r) ∷ (qs (sp.hom j) o.bs F) ∷ []) (var 0 ⊕ (var 1 ⊕ neg (var 2))) (num (pos 0)) (num (pos 1)) (var 0 ⊕ var 1) (var 2) tt (ap (λ y. o.c *ℤ sp.hom j y +ℤ o.m *ℤ sp.hom j r) (sym is_i) ∙ o.flat j)

            par : s i *ℤ o.m ≡ o.c *ℤ s r
            par = ap (λ y. s i *ℤ y) (sym (upd-off sp.dec i o.c h1 r r_not_i ∙ upd-at sp.dec r o.m (λ y. neg_ℤ (o.bs y)))) ∙ parallel t n.cell h2 h_flat i r in_i in_r ∙ ap (λ y. y *ℤ s r) (upd-at sp.dec i o.c h1)

            low_r : s r <ℤ pos 0
            low_r = by_lt_z (s r) (pos 0) (λ l. l) (λ g. absurd (omega (arith, ints, par, mul_neg_pos (s i) o.m low_i o.m_pos, mul_nonneg_z o.c (s r) (omega (arith, ints, o.c_pos)) g)))

            d_r : d r ≡ f r -ℤ a1 r
            d_r = ap (λ y. f r -ℤ y) (upd-off sp.dec i (pos 0) a1 r r_not_i)

            back : neg_ℤ (s i) *ℤ a1 r ≡ f r *ℤ neg_ℤ (s i) -ℤ f i *ℤ neg_ℤ (s r)
            back = ring_by ((s i) ∷ (s r) ∷ (f i) ∷ (f r) ∷ (a1 r) ∷ []) (neg (var 0) ⊗ var 4) (var 3 ⊗ neg (var 0) ⊖ var 2 ⊗ neg (var 1)) (num (pos 1)) (var 0 ⊗ (var 3 ⊖ var 4)) (var 2 ⊗ var 1) tt (ap (λ v. s i *ℤ v) (sym d_r) ∙ parallel t n.cell d d_flat i r in_i in_r ∙ ap (λ v. v *ℤ s r) d_i)

best : {P Form R : Type 0} → {sp : Space P Form} → {Mem : List P → Type 0} → {Reg : R → Type 0} → {func : R → Form → ℤ} → {N : R} → {A W : Form} → (t : Tri sp Mem Reg func N A W) → (k : Scale t) (x : P) (S : List P) (a : P → ℤ) → Expr sp x S k.scale a → Flipped t S → Best t x k.scale S a
unfolding Flipped
best t k x S a e (inl h) = best-kept t x k.scale S a e h
best t k x S a e (inr n) = best-new t k x S a e n

rise-mixed : {P Form : Type 0} → (sp : Space P Form) (m : ℤ) (A : Form) (n : ℤ) (B : Form) → {p w : P} → {F : List P} → (o : Opp sp p w F) → rise (sp.val (sp.mix m A n B)) o ≡ m *ℤ rise (sp.val A) o +ℤ n *ℤ rise (sp.val B) o
rise-mixed sp m A n B {p} {w} {F} o =
    rise-is (sp.val (sp.mix m A n B)) o
    ∙ ap₂ (λ y z. y -ℤ z) (ap₂ (λ y z. o.c *ℤ y +ℤ o.m *ℤ z) (sp.mixed m A n B w) (sp.mixed m A n B p)) (qs-fun (sp.val (sp.mix m A n B)) (λ v. m *ℤ sp.val A v +ℤ n *ℤ sp.val B v) o.bs (sp.mixed m A n B) F ∙ qs-of (sp.val A) (sp.val B) o.bs m n F)
    ∙ ring (m ∷ n ∷ o.c ∷ o.m ∷ (sp.val A w) ∷ (sp.val B w) ∷ (sp.val A p) ∷ (sp.val B p) ∷ (qs (sp.val A) o.bs F) ∷ (qs (sp.val B) o.bs F) ∷ []) (var 2 ⊗ (var 0 ⊗ var 4 ⊕ var 1 ⊗ var 5) ⊕ var 3 ⊗ (var 0 ⊗ var 6 ⊕ var 1 ⊗ var 7) ⊖ (var 0 ⊗ var 8 ⊕ var 1 ⊗ var 9)) (var 0 ⊗ (var 2 ⊗ var 4 ⊕ var 3 ⊗ var 6 ⊖ var 8) ⊕ var 1 ⊗ (var 2 ⊗ var 5 ⊕ var 3 ⊗ var 7 ⊖ var 9)) tt
    ∙ ap₂ (λ y z. m *ℤ y +ℤ n *ℤ z) (sym (rise-is (sp.val A) o)) (sym (rise-is (sp.val B) o))

-- the claim at one simplex, from the claim where the excess at W is smaller
onward : {P Form R : Type 0} → {sp : Space P Form} → {Mem : List P → Type 0} → {Reg : R → Type 0} → {func : R → Form → ℤ} → {N : R} → {A W : Form} → (t : Tri sp Mem Reg func N A W) → (k : Scale t) (m : ℤ) → Margin t m → (x : P) (n : ℕ) →
    ((S : List P) → Flipped t S → (a : P → ℤ) → Expr sp x S k.scale a → excess (sp.val W) x S k.scale a <ℤ pos n → In sp.dec x S ⊎ (pos 0 <ℤ excess (sp.val (sp.mix m W (negsuc 0) A)) x S k.scale a)) →
    (S : List P) → Flipped t S → (a : P → ℤ) → Expr sp x S k.scale a → excess (sp.val W) x S k.scale a <ℤ pos (suc n) → In sp.dec x S ⊎ (pos 0 <ℤ excess (sp.val (sp.mix m W (negsuc 0) A)) x S k.scale a)
onward {P} {Form} {R} {sp} {Mem} {Reg} {func} {N} {A} {W} t k m margin x n ih S mem a e lt = go (in-or sp.dec x S) (in-or sp.dec x b.S1)
  where
    D : ℤ
    D = k.scale

    w : P → ℤ
    w = sp.val W

    al : P → ℤ
    al = sp.val A

    Q : Form
    Q = sp.mix m W (negsuc 0) A

    b : Best t x D S a
    b = best t k x S a e mem

    exq : (R : List P) (c : P → ℤ) → excess (sp.val Q) x R D c ≡ m *ℤ excess w x R D c -ℤ excess al x R D c
    exq R c = excess-mixed sp m W (negsuc 0) A x R D c ∙ ring ((m *ℤ excess w x R D c) ∷ (excess al x R D c) ∷ []) (var 0 ⊕ neg (num (pos 1)) ⊗ var 1) (var 0 ⊖ var 1) tt

    exq_neg : (R : List P) (c : P → ℤ) → excess (sp.val Q) x R D c ≡ m *ℤ excess w x R D c -ℤ excess al x R D c
    exq_neg = exq

    inside : (In sp.dec x S → ⊥) → In sp.dec x b.S1 → pos 0 <ℤ excess (sp.val Q) x S D a
    inside out i = omega (arith, ints, exq S a, ap (λ y. m *ℤ y) none, ring (m ∷ []) (var 0 ⊗ num (pos 0)) (num (pos 0)) tt, flipped-low t S mem x out D a e none)
      where
        none : excess w x S D a ≡ pos 0
        none = b.same_w ∙ vertex-zero (flipped-simp t b.S1 b.mem) x i D b.a1 b.over w

    outside : (In sp.dec x b.S1 → ⊥) → pos 0 <ℤ excess (sp.val Q) x S D a
    outside out = omega (arith, ints, exq S a, exq b.S1 b.a1, ap (λ y. m *ℤ y) b.same_w, b.more_a, at_best (negative sp.dec b.a1 b.S1))
      where
        at_best : ((r : P) × (F : List P) × Alike b.S1 (r ∷ F) × (b.a1 r <ℤ pos 0)) ⊎ ((v : P) → In sp.dec v b.S1 → pos 0 ≤ℤ b.a1 v) → pos 0 <ℤ excess (sp.val Q) x b.S1 D b.a1
        at_best (inr h) = absurd (out (inner sp W (wall-definite t) x b.S1 D b.a1 b.over h ((flipped-weak t b.S1 b.mem).outside x D b.a1 b.over)))
        at_best (inl g) = by_w (flipped-rise t r z F mr mz o)
          where
            r : P
            r = g.0

            F : List P
            F = g.1

            mr : Flipped t (r ∷ F)
            mr = flipped-alike t b.mem (g.2)

            st : (y : Next t r F) × (pos 0 <ℤ (m *ℤ rise w y.opp -ℤ rise al y.opp))
            st = margin.step r F mr

            z : P
            z = (st.0).z

            mz : Flipped t (z ∷ F)
            mz = (st.0).mem

            o : Opp sp r z F
            o = (st.0).opp

            sz : Simp sp (z ∷ F)
            sz = flipped-simp t (z ∷ F) mz

            out_z : In sp.dec z (r ∷ F) → ⊥
            out_z = opp-out (flipped-simp t (r ∷ F) mr) (distinct-out sz.distinct) o

            c : (c : P → ℤ) × ((j : ℕ) → D *ℤ sp.hom j x ≡ qs (sp.hom j) c (z ∷ F))
            c = k.coords (z ∷ F) mz x

            ez : Expr sp x (z ∷ F) D (c.0)
            ez = record { positive = k.scale_pos; is = c.1 }

            moved : (q : P → ℤ) → o.m *ℤ excess q x (z ∷ F) D (c.0) ≡ o.m *ℤ excess q x b.S1 D b.a1 +ℤ b.a1 r *ℤ rise q o
            moved q = ap (λ y. o.m *ℤ y) (excess-is q x (z ∷ F) D (c.0)) ∙ change r z sz (λ j. D *ℤ sp.hom j x) (D *ℤ q x) o.c o.m o.bs b.a1 (c.0) o.flat (λ j. b.over.is j ∙ (g.2).same (sp.hom j) b.a1) (c.1) q
                ∙ ap₂ (λ y v. o.m *ℤ y +ℤ b.a1 r *ℤ v) (sym (excess-is q x (r ∷ F) D b.a1) ∙ sym (excess-alike q x D b.a1 (g.2))) (sym (rise-is q o))

            by_w : (pos 0 <ℤ rise w o) ⊎ ((rise w o ≡ pos 0) × (rise al o <ℤ pos 0)) → pos 0 <ℤ excess (sp.val Q) x b.S1 D b.a1
            by_w (inr h) = absurd (b.block r z F (g.2) o out_z (h.0) (g.3))
            by_w (inl h) = raised o.m (b.a1 r) (rise (sp.val Q) o) (excess (sp.val Q) x b.S1 D b.a1) (excess (sp.val Q) x (z ∷ F) D (c.0)) o.m_pos (g.3) rq (at_z (ih (z ∷ F) mz (c.0) ez (omega (arith, ints, less, b.same_w, lt)))) (moved (sp.val Q))
              where
                less : excess w x (z ∷ F) D (c.0) <ℤ excess w x b.S1 D b.a1
                less = step o.m (b.a1 r) (rise w o) (excess w x b.S1 D b.a1) (excess w x (z ∷ F) D (c.0)) o.m_pos (g.3) h (moved w)

                rq : pos 0 <ℤ rise (sp.val Q) o
                rq = omega (arith, ints, st.1, rise-mixed sp m W (negsuc 0) A o, ring ((rise al o) ∷ []) (neg (num (pos 1)) ⊗ var 0) (neg (var 0)) tt)

                at_z : In sp.dec x (z ∷ F) ⊎ (pos 0 <ℤ excess (sp.val Q) x (z ∷ F) D (c.0)) → pos 0 ≤ℤ excess (sp.val Q) x (z ∷ F) D (c.0)
                at_z (inl i) = omega (arith, ints, vertex-zero sz x i D (c.0) ez (sp.val Q))
                at_z (inr l) = omega (arith, ints, l)

    go : In sp.dec x S ⊎ (In sp.dec x S → ⊥) → In sp.dec x b.S1 ⊎ (In sp.dec x b.S1 → ⊥) → In sp.dec x S ⊎ (pos 0 <ℤ excess (sp.val Q) x S D a)
    go (inl i) h = inl i
    go (inr out) (inl i) = inr (inside out i)
    go (inr out) (inr h) = inr (outside h)

claim : {P Form R : Type 0} → {sp : Space P Form} → {Mem : List P → Type 0} → {Reg : R → Type 0} → {func : R → Form → ℤ} → {N : R} → {A W : Form} → (t : Tri sp Mem Reg func N A W) → (k : Scale t) (m : ℤ) → Margin t m → (x : P) (n : ℕ) →
    (S : List P) → Flipped t S → (a : P → ℤ) → Expr sp x S k.scale a → excess (sp.val W) x S k.scale a <ℤ pos n → In sp.dec x S ⊎ (pos 0 <ℤ excess (sp.val (sp.mix m W (negsuc 0) A)) x S k.scale a)
claim t k m margin x zero S mem a e lt = absurd (omega (arith, ints, (flipped-weak t S mem).outside x k.scale a e, lt))
claim t k m margin x (suc n) S mem a e lt = onward t k m margin x n (claim t k m margin x n) S mem a e lt

pub above : (z : ℤ) → (n : ℕ) × (z <ℤ pos n)
above (pos n) = (suc n, omega (arith, ints))
above (negsuc n) = (zero, omega (arith, ints))

-- every simplex of the flipped set is strictly empty for m W - A
pub flipped-strict : {P Form R : Type 0} → {sp : Space P Form} → {Mem : List P → Type 0} → {Reg : R → Type 0} → {func : R → Form → ℤ} → {N : R} → {A W : Form} → (t : Tri sp Mem Reg func N A W) → (k : Scale t) (m : ℤ) → Margin t m → (S : List P) → Flipped t S → Strict sp (sp.val (sp.mix m W (negsuc 0) A)) S
flipped-strict {P} {Form} {R} {sp} {Mem} {Reg} {func} {N} {A} {W} t k m margin S mem = record {
  weak = record { outside = λ x c b e. up x c b e (known x) };
  touches = λ x c b e z. touch x c b e z (known x);
}
  where
    D : ℤ
    D = k.scale

    q : P → ℤ
    q = sp.val (sp.mix m W (negsuc 0) A)

    at : (x : P) → P → ℤ
    at x = (k.coords S mem x).0

    ex : (x : P) → Expr sp x S D (at x)
    ex x = record { positive = k.scale_pos; is = (k.coords S mem x).1 }

    known : (x : P) → In sp.dec x S ⊎ (pos 0 <ℤ excess q x S D (at x))
    known x = let n = above (excess (sp.val W) x S D (at x)) in claim t k m margin x (n.0) S mem (at x) (ex x) (n.1)

    eq : (x : P) (c : ℤ) (b : P → ℤ) → Expr sp x S c b → D *ℤ excess q x S c b ≡ c *ℤ excess q x S D (at x)
    eq x c b e = rescale (flipped-simp t S mem) x c D b (at x) e.is (ex x).is q

    up : (x : P) (c : ℤ) (b : P → ℤ) → Expr sp x S c b → In sp.dec x S ⊎ (pos 0 <ℤ excess q x S D (at x)) → pos 0 ≤ℤ excess q x S c b
    up x c b e (inl i) = omega (arith, ints, vertex-zero (flipped-simp t S mem) x i c b e q)
    up x c b e (inr l) = by_lt_z (excess q x S c b) (pos 0) (λ h. absurd (omega (arith, ints, eq x c b e, mul_pos_z c (excess q x S D (at x)) e.positive l, mul_neg_pos (excess q x S c b) D h k.scale_pos, ring (D ∷ (excess q x S c b) ∷ []) (var 0 ⊗ var 1) (var 1 ⊗ var 0) tt))) (λ g. g)

    touch : (x : P) (c : ℤ) (b : P → ℤ) → Expr sp x S c b → excess q x S c b ≡ pos 0 → In sp.dec x S ⊎ (pos 0 <ℤ excess q x S D (at x)) → In sp.dec x S
    touch x c b e z (inl i) = i
    touch x c b e z (inr l) = absurd (omega (arith, ints, eq x c b e, mul_pos_z c (excess q x S D (at x)) e.positive l, ap (λ y. D *ℤ y) z, ring (D ∷ []) (var 0 ⊗ num (pos 0)) (num (pos 0)) tt))
