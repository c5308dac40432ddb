-- At most one point outside a member lies on its ellipsoid of a wall form; the neighbour that such a point is.
use Rattle.std.proofs.Common.{List, [], ◌∷◌, ◌≡◌, ◌≢◌, ℕ, ◌⊎◌, inl, inr, sym, ◌∙◌, ap, ap₂, subst, arith, ℤ, pos, neg_ℤ, ◌+ℤ◌, ◌-ℤ◌, ◌*ℤ◌, ◌<ℤ◌, ◌≤ℤ◌}
use Rattle.std.proofs.lemmas.Int.{ints, by_lt_z}
use Rattle.lt_model.proofs.Ring.{ring, ring_by, ring_by_two, var, num, neg, ◌⊕◌, ◌⊖◌, ◌⊗◌}
use Rattle.lt_walls.proofs.Signs.{ring_by_three, mul_neg_pos, mul_nz, sign, square, proportion}
use Rattle.lt_walls.proofs.Sums.{qs}
use Rattle.lt_model.proofs.Inequalities.{mul_nonneg_z, mul_pos_z, cancel_nonzero_z}
use Rattle.lt_walls.proofs.Lists.{Alike, alike-refl, alike-sym, alike-trans, alike-cons, alike-swap, alike-second, alike-qs, qs-cons, qs-nil, qs-scale, qs-minus, qs-same, qs-zero, In, in-nil, in-head, in-tail, in-cases, in-alike, front, Distinct, distinct-alike, distinct-out, apart, upd, upd-cons, find}
use Rattle.lt_walls.proofs.Space.{Space, Simp, Expr, Weak, Strict, Definite, excess, excess-is, excess-mixed, Opp, Same, rise, rise-is, rescale-zero, same-at, opp-expr, opp-excess, opp-out, change, expr-head, excess-head}
use Rattle.lt_walls.proofs.Walls.{Tri, Linear, wall-weak, its-wall, pressing, wall-definite}

pub expr-alike : {P Form : Type 0} → {sp : Space P Form} → {x : P} → {S S' : List P} → {c : ℤ} → {b : P → ℤ} → Expr sp x S c b → Alike S S' → Expr sp x S' c b
expr-alike {P} {Form} {sp} {x} {S} {S'} {c} {b} e k = record { positive = e.positive; is = λ j. e.is j ∙ k.same (sp.hom j) b }

pub excess-alike : {P : Type 0} → (q : P → ℤ) (x : P) (c : ℤ) (b : P → ℤ) → {S S' : List P} → Alike S S' → excess q x S c b ≡ excess q x S' c b
excess-alike q x c b {S} {S'} k = excess-is q x S c b ∙ ap (λ z. c *ℤ q x -ℤ z) (k.same q b) ∙ sym (excess-is q x S' c b)

-- a point strictly between two others lies below the chord
pub between : {P Form : Type 0} → (sp : Space P Form) (Q : Form) → Definite sp Q → (x u v : P) → x ≢ u → x ≢ v → u ≢ v → (c a b : ℤ) → pos 0 <ℤ a → pos 0 <ℤ b →
    ((j : ℕ) → c *ℤ sp.hom j x ≡ a *ℤ sp.hom j u +ℤ b *ℤ sp.hom j v) → (c *ℤ sp.val Q x -ℤ (a *ℤ sp.val Q u +ℤ b *ℤ sp.val Q v)) <ℤ pos 0
between {P} {Form} sp Q def x u v nu nv n c a b pa pb e =
    omega (arith, ints, sp.reflection Q x c s (u ∷ v ∷ []) (λ j. e j ∙ sym (two (sp.hom j))), two (sp.val Q), two (λ y. sp.val Q (sp.sub x y)), mul_pos_z a (sp.val Q (sp.sub x u)) pa (def.above x u nu), mul_pos_z b (sp.val Q (sp.sub x v)) pb (def.above x v nv))
  where
    s : P → ℤ
    s = upd sp.dec u a (λ y. b)

    out : In sp.dec u (v ∷ []) → ⊥
    out i = elim (in-cases sp.dec u v [] i) [ inl q ↦ n q | inr k ↦ in-nil k ]

    two : (f : P → ℤ) → qs f s (u ∷ v ∷ []) ≡ a *ℤ f u +ℤ b *ℤ f v
    two f = upd-cons sp.dec u a (λ y. b) f (v ∷ []) out ∙ ap (λ z. a *ℤ f u +ℤ z) (qs-cons f (λ y. b) v [] ∙ ap (λ z. b *ℤ f v +ℤ z) (qs-nil f (λ y. b)) ∙ ring ((b *ℤ f v) ∷ []) (var 0 ⊕ num (pos 0)) (var 0) tt)

-- one point at most, at the common scale
one-at : {P Form R : Type 0} → {sp : Space P Form} → {Mem : List P → Type 0} → {Reg : R → Type 0} → {func : R → Form → ℤ} → {N : R} → {A W : Form} → (t : Tri sp Mem Reg func N A W) → (S : List P) → Mem S → (w w' : P) → (In sp.dec w S → ⊥) → (In sp.dec w' S → ⊥) → (b b' : P → ℤ) → ((j : ℕ) → t.scale *ℤ sp.hom j w ≡ qs (sp.hom j) b S) → ((j : ℕ) → t.scale *ℤ sp.hom j w' ≡ qs (sp.hom j) b' S) →
    excess (sp.val W) w S t.scale b ≡ pos 0 → excess (sp.val W) w' S t.scale b' ≡ pos 0 → w ≡ w'
one-at {P} {Form} {R} {sp} {Mem} {Reg} {func} {N} {A} {W} t S mem w w' out out' b b' e e' z z' = cases (find sp.dec b S)
  where
    D : ℤ
    D = t.scale

    Dnz : D ≢ pos 0
    Dnz q = omega (arith, ints, t.scale_pos, q)

    ex : Expr sp w S D b
    ex = record { positive = t.scale_pos; is = e }

    ex' : Expr sp w' S D b'
    ex' = record { positive = t.scale_pos; is = e' }

    dist : Distinct sp.dec S
    dist = (t.simp S mem).distinct

    F : Form → ℤ
    F Q = excess (sp.val Q) w S D b

    F' : Form → ℤ
    F' Q = excess (sp.val Q) w' S D b'

    lin : Linear sp F
    lin = record { is = λ m B n C. excess-mixed sp m B n C w S D b }

    lin' : Linear sp F'
    lin' = record { is = λ m B n C. excess-mixed sp m B n C w' S D b' }

    pr : (Q : Form) → func N A *ℤ F Q ≡ func N Q *ℤ F A
    pr = pressing t F lin (λ V k. (wall-weak t V k S mem).outside w D b ex) z

    pr' : (Q : Form) → func N A *ℤ F' Q ≡ func N Q *ℤ F' A
    pr' = pressing t F' lin' (λ V k. (wall-weak t V k S mem).outside w' D b' ex') z'

    r : ℤ
    r = F A

    r' : ℤ
    r' = F' A

    rnz : r ≢ pos 0
    rnz q = out ((t.strict S mem).touches w D b ex q)

    rnz' : r' ≢ pos 0
    rnz' q = out' ((t.strict S mem).touches w' D b' ex' q)

    all : (Q : Form) → r' *ℤ F Q ≡ r *ℤ F' Q
    all Q = cancel_nonzero_z (func N A) (r' *ℤ F Q) (r *ℤ F' Q) (λ q. omega (arith, ints, t.rises N t.facet, q))
        (ring_by_two ((func N A) ∷ (func N Q) ∷ r ∷ r' ∷ (F Q) ∷ (F' Q) ∷ []) (var 0 ⊗ (var 3 ⊗ var 4)) (var 0 ⊗ (var 2 ⊗ var 5)) (var 3) (var 0 ⊗ var 4) (var 1 ⊗ var 2) (neg (var 2)) (var 0 ⊗ var 5) (var 1 ⊗ var 3) tt (pr Q) (pr' Q))

    star : (i j : P) (G : List P) → Alike S (i ∷ j ∷ G) → r' *ℤ (b i *ℤ b j) ≡ r *ℤ (b' i *ℤ b' j)
    star i j G k = cancel_nonzero_z D (r' *ℤ (b i *ℤ b j)) (r *ℤ (b' i *ℤ b' j)) Dnz
        (let p = t.product S mem i j G k in ring_by_three (D ∷ r ∷ r' ∷ (b i *ℤ b j) ∷ (b' i *ℤ b' j) ∷ (F p.0) ∷ (F' p.0) ∷ []) (var 0 ⊗ (var 2 ⊗ var 3)) (var 0 ⊗ (var 1 ⊗ var 4)) (neg (var 2)) (var 5) (var 0 ⊗ var 3) (var 1) (var 6) (var 0 ⊗ var 4) (num (pos 1)) (var 2 ⊗ var 5) (var 1 ⊗ var 6) tt (p.1 w b e) (p.1 w' b' e') (all p.0))

    ones : (c : P → ℤ) (x : P) → ((j : ℕ) → D *ℤ sp.hom j x ≡ qs (sp.hom j) c S) → qs (sp.hom 0) c S ≡ D
    ones c x h = sym (h 0) ∙ ap (λ y. D *ℤ y) (sp.one x) ∙ ring (D ∷ []) (var 0 ⊗ num (pos 1)) (var 0) tt

    -- three coordinates that aren't 0
    three : (i j k : P) (rest1 rest2 rest3 : List P) → Alike S (i ∷ rest1) → Alike rest1 (j ∷ rest2) → Alike rest2 (k ∷ rest3) → b i ≢ pos 0 → b j ≢ pos 0 → b k ≢ pos 0 → w ≡ w'
    three i j k rest1 rest2 rest3 k1 k2 k3 ni nj nk = sp.inj w w' (λ l. cancel_nonzero_z D (sp.hom l w) (sp.hom l w') Dnz (e l ∙ qs-same sp.dec (sp.hom l) b b' S equal ∙ sym (e' l)))
      where
        ij : Alike S (i ∷ j ∷ rest2)
        ij = alike-trans k1 (alike-cons i k2)

        jk : Alike rest1 (k ∷ j ∷ rest3)
        jk = alike-second j k k2 k3

        ik : Alike S (i ∷ k ∷ j ∷ rest3)
        ik = alike-trans k1 (alike-cons i jk)

        sij : r' *ℤ (b i *ℤ b j) ≡ r *ℤ (b' i *ℤ b' j)
        sij = star i j rest2 ij

        sik : r' *ℤ (b i *ℤ b k) ≡ r *ℤ (b' i *ℤ b' k)
        sik = star i k (j ∷ rest3) ik

        jki : Alike S (j ∷ k ∷ i ∷ rest3)
        jki = alike-trans ij (alike-trans (alike-swap i j rest2) (alike-cons j (alike-second i k (alike-refl (i ∷ rest2)) k3)))

        sjk : r' *ℤ (b j *ℤ b k) ≡ r *ℤ (b' j *ℤ b' k)
        sjk = star j k (i ∷ rest3) jki

        sq : r *ℤ (b' i *ℤ b' i) ≡ r' *ℤ (b i *ℤ b i)
        sq = square r r' (b i) (b j) (b k) (b' i) (b' j) (b' k) rnz' nj nk sij sik sjk

        ni' : b' i ≢ pos 0
        ni' q = mul_nz r' (b i *ℤ b j) rnz' (mul_nz (b i) (b j) ni nj) (sij ∙ ap (λ y. r *ℤ (y *ℤ b' j)) q ∙ ring (r ∷ (b' j) ∷ []) (var 0 ⊗ (num (pos 0) ⊗ var 1)) (num (pos 0)) tt)

        prop : (l : P) → In sp.dec l S → b' i *ℤ b l ≡ b i *ℤ b' l
        prop l il = elim (in-cases sp.dec l i rest1 (in-alike il k1)) [
          | inl q ↦ subst (λ y. b' i *ℤ b y ≡ b i *ℤ b' y) (sym q) (ring ((b i) ∷ (b' i) ∷ []) (var 1 ⊗ var 0) (var 0 ⊗ var 1) tt)
          | inr h ↦ (let p = front sp.dec l rest1 h in proportion r r' (b i) (b l) (b' i) (b' l) rnz ni' sq (star i l (p.0) (alike-trans k1 (alike-cons i (p.1)))))
        ]

        same : b' i ≡ b i
        same = cancel_nonzero_z D (b' i) (b i) Dnz
            (ring_by_three (D ∷ (b i) ∷ (b' i) ∷ (qs (sp.hom 0) b S) ∷ (qs (sp.hom 0) b' S) ∷ []) (var 0 ⊗ var 2) (var 0 ⊗ var 1) (neg (var 2)) (var 3) (var 0) (var 1) (var 4) (var 0) (num (pos 1)) (var 2 ⊗ var 3) (var 1 ⊗ var 4) tt (ones b w e) (ones b' w' e') (sym (qs-scale (sp.hom 0) b (b' i) S) ∙ qs-same sp.dec (sp.hom 0) (λ l. b' i *ℤ b l) (λ l. b i *ℤ b' l) S prop ∙ qs-scale (sp.hom 0) b' (b i) S))

        equal : (l : P) → In sp.dec l S → b l ≡ b' l
        equal l il = cancel_nonzero_z (b i) (b l) (b' l) ni (ap (λ y. y *ℤ b l) (sym same) ∙ prop l il)

    -- two
    two : (i j : P) (rest1 rest2 : List P) → Alike S (i ∷ rest1) → Alike rest1 (j ∷ rest2) → b i ≢ pos 0 → b j ≢ pos 0 → ((v : P) → In sp.dec v rest2 → b v ≡ pos 0) → ⊥
    two i j rest1 rest2 k1 k2 ni nj zr = go (sign (b i) ni) (sign (b j) nj)
      where
        ij : Alike S (i ∷ j ∷ rest2)
        ij = alike-trans k1 (alike-cons i k2)

        d2 : Distinct sp.dec (i ∷ j ∷ rest2)
        d2 = distinct-alike dist ij

        is : (f : P → ℤ) → qs f b S ≡ b i *ℤ f i +ℤ b j *ℤ f j
        is f = alike-qs f b i ij ∙ ap (λ y. b i *ℤ f i +ℤ y) (qs-cons f b j rest2 ∙ ap (λ y. b j *ℤ f j +ℤ y) (qs-zero sp.dec f b rest2 zr) ∙ ring ((b j *ℤ f j) ∷ []) (var 0 ⊕ num (pos 0)) (var 0) tt)

        ini : In sp.dec i S
        ini = in-alike (in-head sp.dec i rest1) (alike-sym k1)

        inj : In sp.dec j S
        inj = in-alike (in-tail sp.dec j i (j ∷ rest2) (in-head sp.dec j rest2)) (alike-sym ij)

        zz : D *ℤ sp.val W w -ℤ (b i *ℤ sp.val W i +ℤ b j *ℤ sp.val W j) ≡ pos 0
        zz = ap (λ y. D *ℤ sp.val W w -ℤ y) (sym (is (sp.val W))) ∙ sym (excess-is (sp.val W) w S D b) ∙ z

        sum : b i +ℤ b j ≡ D
        sum = ring ((b i) ∷ (b j) ∷ []) (var 0 ⊕ var 1) (var 0 ⊗ num (pos 1) ⊕ var 1 ⊗ num (pos 1)) tt ∙ ap₂ (λ u v. b i *ℤ u +ℤ b j *ℤ v) (sym (sp.one i)) (sym (sp.one j)) ∙ sym (is (sp.hom 0)) ∙ ones b w e

        wi : w ≢ i
        wi q = out (subst (λ y. In sp.dec y S) (sym q) ini)

        wj : w ≢ j
        wj q = out (subst (λ y. In sp.dec y S) (sym q) inj)

        flat : (l : ℕ) → D *ℤ sp.hom l w ≡ b i *ℤ sp.hom l i +ℤ b j *ℤ sp.hom l j
        flat l = e l ∙ is (sp.hom l)

        go : (b i <ℤ pos 0) ⊎ (pos 0 <ℤ b i) → (b j <ℤ pos 0) ⊎ (pos 0 <ℤ b j) → ⊥
        go (inl p) (inl q) = omega (arith, ints, p, q, sum, t.scale_pos)
        go (inr p) (inr q) = omega (arith, ints, zz, between sp W (wall-definite t) w i j wi wj (apart d2) D (b i) (b j) p q flat)
        go (inr p) (inl q) = omega (arith, ints, zz, ring (D ∷ (sp.val W w) ∷ (b i) ∷ (sp.val W i) ∷ (b j) ∷ (sp.val W j) ∷ []) (var 2 ⊗ var 3 ⊖ (var 0 ⊗ var 1 ⊕ neg (var 4) ⊗ var 5)) (neg (var 0 ⊗ var 1 ⊖ (var 2 ⊗ var 3 ⊕ var 4 ⊗ var 5))) tt, between sp W (wall-definite t) i w j (λ c. wi (sym c)) (apart d2) wj (b i) D (neg_ℤ (b j)) t.scale_pos (omega (arith, ints, q)) (λ l. ring_by (D ∷ (sp.hom l w) ∷ (b i) ∷ (sp.hom l i) ∷ (b j) ∷ (sp.hom l j) ∷ []) (var 2 ⊗ var 3) (var 0 ⊗ var 1 ⊕ neg (var 4) ⊗ var 5) (neg (num (pos 1))) (var 0 ⊗ var 1) (var 2 ⊗ var 3 ⊕ var 4 ⊗ var 5) tt (flat l)))
        go (inl p) (inr q) = omega (arith, ints, zz, ring (D ∷ (sp.val W w) ∷ (b i) ∷ (sp.val W i) ∷ (b j) ∷ (sp.val W j) ∷ []) (var 4 ⊗ var 5 ⊖ (var 0 ⊗ var 1 ⊕ neg (var 2) ⊗ var 3)) (neg (var 0 ⊗ var 1 ⊖ (var 2 ⊗ var 3 ⊕ var 4 ⊗ var 5))) tt, between sp W (wall-definite t) j w i (λ c. wj (sym c)) (λ c. apart d2 (sym c)) wi (b j) D (neg_ℤ (b i)) t.scale_pos (omega (arith, ints, p)) (λ l. ring_by (D ∷ (sp.hom l w) ∷ (b i) ∷ (sp.hom l i) ∷ (b j) ∷ (sp.hom l j) ∷ []) (var 4 ⊗ var 5) (var 0 ⊗ var 1 ⊕ neg (var 2) ⊗ var 3) (neg (num (pos 1))) (var 0 ⊗ var 1) (var 2 ⊗ var 3 ⊕ var 4 ⊗ var 5) tt (flat l)))

    -- one
    one : (i : P) (rest1 : List P) → Alike S (i ∷ rest1) → ((v : P) → In sp.dec v rest1 → b v ≡ pos 0) → ⊥
    one i rest1 k1 zr = out (subst (λ y. In sp.dec y S) (sym eq) (in-alike (in-head sp.dec i rest1) (alike-sym k1)))
      where
        is : (f : P → ℤ) → qs f b S ≡ b i *ℤ f i
        is f = alike-qs f b i k1 ∙ ap (λ y. b i *ℤ f i +ℤ y) (qs-zero sp.dec f b rest1 zr) ∙ ring ((b i *ℤ f i) ∷ []) (var 0 ⊕ num (pos 0)) (var 0) tt

        sum : b i ≡ D
        sum = ring ((b i) ∷ []) (var 0) (var 0 ⊗ num (pos 1)) tt ∙ ap (λ u. b i *ℤ u) (sym (sp.one i)) ∙ sym (is (sp.hom 0)) ∙ ones b w e

        eq : w ≡ i
        eq = sp.inj w i (λ l. cancel_nonzero_z D (sp.hom l w) (sp.hom l i) Dnz (e l ∙ is (sp.hom l) ∙ ap (λ y. y *ℤ sp.hom l i) sum))

    third : (i j : P) (rest1 rest2 : List P) → Alike S (i ∷ rest1) → Alike rest1 (j ∷ rest2) → b i ≢ pos 0 → b j ≢ pos 0 → ((k : P) × (rest3 : List P) × Alike rest2 (k ∷ rest3) × (b k ≢ pos 0)) ⊎ ((v : P) → In sp.dec v rest2 → b v ≡ pos 0) → w ≡ w'
    third i j rest1 rest2 k1 k2 ni nj (inl p) = three i j p.0 rest1 rest2 p.1 k1 k2 p.2 ni nj p.3
    third i j rest1 rest2 k1 k2 ni nj (inr h) = absurd (two i j rest1 rest2 k1 k2 ni nj h)

    second : (i : P) (rest1 : List P) → Alike S (i ∷ rest1) → b i ≢ pos 0 → ((j : P) × (rest2 : List P) × Alike rest1 (j ∷ rest2) × (b j ≢ pos 0)) ⊎ ((v : P) → In sp.dec v rest1 → b v ≡ pos 0) → w ≡ w'
    second i rest1 k1 ni (inl p) = third i p.0 rest1 p.1 k1 p.2 ni p.3 (find sp.dec b p.1)
    second i rest1 k1 ni (inr h) = absurd (one i rest1 k1 h)

    cases : ((i : P) × (rest1 : List P) × Alike S (i ∷ rest1) × (b i ≢ pos 0)) ⊎ ((v : P) → In sp.dec v S → b v ≡ pos 0) → w ≡ w'
    cases (inl p) = second p.0 p.1 p.2 p.3 (find sp.dec b p.1)
    cases (inr h) = absurd (omega (arith, ints, t.scale_pos, ones b w e, qs-zero sp.dec (sp.hom 0) b S h))

-- of the points outside a member, at most one lies on its ellipsoid of W
pub one-outside : {P Form R : Type 0} → {sp : Space P Form} → {Mem : List P → Type 0} → {Reg : R → Type 0} → {func : R → Form → ℤ} → {N : R} → {A W : Form} → (t : Tri sp Mem Reg func N A W) → (S : List P) → Mem S → (w w' : P) → (In sp.dec w S → ⊥) → (In sp.dec w' S → ⊥) → (c c' : ℤ) (b b' : P → ℤ) → Expr sp w S c b → Expr sp w' S c' b' →
    excess (sp.val W) w S c b ≡ pos 0 → excess (sp.val W) w' S c' b' ≡ pos 0 → w ≡ w'
one-outside {P} {Form} {R} {sp} {Mem} {Reg} {func} {N} {A} {W} t S mem w w' out out' c c' b b' e e' z z' =
    let a = t.coords S mem w in let a' = t.coords S mem w' in
    let x : Expr sp w S t.scale (a.0) = record { positive = t.scale_pos; is = a.1 } in
    let x' : Expr sp w' S t.scale (a'.0) = record { positive = t.scale_pos; is = a'.1 } in
    one-at t S mem w w' out out' (a.0) (a'.0) (a.1) (a'.1)
    (rescale-zero (t.simp S mem) w c t.scale b (a.0) e x (sp.val W) z)
    (rescale-zero (t.simp S mem) w' c' t.scale b' (a'.0) e' x' (sp.val W) z')

-- a point on the ellipsoid of W, beyond the facet F of v ∷ F, is the neighbour there
pub beyond : {P Form R : Type 0} → {sp : Space P Form} → {Mem : List P → Type 0} → {Reg : R → Type 0} → {func : R → Form → ℤ} → {N : R} → {A W : Form} → (t : Tri sp Mem Reg func N A W) → (v : P) (F : List P) → Mem (v ∷ F) → (x : P) → (In sp.dec x (v ∷ F) → ⊥) → (c : ℤ) (b : P → ℤ) → Expr sp x (v ∷ F) c b → excess (sp.val W) x (v ∷ F) c b ≡ pos 0 → b v <ℤ pos 0 →
    (w : P) → Mem (w ∷ F) → (o : Opp sp v w F) → (w ≡ x) × (rise (sp.val W) o ≡ pos 0)
beyond {P} {Form} {R} {sp} {Mem} {Reg} {func} {N} {A} {W} t v F mem x out c b e z low w memw o = (one-outside t (v ∷ F) mem w x (opp-out sv (distinct-out sw.distinct) o) out o.c c (upd sp.dec v (neg_ℤ o.m) o.bs) b (opp-expr sv o) e (opp-excess sv o q ∙ flat) z, flat)
  where
    q : P → ℤ
    q = sp.val W

    sv : Simp sp (v ∷ F)
    sv = t.simp (v ∷ F) mem

    sw : Simp sp (w ∷ F)
    sw = t.simp (w ∷ F) memw

    a : (a : P → ℤ) × ((j : ℕ) → t.scale *ℤ sp.hom j x ≡ qs (sp.hom j) a (v ∷ F))
    a = t.coords (v ∷ F) mem x

    a' : (a : P → ℤ) × ((j : ℕ) → t.scale *ℤ sp.hom j x ≡ qs (sp.hom j) a (w ∷ F))
    a' = t.coords (w ∷ F) memw x

    ex : Expr sp x (v ∷ F) t.scale (a.0)
    ex = record { positive = t.scale_pos; is = a.1 }

    ex' : Expr sp x (w ∷ F) t.scale (a'.0)
    ex' = record { positive = t.scale_pos; is = a'.1 }

    weak : {S : List P} → Mem S → Weak sp q S
    weak {S} m = wall-weak t W (its-wall t) S m

    at : t.scale *ℤ q x -ℤ qs q (a.0) (v ∷ F) ≡ pos 0
    at = sym (excess-is q x (v ∷ F) t.scale (a.0)) ∙ rescale-zero sv x c t.scale b (a.0) e ex q z

    after : pos 0 ≤ℤ (t.scale *ℤ q x -ℤ qs q (a'.0) (w ∷ F))
    after = subst (λ y. pos 0 ≤ℤ y) (excess-is q x (w ∷ F) t.scale (a'.0)) ((weak memw).outside x t.scale (a'.0) ex')

    up : pos 0 ≤ℤ rise q o
    up = subst (λ y. pos 0 ≤ℤ y) (opp-excess sv o q) ((weak mem).outside w o.c (upd sp.dec v (neg_ℤ o.m) o.bs) (opp-expr sv o))

    ca : c *ℤ (a.0) v ≡ t.scale *ℤ b v
    ca = same-at sv (λ y. c *ℤ (a.0) y) (λ y. t.scale *ℤ b y) (λ j. qs-scale (sp.hom j) (a.0) c (v ∷ F) ∙ ring_by_two (c ∷ t.scale ∷ (sp.hom j x) ∷ (qs (sp.hom j) (a.0) (v ∷ F)) ∷ (qs (sp.hom j) b (v ∷ F)) ∷ []) (var 0 ⊗ var 3) (var 1 ⊗ var 4) (neg (var 0)) (var 1 ⊗ var 2) (var 3) (var 1) (var 0 ⊗ var 2) (var 4) tt (a.1 j) (e.is j) ∙ sym (qs-scale (sp.hom j) b t.scale (v ∷ F))) v (in-head sp.dec v F)

    neg_a : (a.0) v <ℤ pos 0
    neg_a = by_lt_z ((a.0) v) (pos 0) (λ l. l) (λ g. absurd (omega (arith, ints, mul_nonneg_z c ((a.0) v) (omega (arith, ints, e.positive)) g, ca, mul_neg_pos (b v) t.scale low t.scale_pos, ring (t.scale ∷ (b v) ∷ []) (var 0 ⊗ var 1) (var 1 ⊗ var 0) tt)))

    moved : o.m *ℤ (t.scale *ℤ q x -ℤ qs q (a'.0) (w ∷ F)) ≡ o.m *ℤ (t.scale *ℤ q x -ℤ qs q (a.0) (v ∷ F)) +ℤ (a.0) v *ℤ ((o.c *ℤ q w +ℤ o.m *ℤ q v) -ℤ qs q o.bs F)
    moved = change v w sw (λ j. t.scale *ℤ sp.hom j x) (t.scale *ℤ q x) o.c o.m o.bs (a.0) (a'.0) o.flat (a.1) (a'.1) q

    sum : o.m *ℤ (t.scale *ℤ q x -ℤ qs q (a'.0) (w ∷ F)) ≡ (a.0) v *ℤ rise q o
    sum = moved ∙ ap₂ (λ y u. o.m *ℤ y +ℤ (a.0) v *ℤ u) at (sym (rise-is q o)) ∙ ring (o.m ∷ ((a.0) v *ℤ rise q o) ∷ []) (var 0 ⊗ num (pos 0) ⊕ var 1) (var 1) tt

    flat : rise q o ≡ pos 0
    flat = by_lt_z (pos 0) (rise q o) (λ l. absurd (omega (arith, ints, mul_neg_pos ((a.0) v) (rise q o) neg_a l, sum, mul_nonneg_z o.m (t.scale *ℤ q x -ℤ qs q (a'.0) (w ∷ F)) (omega (arith, ints, o.m_pos)) after))) (λ g. omega (arith, ints, g, up))

-- as it is used
pub next-member : {P Form R : Type 0} → {sp : Space P Form} → {Mem : List P → Type 0} → {Reg : R → Type 0} → {func : R → Form → ℤ} → {N : R} → {A W : Form} → (t : Tri sp Mem Reg func N A W) → (v : P) (F : List P) → Mem (v ∷ F) → (x : P) → (In sp.dec x (v ∷ F) → ⊥) → (c : ℤ) (b : P → ℤ) → Expr sp x (v ∷ F) c b → excess (sp.val W) x (v ∷ F) c b ≡ pos 0 → b v <ℤ pos 0 → Mem (x ∷ F)
next-member {P} {Form} {R} {sp} {Mem} {Reg} {func} {N} {A} {W} t v F mem x out c b e z low =
    let n = t.closed v F mem in
    subst (λ y. Mem (y ∷ F)) ((beyond t v F mem x out c b e z low (n.0) (n.1) (n.2)).0) (n.1)

-- members on the same side of a common facet are equal
pub one-side : {P Form : Type 0} → {sp : Space P Form} → (q : P → ℤ) (p w : P) (F : List P) → Simp sp (p ∷ F) → Strict sp q (p ∷ F) → Simp sp (w ∷ F) → Weak sp q (w ∷ F) → Same sp p w F → w ≡ p
one-side {P} {Form} {sp} q p w F hp kp hw kw s = elim (in-cases sp.dec w p F (kp.touches w s.c (upd sp.dec p s.m s.bs) ex (excess-head sp.dec q w p F s.c s.m s.bs np ∙ zero))) [ inl e ↦ e | inr i ↦ absurd (nw i) ]
  where
    np : In sp.dec p F → ⊥
    np = distinct-out hp.distinct

    nw : In sp.dec w F → ⊥
    nw = distinct-out hw.distinct

    ex : Expr sp w (p ∷ F) s.c (upd sp.dec p s.m s.bs)
    ex = expr-head sp w p F s.c s.m s.bs np s.c_pos s.flat

    turned : (j : ℕ) → s.m *ℤ sp.hom j p ≡ s.c *ℤ sp.hom j w +ℤ qs (sp.hom j) (λ v. neg_ℤ (s.bs v)) F
    turned j = ring_by ((s.m *ℤ sp.hom j p) ∷ (s.c *ℤ sp.hom j w) ∷ (qs (sp.hom j) s.bs F) ∷ []) (var 0) (var 1 ⊕ neg (var 2)) (neg (num (pos 1))) (var 1) (var 0 ⊕ var 2) tt (s.flat j) ∙ ap (λ y. s.c *ℤ sp.hom j w +ℤ y) (sym (qs-minus (sp.hom j) s.bs F))

    up : pos 0 ≤ℤ (s.c *ℤ q w -ℤ (s.m *ℤ q p +ℤ qs q s.bs F))
    up = subst (λ y. pos 0 ≤ℤ y) (excess-head sp.dec q w p F s.c s.m s.bs np) (kp.weak.outside w s.c (upd sp.dec p s.m s.bs) ex)

    down : pos 0 ≤ℤ (s.m *ℤ q p -ℤ (s.c *ℤ q w +ℤ neg_ℤ (qs q s.bs F)))
    down = subst (λ y. pos 0 ≤ℤ y) (excess-head sp.dec q p w F s.m s.c (λ v. neg_ℤ (s.bs v)) nw ∙ ap (λ y. s.m *ℤ q p -ℤ (s.c *ℤ q w +ℤ y)) (qs-minus q s.bs F)) (kw.outside p s.m (upd sp.dec w s.c (λ v. neg_ℤ (s.bs v))) (expr-head sp p w F s.m s.c (λ v. neg_ℤ (s.bs v)) nw s.m_pos turned))

    zero : s.c *ℤ q w -ℤ (s.m *ℤ q p +ℤ qs q s.bs F) ≡ pos 0
    zero = omega (arith, ints, up, down)

pub same-side : {P Form R : Type 0} → {sp : Space P Form} → {Mem : List P → Type 0} → {Reg : R → Type 0} → {func : R → Form → ℤ} → {N : R} → {A W : Form} → (t : Tri sp Mem Reg func N A W) → (p w : P) (F : List P) → Mem (p ∷ F) → Mem (w ∷ F) → Same sp p w F → w ≡ p
same-side {P} {Form} {R} {sp} {Mem} {Reg} {func} {N} {A} {W} t p w F mp mw s = one-side (sp.val A) p w F (t.simp (p ∷ F) mp) (t.strict (p ∷ F) mp) (t.simp (w ∷ F) mw) ((t.strict (w ∷ F) mw).weak) s
