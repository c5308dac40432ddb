-- Local to global: where each facet rises for a form, every member is strictly empty for it.
use Rattle.std.proofs.Common.{List, [], ◌∷◌, ◌≡◌, ℕ, zero, suc, ◌⊎◌, inl, inr, sym, ◌∙◌, ap, ap₂, arith, ℤ, pos, ◌+ℤ◌, ◌*ℤ◌, ◌<ℤ◌, ◌≤ℤ◌}
use Rattle.std.proofs.lemmas.Int.{ints, by_lt_z}
use Rattle.lt_model.proofs.Ring.{ring, var, num, ◌⊗◌}
use Rattle.lt_walls.proofs.Sums.{qs}
use Rattle.lt_model.proofs.Inequalities.{mul_pos_z}
use Rattle.lt_walls.proofs.Signs.{mul_neg_pos, step, raised}
use Rattle.lt_walls.proofs.Lists.{Alike, In, negative}
use Rattle.lt_walls.proofs.Space.{Space, Simp, Expr, Strict, Definite, excess, excess-is, Opp, rise, rise-is, rescale, inner, change}
use Rattle.lt_walls.proofs.Ellipsoid.{excess-alike}
use Rattle.lt_walls.proofs.Strictly.{vertex-zero, above}

-- placed simplices with one scale, closed under facets and strictly empty for the definite form A; A and Q rise at each facet
pub record Net {P Form : Type 0} (sp : Space P Form) (Mem : List P → Type 0) (A Q : Form) : Type 0 where
  pub alike : {S S' : List P} → Mem S → Alike S S' → Mem S'
  pub simp : (S : List P) → Mem S → Simp sp S
  pub scale : ℤ
  pub scale_pos : pos 0 <ℤ scale
  pub coords : (S : List P) → Mem S → (x : P) → (a : P → ℤ) × ((j : ℕ) → scale *ℤ sp.hom j x ≡ qs (sp.hom j) a S)
  pub closed : (p : P) (F : List P) → Mem (p ∷ F) → (w : P) × Mem (w ∷ F) × Opp sp p w F
  pub strict : (S : List P) → Mem S → Strict sp (sp.val A) S
  pub definite : Definite sp A
  pub first : (p w : P) (F : List P) → Mem (p ∷ F) → Mem (w ∷ F) → (o : Opp sp p w F) → pos 0 <ℤ rise (sp.val A) o
  pub second : (p w : P) (F : List P) → Mem (p ∷ F) → Mem (w ∷ F) → (o : Opp sp p w F) → pos 0 <ℤ rise (sp.val Q) o

-- the claim at one simplex, from the claim where the excess at A is smaller
onward : {P Form : Type 0} → {sp : Space P Form} → {Mem : List P → Type 0} → {A Q : Form} → (t : Net sp Mem A Q) → (x : P) (n : ℕ) →
    ((S : List P) → Mem S → (a : P → ℤ) → Expr sp x S t.scale a → excess (sp.val A) x S t.scale a <ℤ pos n → In sp.dec x S ⊎ (pos 0 <ℤ excess (sp.val Q) x S t.scale a)) →
    (S : List P) → Mem S → (a : P → ℤ) → Expr sp x S t.scale a → excess (sp.val A) x S t.scale a <ℤ pos (suc n) → In sp.dec x S ⊎ (pos 0 <ℤ excess (sp.val Q) x S t.scale a)
onward {P} {Form} {sp} {Mem} {A} {Q} t x n ih S mem a e lt = go (negative sp.dec a S)
  where
    D : ℤ
    D = t.scale

    go : ((r : P) × (F : List P) × Alike S (r ∷ F) × (a r <ℤ pos 0)) ⊎ ((v : P) → In sp.dec v S → pos 0 ≤ℤ a v) → In sp.dec x S ⊎ (pos 0 <ℤ excess (sp.val Q) x S D a)
    go (inr h) = inl (inner sp A t.definite x S D a e h ((t.strict S mem).weak.outside x D a e))
    go (inl g) = inr (raised o.m (a r) (rise (sp.val Q) o) (excess (sp.val Q) x S D a) (excess (sp.val Q) x (z ∷ F) D (c.0)) o.m_pos (g.3) (t.second r z F mr mz o) (at_z (ih (z ∷ F) mz (c.0) ez (omega (arith, ints, less, lt)))) (moved (sp.val Q)))
      where
        r : P
        r = g.0

        F : List P
        F = g.1

        mr : Mem (r ∷ F)
        mr = t.alike mem (g.2)

        next : (w : P) × Mem (w ∷ F) × Opp sp r w F
        next = t.closed r F mr

        z : P
        z = next.0

        mz : Mem (z ∷ F)
        mz = next.1

        o : Opp sp r z F
        o = next.2

        sz : Simp sp (z ∷ F)
        sz = t.simp (z ∷ F) mz

        c : (c : P → ℤ) × ((j : ℕ) → D *ℤ sp.hom j x ≡ qs (sp.hom j) c (z ∷ F))
        c = t.coords (z ∷ F) mz x

        ez : Expr sp x (z ∷ F) D (c.0)
        ez = record { positive = t.scale_pos; is = c.1 }

        moved : (q : P → ℤ) → o.m *ℤ excess q x (z ∷ F) D (c.0) ≡ o.m *ℤ excess q x S D a +ℤ a r *ℤ rise q o
        moved q = ap (λ y. o.m *ℤ y) (excess-is q x (z ∷ F) D (c.0)) ∙ change r z sz (λ j. D *ℤ sp.hom j x) (D *ℤ q x) o.c o.m o.bs a (c.0) o.flat (λ j. e.is j ∙ (g.2).same (sp.hom j) a) (c.1) q
            ∙ ap₂ (λ y v. o.m *ℤ y +ℤ a r *ℤ v) (sym (excess-is q x (r ∷ F) D a) ∙ sym (excess-alike q x D a (g.2))) (sym (rise-is q o))

        less : excess (sp.val A) x (z ∷ F) D (c.0) <ℤ excess (sp.val A) x S D a
        less = step o.m (a r) (rise (sp.val A) o) (excess (sp.val A) x S D a) (excess (sp.val A) x (z ∷ F) D (c.0)) o.m_pos (g.3) (t.first r z F mr mz o) (moved (sp.val A))

        at_z : In sp.dec x (z ∷ F) ⊎ (pos 0 <ℤ excess (sp.val Q) x (z ∷ F) D (c.0)) → pos 0 ≤ℤ excess (sp.val Q) x (z ∷ F) D (c.0)
        at_z (inl i) = omega (arith, ints, vertex-zero sz x i D (c.0) ez (sp.val Q))
        at_z (inr l) = omega (arith, ints, l)

claim : {P Form : Type 0} → {sp : Space P Form} → {Mem : List P → Type 0} → {A Q : Form} → (t : Net sp Mem A Q) → (x : P) (n : ℕ) →
    (S : List P) → Mem S → (a : P → ℤ) → Expr sp x S t.scale a → excess (sp.val A) x S t.scale a <ℤ pos n → In sp.dec x S ⊎ (pos 0 <ℤ excess (sp.val Q) x S t.scale a)
claim t x zero S mem a e lt = absurd (omega (arith, ints, (t.strict S mem).weak.outside x t.scale a e, lt))
claim t x (suc n) S mem a e lt = onward t x n (claim t x n) S mem a e lt

-- every one is strictly empty for Q
pub local-strict : {P Form : Type 0} → {sp : Space P Form} → {Mem : List P → Type 0} → {A Q : Form} → (t : Net sp Mem A Q) → (S : List P) → Mem S → Strict sp (sp.val Q) S
local-strict {P} {Form} {sp} {Mem} {A} {Q} t S mem = record {
  weak = record { outside = λ x c b e. up x c b e (known x) };
  touches = λ x c b e z. touch x c b e z (known x);
}
  where
    D : ℤ
    D = t.scale

    q : P → ℤ
    q = sp.val Q

    at : (x : P) → P → ℤ
    at x = (t.coords S mem x).0

    ex : (x : P) → Expr sp x S D (at x)
    ex x = record { positive = t.scale_pos; is = (t.coords S mem x).1 }

    known : (x : P) → In sp.dec x S ⊎ (pos 0 <ℤ excess q x S D (at x))
    known x = let n = above (excess (sp.val A) x S D (at x)) in claim t x (n.0) S mem (at x) (ex x) (n.1)

    eq : (x : P) (c : ℤ) (b : P → ℤ) → Expr sp x S c b → D *ℤ excess q x S c b ≡ c *ℤ excess q x S D (at x)
    eq x c b e = rescale (t.simp S mem) x c D b (at x) e.is (ex x).is q

    up : (x : P) (c : ℤ) (b : P → ℤ) → Expr sp x S c b → In sp.dec x S ⊎ (pos 0 <ℤ excess q x S D (at x)) → pos 0 ≤ℤ excess q x S c b
    up x c b e (inl i) = omega (arith, ints, vertex-zero (t.simp S mem) x i c b e q)
    up x c b e (inr l) = by_lt_z (excess q x S c b) (pos 0) (λ h. absurd (omega (arith, ints, eq x c b e, mul_pos_z c (excess q x S D (at x)) e.positive l, mul_neg_pos (excess q x S c b) D h t.scale_pos, ring (D ∷ (excess q x S c b) ∷ []) (var 0 ⊗ var 1) (var 1 ⊗ var 0) tt))) (λ g. g)

    touch : (x : P) (c : ℤ) (b : P → ℤ) → Expr sp x S c b → excess q x S c b ≡ pos 0 → In sp.dec x S ⊎ (pos 0 <ℤ excess q x S D (at x)) → In sp.dec x S
    touch x c b e z (inl i) = i
    touch x c b e z (inr l) = absurd (omega (arith, ints, eq x c b e, mul_pos_z c (excess q x S D (at x)) e.positive l, ap (λ y. D *ℤ y) z, ring (D ∷ []) (var 0 ⊗ num (pos 0)) (num (pos 0)) tt))
