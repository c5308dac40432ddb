-- The number m from which on each facet of the flipped set rises for m W - A, and the flip theorem.
use Rattle.std.proofs.Common.{List, [], ◌∷◌, ◌≡◌, ◌≢◌, ℕ, ◌⊎◌, inl, inr, refl, sym, ◌∙◌, ap, ap₂, subst, arith, ℤ, pos, negsuc, neg_ℤ, ◌+ℤ◌, ◌-ℤ◌, ◌*ℤ◌, ◌<ℤ◌, ◌≤ℤ◌}
use Rattle.std.proofs.lemmas.Int.{ints, by_lt_z}
use Rattle.lt_model.proofs.Ring.{ring, ring_by, ring_by_two, var, num, neg, ◌⊕◌, ◌⊖◌, ◌⊗◌}
use Rattle.lt_walls.proofs.Signs.{ring_by_three}
use Rattle.lt_walls.proofs.Sums.{qs, qs-lin}
use Rattle.lt_model.proofs.Inequalities.{mul_nonneg_z}
use Rattle.lt_walls.proofs.Lists.{Alike, alike-sym, alike-trans, alike-cons, alike-cancel, qs-of, qs-fun, qs-minus, In, in-nil, in-head, in-tail, in-cases, in-alike, front, distinct-alike, distinct-out, upd, upd-at, upd-off, upd-cons, qs-zero}
use Rattle.lt_walls.proofs.Space.{Space, Simp, Expr, Strict, Definite, excess, excess-is, Opp, rise, rise-is, opp-alike, rise-alike, opp-out, same-sum, same-at}
use Rattle.lt_walls.proofs.Walls.{Tri}
use Rattle.lt_walls.proofs.Cells.{Cell, Out, New}
use Rattle.lt_walls.proofs.Flip.{Flipped, flipped-simp, flipped-alike, flipped-closed, flipped-rise, Next}
use Rattle.lt_walls.proofs.Strictly.{Scale, Margin, flipped-strict}

unfoldable pub moved : {P : Type 0} → (P → P) → List P → List P
moved m [] = []
moved m (v ∷ S) = m v ∷ moved m S

pub qs-moved : {P : Type 0} → (m : P → P) (f b : P → ℤ) (S : List P) → qs f b (moved m S) ≡ qs (λ v. f (m v)) (λ v. b (m v)) S
unfolding qs moved
qs-moved m f b [] = refl
qs-moved m f b (v ∷ S) = ap (λ z. b (m v) *ℤ f (m v) +ℤ z) (qs-moved m f b S)

pub alike-moved : {P : Type 0} → (m : P → P) → {S S' : List P} → Alike S S' → Alike (moved m S) (moved m S')
alike-moved m {S} {S'} h = record { same = λ f b. qs-moved m f b S ∙ h.same (λ v. f (m v)) (λ v. b (m v)) ∙ sym (qs-moved m f b S') }

pub moved-cons : {P : Type 0} → (m : P → P) (v : P) (S : List P) → moved m (v ∷ S) ≡ m v ∷ moved m S
unfolding moved
moved-cons m v S = refl

-- translations: move y, with the opposite of y, as they act on coordinates, values and members
pub record Moves {P Form R : Type 0} {sp : Space P Form} {Mem : List P → Type 0} {Reg : R → Type 0} {func : R → Form → ℤ} {N : R} {A W : Form} (t : Tri sp Mem Reg func N A W) : Type 0 where
  pub move : P → P → P
  pub opposite : P → P
  pub undo : (y v : P) → move (opposite y) (move y v) ≡ v
  pub redo : (y v : P) → move y (move (opposite y) v) ≡ v
  pub off : ℕ → P → ℤ
  pub homs : (j : ℕ) (y v : P) → sp.hom j (move y v) ≡ sp.hom j v +ℤ off j y
  pub vals : (Q : Form) (y : P) (s : P → ℤ) (V : List P) → ((j : ℕ) → qs (sp.hom j) s V ≡ pos 0) → qs (λ v. sp.val Q (move y v)) s V ≡ qs (sp.val Q) s V
  pub mem : (y : P) (S : List P) → Mem S → Mem (moved (move y) S)

-- moved there and back
pub moved-back : {P Form R : Type 0} → {sp : Space P Form} → {Mem : List P → Type 0} → {Reg : R → Type 0} → {func : R → Form → ℤ} → {N : R} → {A W : Form} → (t : Tri sp Mem Reg func N A W) → (k : Moves t) (y : P) (S : List P) → moved (k.move (k.opposite y)) (moved (k.move y) S) ≡ S
unfolding moved
moved-back t k y [] = refl
moved-back t k y (v ∷ S) = ap₂ (λ a b. a ∷ b) (k.undo y v) (moved-back t k y S)

-- coefficients moved along
pub along : {P Form R : Type 0} → {sp : Space P Form} → {Mem : List P → Type 0} → {Reg : R → Type 0} → {func : R → Form → ℤ} → {N : R} → {A W : Form} → (t : Tri sp Mem Reg func N A W) → (k : Moves t) (y : P) → (P → ℤ) → P → ℤ
along t k y s v = s (k.move (k.opposite y) v)

qs-along : {P Form R : Type 0} → {sp : Space P Form} → {Mem : List P → Type 0} → {Reg : R → Type 0} → {func : R → Form → ℤ} → {N : R} → {A W : Form} → (t : Tri sp Mem Reg func N A W) → (k : Moves t) (y : P) (f s : P → ℤ) (S : List P) → qs f (along t k y s) (moved (k.move y) S) ≡ qs (λ v. f (k.move y v)) s S
unfolding along qs moved
qs-along t k y f s [] = refl
qs-along t k y f s (v ∷ S) = ap₂ (λ a z. a *ℤ f (k.move y v) +ℤ z) (ap s (k.undo y v)) (qs-along t k y f s S)

-- a sum of coordinates after a move
shifted : {P Form R : Type 0} → {sp : Space P Form} → {Mem : List P → Type 0} → {Reg : R → Type 0} → {func : R → Form → ℤ} → {N : R} → {A W : Form} → (t : Tri sp Mem Reg func N A W) → (k : Moves t) (y : P) (j : ℕ) (s : P → ℤ) (S : List P) → qs (λ v. sp.hom j (k.move y v)) s S ≡ qs (sp.hom j) s S +ℤ k.off j y *ℤ qs (sp.hom 0) s S
shifted {P} {Form} {R} {sp} {Mem} {Reg} {func} {N} {A} {W} t k y j s S = qs-fun (λ v. sp.hom j (k.move y v)) (λ v. pos 1 *ℤ sp.hom j v +ℤ k.off j y *ℤ sp.hom 0 v) s (λ v. k.homs j y v ∙ ring_by ((sp.hom j v) ∷ (k.off j y) ∷ (sp.hom 0 v) ∷ []) (var 0 ⊕ var 1) (num (pos 1) ⊗ var 0 ⊕ var 1 ⊗ var 2) (neg (var 1)) (var 2) (num (pos 1)) tt (sp.one v)) S ∙ qs-of (sp.hom j) (sp.hom 0) s (pos 1) (k.off j y) S ∙ ring ((qs (sp.hom j) s S) ∷ (k.off j y *ℤ qs (sp.hom 0) s S) ∷ []) (num (pos 1) ⊗ var 0 ⊕ var 1) (var 0 ⊕ var 1) tt

flat-along : {P Form R : Type 0} → {sp : Space P Form} → {Mem : List P → Type 0} → {Reg : R → Type 0} → {func : R → Form → ℤ} → {N : R} → {A W : Form} → (t : Tri sp Mem Reg func N A W) → (k : Moves t) (y : P) (s : P → ℤ) (V : List P) → ((j : ℕ) → qs (sp.hom j) s V ≡ pos 0) → (j : ℕ) → qs (sp.hom j) (along t k y s) (moved (k.move y) V) ≡ pos 0
flat-along {P} {Form} {R} {sp} {Mem} {Reg} {func} {N} {A} {W} t k y s V fl j = qs-along t k y (sp.hom j) s V ∙ shifted t k y j s V ∙ ap₂ (λ a b. a +ℤ k.off j y *ℤ b) (fl j) (fl 0) ∙ ring ((k.off j y) ∷ []) (num (pos 0) ⊕ var 0 ⊗ num (pos 0)) (num (pos 0)) tt

along-at : {P Form R : Type 0} → {sp : Space P Form} → {Mem : List P → Type 0} → {Reg : R → Type 0} → {func : R → Form → ℤ} → {N : R} → {A W : Form} → (t : Tri sp Mem Reg func N A W) → (k : Moves t) (y : P) (s : P → ℤ) (v : P) → along t k y s (k.move y v) ≡ s v
unfolding along
along-at t k y s v = ap s (k.undo y v)

pub cell-moved : {P Form R : Type 0} → {sp : Space P Form} → {Mem : List P → Type 0} → {Reg : R → Type 0} → {func : R → Form → ℤ} → {N : R} → {A W : Form} → (t : Tri sp Mem Reg func N A W) → (k : Moves t) (y : P) → {V : List P} → {s : P → ℤ} → Cell t V s → Cell t (moved (k.move y) V) (along t k y s)
unfolding moved
cell-moved {P} {Form} {R} {sp} {Mem} {Reg} {func} {N} {A} {W} t k y {V} {s} c = record {
  p = k.move y c.p;
  w = k.move y c.w;
  F = moved (k.move y) c.F;
  all = alike-moved (k.move y) c.all;
  mem_p = k.mem y (c.p ∷ c.F) c.mem_p;
  mem_w = k.mem y (c.w ∷ c.F) c.mem_w;
  p_pos = subst (λ z. pos 0 <ℤ z) (sym (along-at t k y s c.p)) c.p_pos;
  w_pos = subst (λ z. pos 0 <ℤ z) (sym (along-at t k y s c.w)) c.w_pos;
  flat = flat-along t k y s V c.flat;
  factor = c.factor;
  factor_pos = c.factor_pos;
  multiple = λ Q. qs-along t k y (sp.val Q) s V ∙ k.vals Q y s V c.flat ∙ c.multiple Q;
}

pub out-moved : {P Form R : Type 0} → {sp : Space P Form} → {Mem : List P → Type 0} → {Reg : R → Type 0} → {func : R → Form → ℤ} → {N : R} → {A W : Form} → (t : Tri sp Mem Reg func N A W) → (k : Moves t) (y : P) (S : List P) → Out t S → Out t (moved (k.move y) S)
unfolding moved
out-moved {P} {Form} {R} {sp} {Mem} {Reg} {func} {N} {A} {W} t k y S o = record {
  V = moved (k.move y) o.V;
  s = along t k y o.s;
  i = k.move y o.i;
  cell = cell-moved t k y o.cell;
  above = subst (λ z. pos 0 <ℤ z) (sym (along-at t k y o.s o.i)) o.above;
  rest = alike-moved (k.move y) o.rest;
}

pub new-moved : {P Form R : Type 0} → {sp : Space P Form} → {Mem : List P → Type 0} → {Reg : R → Type 0} → {func : R → Form → ℤ} → {N : R} → {A W : Form} → (t : Tri sp Mem Reg func N A W) → (k : Moves t) (y : P) (S : List P) → New t S → New t (moved (k.move y) S)
unfolding moved
new-moved {P} {Form} {R} {sp} {Mem} {Reg} {func} {N} {A} {W} t k y S o = record {
  V = moved (k.move y) o.V;
  s = along t k y o.s;
  u = k.move y o.u;
  cell = cell-moved t k y o.cell;
  below = subst (λ z. z <ℤ pos 0) (sym (along-at t k y o.s o.u)) o.below;
  rest = alike-moved (k.move y) o.rest;
}

pub flipped-moved : {P Form R : Type 0} → {sp : Space P Form} → {Mem : List P → Type 0} → {Reg : R → Type 0} → {func : R → Form → ℤ} → {N : R} → {A W : Form} → (t : Tri sp Mem Reg func N A W) → (k : Moves t) (y : P) (S : List P) → Flipped t S → Flipped t (moved (k.move y) S)
unfolding Flipped
flipped-moved t k y S (inr n) = inr (new-moved t k y S n)
flipped-moved t k y S (inl h) = inl (record { mem = k.mem y S h.mem; none = λ o. h.none (subst (Out t) (moved-back t k y S) (out-moved t k (k.opposite y) (moved (k.move y) S) o)) })

opp-moved : {P Form R : Type 0} → {sp : Space P Form} → {Mem : List P → Type 0} → {Reg : R → Type 0} → {func : R → Form → ℤ} → {N : R} → {A W : Form} → (t : Tri sp Mem Reg func N A W) → (k : Moves t) (y : P) → (r z : P) (F : List P) → Opp sp r z F → Opp sp (k.move y r) (k.move y z) (moved (k.move y) F)
opp-moved {P} {Form} {R} {sp} {Mem} {Reg} {func} {N} {A} {W} t k y r z F o = record {
  c = o.c;
  m = o.m;
  bs = along t k y o.bs;
  c_pos = o.c_pos;
  m_pos = o.m_pos;
  flat = λ j. ap₂ (λ a b. o.c *ℤ a +ℤ o.m *ℤ b) (k.homs j y z) (k.homs j y r)
      ∙ ring_by_two (o.c ∷ o.m ∷ (sp.hom j z) ∷ (sp.hom j r) ∷ (k.off j y) ∷ (qs (sp.hom j) o.bs F) ∷ (qs (sp.hom 0) o.bs F) ∷ []) (var 0 ⊗ (var 2 ⊕ var 4) ⊕ var 1 ⊗ (var 3 ⊕ var 4)) (var 5 ⊕ var 4 ⊗ var 6) (num (pos 1)) (var 0 ⊗ var 2 ⊕ var 1 ⊗ var 3) (var 5) (var 4) (var 0 ⊗ num (pos 1) ⊕ var 1 ⊗ num (pos 1)) (var 6) tt (o.flat j) (ap₂ (λ a b. o.c *ℤ a +ℤ o.m *ℤ b) (sym (sp.one z)) (sym (sp.one r)) ∙ o.flat 0)
      ∙ sym (shifted t k y j o.bs F) ∙ sym (qs-along t k y (sp.hom j) o.bs F);
}

-- the dependency of a pair as one function
pub opp-fn : {P Form : Type 0} → {sp : Space P Form} → {r z : P} → {F : List P} → Opp sp r z F → P → ℤ
opp-fn {P} {Form} {sp} {r} {z} {F} o = upd sp.dec z o.c (upd sp.dec r o.m (λ v. neg_ℤ (o.bs v)))

pub opp-sum : {P Form : Type 0} → {sp : Space P Form} → {r z : P} → {F : List P} → (o : Opp sp r z F) → (In sp.dec z (r ∷ F) → ⊥) → (In sp.dec r F → ⊥) → (f : P → ℤ) → qs f (opp-fn o) (z ∷ r ∷ F) ≡ rise f o
unfolding opp-fn
opp-sum {P} {Form} {sp} {r} {z} {F} o nz nr f = upd-cons sp.dec z o.c (upd sp.dec r o.m (λ v. neg_ℤ (o.bs v))) f (r ∷ F) nz ∙ ap (λ y. o.c *ℤ f z +ℤ y) (upd-cons sp.dec r o.m (λ v. neg_ℤ (o.bs v)) f F nr ∙ ap (λ y. o.m *ℤ f r +ℤ y) (qs-minus f o.bs F))
    ∙ ring ((o.c *ℤ f z) ∷ (o.m *ℤ f r) ∷ (qs f o.bs F) ∷ []) (var 0 ⊕ (var 1 ⊕ neg (var 2))) (var 0 ⊕ var 1 ⊖ var 2) tt ∙ sym (rise-is f o)

pub opp-flat : {P Form : Type 0} → {sp : Space P Form} → {r z : P} → {F : List P} → (o : Opp sp r z F) → (j : ℕ) → rise (sp.hom j) o ≡ pos 0
opp-flat {P} {Form} {sp} {r} {z} {F} o j = rise-is (sp.hom j) o ∙ ap (λ y. y -ℤ qs (sp.hom j) o.bs F) (o.flat j) ∙ ring ((qs (sp.hom j) o.bs F) ∷ []) (var 0 ⊖ var 0) (num (pos 0)) tt

rise-moved : {P Form R : Type 0} → {sp : Space P Form} → {Mem : List P → Type 0} → {Reg : R → Type 0} → {func : R → Form → ℤ} → {N : R} → {A W : Form} → (t : Tri sp Mem Reg func N A W) → (k : Moves t) (y r z : P) (F : List P) (o : Opp sp r z F) → (In sp.dec z (r ∷ F) → ⊥) → (In sp.dec r F → ⊥) → (Q : Form) → rise (sp.val Q) (opp-moved t k y r z F o) ≡ rise (sp.val Q) o
unfolding opp-moved
rise-moved {P} {Form} {R} {sp} {Mem} {Reg} {func} {N} {A} {W} t k y r z F o nz nr Q =
    rise-is (sp.val Q) (opp-moved t k y r z F o) ∙ ap (λ a. (o.c *ℤ sp.val Q (k.move y z) +ℤ o.m *ℤ sp.val Q (k.move y r)) -ℤ a) (qs-along t k y (sp.val Q) o.bs F) ∙ sym (rise-is (λ v. sp.val Q (k.move y v)) o)
    ∙ sym (opp-sum o nz nr (λ v. sp.val Q (k.move y v))) ∙ k.vals Q y (opp-fn o) (z ∷ r ∷ F) (λ j. opp-sum o nz nr (sp.hom j) ∙ opp-flat o j) ∙ opp-sum o nz nr (sp.val Q)

-- ---- finitely many simplices up to translation

unfoldable pub Member : {X : Type 0} → X → List X → Type 0
Member x [] = ⊥
Member x (y ∷ ys) = (x ≡ y) ⊎ Member x ys

pub record Finite {P Form R : Type 0} {sp : Space P Form} {Mem : List P → Type 0} {Reg : R → Type 0} {func : R → Form → ℤ} {N : R} {A W : Form} (t : Tri sp Mem Reg func N A W) (k : Moves t) : Type 0 where
  pub reps : List (List P)
  pub here : (R : List P) → Member R reps → Flipped t R
  pub covers : (S : List P) → Flipped t S → (R : List P) × (y : P) × Member R reps × Alike S (moved (k.move y) R)

pub larger : (m n : ℤ) → (k : ℤ) × (m ≤ℤ k) × (n ≤ℤ k)
larger m n = by_lt_z m n (λ l. (n, omega (arith, ints), omega (arith, ints))) (λ g. (m, omega (arith, ints), omega (arith, ints)))

pub together : {P : Type 0} → (dec : (x y : P) → Dec (x ≡ y)) (Z : P → ℤ → Type 0) → ((v : P) (m n : ℤ) → m ≤ℤ n → Z v m → Z v n) → (S : List P) → ((v : P) → In dec v S → (m : ℤ) × Z v m) → (m : ℤ) × ((v : P) → In dec v S → Z v m)
together dec Z up [] h = (pos 0, λ v i. absurd (in-nil i))
together {P} dec Z up (x ∷ S) h = go (h x (in-head dec x S)) (together dec Z up S (λ v i. h v (in-tail dec v x S i)))
  where
    all : (n : ℤ) → Z x n → ((v : P) → In dec v S → Z v n) → (v : P) → (v ≡ x) ⊎ In dec v S → Z v n
    all n a k v (inl q) = subst (λ y. Z y n) (sym q) a
    all n a k v (inr i) = k v i

    go : (m : ℤ) × Z x m → (m : ℤ) × ((v : P) → In dec v S → Z v m) → (m : ℤ) × ((v : P) → In dec v (x ∷ S) → Z v m)
    go a b = let n = larger (a.0) (b.0) in (n.0, λ v i. all (n.0) (up x (a.0) (n.0) (n.1) (a.1)) (λ u j. up u (b.0) (n.0) (n.2) ((b.1) u j)) v (in-cases dec v x S i))

together_in : {X : Type 0} → (Z : X → ℤ → Type 0) → ((v : X) (m n : ℤ) → m ≤ℤ n → Z v m → Z v n) → (L : List X) → ((v : X) → Member v L → (m : ℤ) × Z v m) → (m : ℤ) × ((v : X) → Member v L → Z v m)
unfolding Member
together_in Z up [] h = (pos 0, λ v i. absurd i)
together_in {X} Z up (x ∷ S) h = go (h x (inl refl)) (together_in Z up S (λ v i. h v (inr i)))
  where
    all : (n : ℤ) → Z x n → ((v : X) → Member v S → Z v n) → (v : X) → (v ≡ x) ⊎ Member v S → Z v n
    all n a k v (inl q) = subst (λ y. Z y n) (sym q) a
    all n a k v (inr i) = k v i

    go : (m : ℤ) × Z x m → (m : ℤ) × ((v : X) → Member v S → Z v m) → (m : ℤ) × ((v : X) → (v ≡ x) ⊎ Member v S → Z v m)
    go a b = let n = larger (a.0) (b.0) in (n.0, λ v i. all (n.0) (up x (a.0) (n.0) (n.1) (a.1)) (λ u j. up u (b.0) (n.0) (n.2) ((b.1) u j)) v i)

-- a next simplex that rises from m on
record Near {P Form R : Type 0} {sp : Space P Form} {Mem : List P → Type 0} {Reg : R → Type 0} {func : R → Form → ℤ} {N : R} {A W : Form} (t : Tri sp Mem Reg func N A W) (K : List P) (r : P) (m : ℤ) : Type 0 where
  F : List P
  al : Alike K (r ∷ F)
  next : Next t r F
  later : (mu : ℤ) → m ≤ℤ mu → pos 0 <ℤ (mu *ℤ rise (sp.val W) next.opp -ℤ rise (sp.val A) next.opp)

near : {P Form R : Type 0} → {sp : Space P Form} → {Mem : List P → Type 0} → {Reg : R → Type 0} → {func : R → Form → ℤ} → {N : R} → {A W : Form} → (t : Tri sp Mem Reg func N A W) → (K : List P) → Flipped t K → (r : P) → In sp.dec r K → (m : ℤ) × Near t K r m
near {P} {Form} {R} {sp} {Mem} {Reg} {func} {N} {A} {W} t K h r i = by_lt_z (rise (sp.val A) x.opp) (pos 0) (λ l. (pos 1, small l)) (λ g. (rise (sp.val A) x.opp +ℤ pos 1, big g))
  where
    f : (F : List P) × Alike K (r ∷ F)
    f = front sp.dec r K i

    mr : Flipped t (r ∷ (f.0))
    mr = flipped-alike t h (f.1)

    x : Next t r (f.0)
    x = flipped-closed t r (f.0) mr

    w : ℤ
    w = rise (sp.val W) x.opp

    a : ℤ
    a = rise (sp.val A) x.opp

    enough : (mu : ℤ) → pos 1 ≤ℤ mu → a <ℤ mu → (pos 0 <ℤ w) ⊎ ((w ≡ pos 0) × (a <ℤ pos 0)) → pos 0 <ℤ (mu *ℤ w -ℤ a)
    enough mu one more (inl l) = omega (arith, ints, more, mul_nonneg_z mu (w -ℤ pos 1) (omega (arith, ints, one)) (omega (arith, ints, l)), ring (mu ∷ w ∷ []) (var 0 ⊗ (var 1 ⊖ num (pos 1))) (var 0 ⊗ var 1 ⊖ var 0) tt)
    enough mu one more (inr e) = omega (arith, ints, e.1, ap (λ y. mu *ℤ y) (e.0), ring (mu ∷ []) (var 0 ⊗ num (pos 0)) (num (pos 0)) tt)

    small : a <ℤ pos 0 → Near t K r (pos 1)
    small l = record { F = f.0; al = f.1; next = x; later = λ mu g. enough mu g (omega (arith, ints, l, g)) (flipped-rise t r x.z (f.0) mr x.mem x.opp) }

    big : pos 0 ≤ℤ a → Near t K r (a +ℤ pos 1)
    big g = record { F = f.0; al = f.1; next = x; later = λ mu k. enough mu (omega (arith, ints, g, k)) (omega (arith, ints, k)) (flipped-rise t r x.z (f.0) mr x.mem x.opp) }

near-up : {P Form R : Type 0} → {sp : Space P Form} → {Mem : List P → Type 0} → {Reg : R → Type 0} → {func : R → Form → ℤ} → {N : R} → {A W : Form} → (t : Tri sp Mem Reg func N A W) → (K : List P) (r : P) (m n : ℤ) → m ≤ℤ n → Near t K r m → Near t K r n
near-up t K r m n le k = record { F = k.F; al = k.al; next = k.next; later = λ mu g. k.later mu (omega (arith, ints, le, g)) }

pub in-moved : {P : Type 0} → (dec : (x y : P) → Dec (x ≡ y)) (m : P → P) (v : P) (S : List P) → In dec v S → In dec (m v) (moved m S)
unfolding moved
in-moved dec m v [] i = absurd (in-nil i)
in-moved {P} dec m v (x ∷ S) i = go (in-cases dec v x S i) (in-moved dec m v S)
  where
    go : (v ≡ x) ⊎ In dec v S → (In dec v S → In dec (m v) (moved m S)) → In dec (m v) (m x ∷ moved m S)
    go (inl e) r = subst (λ y. In dec (m v) (m y ∷ moved m S)) e (in-head dec (m v) (moved m S))
    go (inr j) r = in-tail dec (m v) (m x) (moved m S) (r j)

-- from some m on each facet rises
pub margin : {P Form R : Type 0} → {sp : Space P Form} → {Mem : List P → Type 0} → {Reg : R → Type 0} → {func : R → Form → ℤ} → {N : R} → {A W : Form} → (t : Tri sp Mem Reg func N A W) → (k : Moves t) → Finite t k → (m : ℤ) × ((mu : ℤ) → m ≤ℤ mu → Margin t mu)
margin {P} {Form} {R} {sp} {Mem} {Reg} {func} {N} {A} {W} t k fin = (b.0, λ mu g. record { step = λ r F h. step mu g r F h })
  where
    each_rep : (R : List P) → Member R fin.reps → (m : ℤ) × ((r : P) → In sp.dec r R → Near t R r m)
    each_rep R i = together sp.dec (Near t R) (near-up t R) R (near t R (fin.here R i))

    b : (m : ℤ) × ((R : List P) → Member R fin.reps → (r : P) → In sp.dec r R → Near t R r m)
    b = together_in (λ R m. (r : P) → In sp.dec r R → Near t R r m) (λ R m n le h r i. near-up t R r m n le (h r i)) fin.reps each_rep

    Goal : ℤ → P → List P → Type 0
    Goal mu r F = (x : Next t r F) × (pos 0 <ℤ (mu *ℤ rise (sp.val W) x.opp -ℤ rise (sp.val A) x.opp))

    placed : (mu : ℤ) (y r0 : P) (rest0 F : List P) → Near t rest0 r0 (b.0) → (b.0) ≤ℤ mu → Flipped t rest0 → (r : P) → k.move y r0 ≡ r → Alike (r ∷ F) (moved (k.move y) rest0) → Goal mu r F
    placed mu y r0 rest0 F n g h r e al = subst (λ q. Alike (q ∷ F) (moved (k.move y) rest0) → Goal mu q F) e base al
      where
        F0 : List P
        F0 = n.F

        x : Next t r0 F0
        x = n.next

        mr : Flipped t (r0 ∷ F0)
        mr = flipped-alike t h n.al

        out_r : In sp.dec r0 F0 → ⊥
        out_r = distinct-out (flipped-simp t (r0 ∷ F0) mr).distinct

        out_z : In sp.dec x.z (r0 ∷ F0) → ⊥
        out_z = opp-out (flipped-simp t (r0 ∷ F0) mr) (distinct-out (flipped-simp t (x.z ∷ F0) x.mem).distinct) x.opp

        o : Opp sp (k.move y r0) (k.move y x.z) (moved (k.move y) F0)
        o = opp-moved t k y r0 x.z F0 x.opp

        base : Alike (k.move y r0 ∷ F) (moved (k.move y) rest0) → Goal mu (k.move y r0) F
        base al = (
          record { z = k.move y x.z; mem = flipped-alike t (subst (Flipped t) (moved-cons (k.move y) x.z F0) (flipped-moved t k y (x.z ∷ F0) x.mem)) (alike-cons (k.move y x.z) same); opp = opp-alike o same },
          subst (λ q. pos 0 <ℤ q) (ap₂ (λ u v. mu *ℤ u -ℤ v) (sym (both W)) (sym (both A))) (n.later mu g),
        )
          where
            same : Alike (moved (k.move y) F0) F
            same = alike-cancel (k.move y r0) (alike-trans (subst (λ q. Alike q (moved (k.move y) rest0)) (moved-cons (k.move y) r0 F0) (alike-moved (k.move y) (alike-sym n.al))) (alike-sym al))

            both : (Q : Form) → rise (sp.val Q) (opp-alike o same) ≡ rise (sp.val Q) x.opp
            both Q = rise-alike o same (sp.val Q) ∙ rise-moved t k y r0 x.z F0 x.opp out_z out_r Q

    step : (mu : ℤ) → (b.0) ≤ℤ mu → (r : P) (F : List P) → Flipped t (r ∷ F) → Goal mu r F
    step mu g r F h = placed mu y r0 rest0 F (b.1 rest0 (c.2) r0 in0) g (fin.here rest0 (c.2)) r (k.redo y r) (c.3)
      where
        c : (R : List P) × (y : P) × Member R fin.reps × Alike (r ∷ F) (moved (k.move y) R)
        c = fin.covers (r ∷ F) h

        rest0 : List P
        rest0 = c.0

        y : P
        y = c.1

        r0 : P
        r0 = k.move (k.opposite y) r

        in0 : In sp.dec r0 rest0
        in0 = subst (λ q. In sp.dec r0 q) (moved-back t k y rest0) (in-moved sp.dec (k.move (k.opposite y)) r (moved (k.move y) rest0) (in-alike (in-head sp.dec r F) (c.3)))

-- ---- a form for which a simplex is strictly empty is positive definite

-- two points on both sides of u, at x - v from it
pub record Spread {P Form : Type 0} (sp : Space P Form) (u x v : P) : Type 0 where
  pub p : P
  pub p' : P
  pub p_off : p ≢ u
  pub apart : p ≢ p'
  pub middle : (j : ℕ) → sp.hom j p +ℤ sp.hom j p' ≡ pos 2 *ℤ sp.hom j u
  pub level : (Q : Form) → sp.val Q p +ℤ sp.val Q p' ≡ pos 2 *ℤ sp.val Q u +ℤ pos 2 *ℤ sp.val Q (sp.sub x v)

-- a form for which an independent simplex is strictly empty is positive definite
pub strict-definite : {P Form : Type 0} → (sp : Space P Form) → ((u x v : P) → x ≢ v → Spread sp u x v) → (Q : Form) (S : List P) → Simp sp S → Strict sp (sp.val Q) S → (u : P) → In sp.dec u S →
    (D : ℤ) → pos 0 <ℤ D → ((x : P) → (a : P → ℤ) × ((j : ℕ) → D *ℤ sp.hom j x ≡ qs (sp.hom j) a S)) → Definite sp Q
strict-definite {P} {Form} sp spread Q S simp strict u iu D D_pos coords = record { above = λ x v n. by_lt_z (pos 0) (sp.val Q (sp.sub x v)) (λ l. l) (λ g. absurd (flat x v n g)) }
  where
    q : P → ℤ
    q = sp.val Q

    flat : (x v : P) → x ≢ v → sp.val Q (sp.sub x v) ≤ℤ pos 0 → ⊥
    flat x v n g = omega (arith, ints, one_at_p, dist)
      where
        s : Spread sp u x v
        s = spread u x v n

        p : P
        p = s.p

        p' : P
        p' = s.p'

        a : P → ℤ
        a = (coords p).0

        a' : P → ℤ
        a' = (coords p').0

        e : Expr sp p S D a
        e = record { positive = D_pos; is = (coords p).1 }

        e' : Expr sp p' S D a'
        e' = record { positive = D_pos; is = (coords p').1 }

        f : (R : List P) × Alike S (u ∷ R)
        f = front sp.dec u S iu

        out_u : In sp.dec u (f.0) → ⊥
        out_u = distinct-out (distinct-alike simp.distinct (f.1))

        two : P → ℤ
        two = upd sp.dec u (pos 2 *ℤ D) (λ y. pos 0)

        two_sum : (h : P → ℤ) → qs h two S ≡ (pos 2 *ℤ D) *ℤ h u
        two_sum h = (f.1).same h two ∙ upd-cons sp.dec u (pos 2 *ℤ D) (λ y. pos 0) h (f.0) out_u ∙ ap (λ y. (pos 2 *ℤ D) *ℤ h u +ℤ y) (qs-zero sp.dec h (λ y. pos 0) (f.0) (λ w i. refl)) ∙ ring (((pos 2 *ℤ D) *ℤ h u) ∷ []) (var 0 ⊕ num (pos 0)) (var 0) tt

        both : P → ℤ
        both w = pos 1 *ℤ a w +ℤ pos 1 *ℤ a' w

        both_sum : (h : P → ℤ) → qs h both S ≡ qs h a S +ℤ qs h a' S
        both_sum h = qs-lin h a a' (pos 1) (pos 1) S ∙ ring ((qs h a S) ∷ (qs h a' S) ∷ []) (num (pos 1) ⊗ var 0 ⊕ num (pos 1) ⊗ var 1) (var 0 ⊕ var 1) tt

        sum : qs q a S +ℤ qs q a' S ≡ (pos 2 *ℤ D) *ℤ q u
        sum = sym (both_sum q) ∙ same-sum simp both two (λ j. both_sum (sp.hom j) ∙ ring_by_three (D ∷ (sp.hom j p) ∷ (sp.hom j p') ∷ (sp.hom j u) ∷ (qs (sp.hom j) a S) ∷ (qs (sp.hom j) a' S) ∷ []) (var 4 ⊕ var 5) (num (pos 2) ⊗ var 0 ⊗ var 3) (neg (num (pos 1))) (var 0 ⊗ var 1) (var 4) (neg (num (pos 1))) (var 0 ⊗ var 2) (var 5) (var 0) (var 1 ⊕ var 2) (num (pos 2) ⊗ var 3) tt ((coords p).1 j) ((coords p').1 j) (s.middle j) ∙ sym (two_sum (sp.hom j))) q ∙ two_sum q

        up : pos 0 ≤ℤ excess q p S D a
        up = strict.weak.outside p D a e

        up' : pos 0 ≤ℤ excess q p' S D a'
        up' = strict.weak.outside p' D a' e'

        total : excess q p S D a +ℤ excess q p' S D a' ≡ (pos 2 *ℤ D) *ℤ q (sp.sub x v)
        total = ap₂ (λ y z. y +ℤ z) (excess-is q p S D a) (excess-is q p' S D a') ∙ ring_by_two (D ∷ (q p) ∷ (q p') ∷ (q u) ∷ (q (sp.sub x v)) ∷ (qs q a S) ∷ (qs q a' S) ∷ []) (var 0 ⊗ var 1 ⊖ var 5 ⊕ (var 0 ⊗ var 2 ⊖ var 6)) (num (pos 2) ⊗ var 0 ⊗ var 4) (var 0) (var 1 ⊕ var 2) (num (pos 2) ⊗ var 3 ⊕ num (pos 2) ⊗ var 4) (neg (num (pos 1))) (var 5 ⊕ var 6) (num (pos 2) ⊗ var 0 ⊗ var 3) tt (s.level Q) (sum)

        low : ((pos 2 *ℤ D) *ℤ q (sp.sub x v)) ≤ℤ pos 0
        low = omega (arith, ints, mul_nonneg_z (pos 2 *ℤ D) (neg_ℤ (q (sp.sub x v))) (omega (arith, ints, D_pos)) (omega (arith, ints, g)), ring (D ∷ (q (sp.sub x v)) ∷ []) (num (pos 2) ⊗ var 0 ⊗ neg (var 1)) (neg (num (pos 2) ⊗ var 0 ⊗ var 1)) tt)

        zero_p : excess q p S D a ≡ pos 0
        zero_p = omega (arith, ints, up, up', total, low)

        zero_p' : excess q p' S D a' ≡ pos 0
        zero_p' = omega (arith, ints, up, up', total, low)

        ip : In sp.dec p S
        ip = strict.touches p D a e zero_p

        ip' : In sp.dec p' S
        ip' = strict.touches p' D a' e' zero_p'

        -- p and p' are two vertices, and their sum is twice u: over S the coefficient of p would be both 1 and 0
        g1 : (R : List P) × Alike S (p ∷ R)
        g1 = front sp.dec p S ip

        out_p : In sp.dec p (g1.0) → ⊥
        out_p = distinct-out (distinct-alike simp.distinct (g1.1))

        g2 : (R : List P) × Alike S (p' ∷ R)
        g2 = front sp.dec p' S ip'

        out_p' : In sp.dec p' (g2.0) → ⊥
        out_p' = distinct-out (distinct-alike simp.distinct (g2.1))

        d1 : P → ℤ
        d1 = upd sp.dec p (pos 1) (λ y. pos 0)

        d1_sum : (h : P → ℤ) → qs h d1 S ≡ h p
        d1_sum h = (g1.1).same h d1 ∙ upd-cons sp.dec p (pos 1) (λ y. pos 0) h (g1.0) out_p ∙ ap (λ y. pos 1 *ℤ h p +ℤ y) (qs-zero sp.dec h (λ y. pos 0) (g1.0) (λ w i. refl)) ∙ ring ((h p) ∷ []) (num (pos 1) ⊗ var 0 ⊕ num (pos 0)) (var 0) tt

        d2 : P → ℤ
        d2 = upd sp.dec p' (pos 1) (λ y. pos 0)

        d2_sum : (h : P → ℤ) → qs h d2 S ≡ h p'
        d2_sum h = (g2.1).same h d2 ∙ upd-cons sp.dec p' (pos 1) (λ y. pos 0) h (g2.0) out_p' ∙ ap (λ y. pos 1 *ℤ h p' +ℤ y) (qs-zero sp.dec h (λ y. pos 0) (g2.0) (λ w i. refl)) ∙ ring ((h p') ∷ []) (num (pos 1) ⊗ var 0 ⊕ num (pos 0)) (var 0) tt

        d12 : P → ℤ
        d12 w = pos 1 *ℤ d1 w +ℤ pos 1 *ℤ d2 w

        d3 : P → ℤ
        d3 = upd sp.dec u (pos 2) (λ y. pos 0)

        d3_sum : (h : P → ℤ) → qs h d3 S ≡ pos 2 *ℤ h u
        d3_sum h = (f.1).same h d3 ∙ upd-cons sp.dec u (pos 2) (λ y. pos 0) h (f.0) out_u ∙ ap (λ y. pos 2 *ℤ h u +ℤ y) (qs-zero sp.dec h (λ y. pos 0) (f.0) (λ w i. refl)) ∙ ring ((h u) ∷ []) (num (pos 2) ⊗ var 0 ⊕ num (pos 0)) (num (pos 2) ⊗ var 0) tt

        dist : d12 p ≡ d3 p
        dist = same-at simp d12 d3 (λ j. qs-lin (sp.hom j) d1 d2 (pos 1) (pos 1) S ∙ ap₂ (λ y z. pos 1 *ℤ y +ℤ pos 1 *ℤ z) (d1_sum (sp.hom j)) (d2_sum (sp.hom j)) ∙ ring_by ((sp.hom j p) ∷ (sp.hom j p') ∷ (sp.hom j u) ∷ []) (num (pos 1) ⊗ var 0 ⊕ num (pos 1) ⊗ var 1) (num (pos 2) ⊗ var 2) (num (pos 1)) (var 0 ⊕ var 1) (num (pos 2) ⊗ var 2) tt (s.middle j) ∙ sym (d3_sum (sp.hom j))) p ip

        one_at_p : d12 p ≡ pos 1 +ℤ d3 p
        one_at_p = ap₂ (λ y z. pos 1 *ℤ y +ℤ pos 1 *ℤ z) (upd-at sp.dec p (pos 1) (λ y. pos 0)) (upd-off sp.dec p' (pos 1) (λ y. pos 0) p s.apart) ∙ ap (λ y. pos 1 +ℤ y) (sym (upd-off sp.dec u (pos 2) (λ y. pos 0) p s.p_off))

-- ---- for each large m the flipped set is strictly empty for m W - A, which is positive definite; its closure under facets is `flipped-closed`
pub flip-theorem : {P Form R : Type 0} → {sp : Space P Form} → {Mem : List P → Type 0} → {Reg : R → Type 0} → {func : R → Form → ℤ} → {N : R} → {A W : Form} → (t : Tri sp Mem Reg func N A W) → (k : Scale t) (mv : Moves t) → Finite t mv → ((u x v : P) → x ≢ v → Spread sp u x v) → (S : List P) → Flipped t S → (u : P) → In sp.dec u S →
    (m : ℤ) × ((mu : ℤ) → m ≤ℤ mu → ((R : List P) → Flipped t R → Strict sp (sp.val (sp.mix mu W (negsuc 0) A)) R) × Definite sp (sp.mix mu W (negsuc 0) A))
flip-theorem {P} {Form} {R} {sp} {Mem} {Reg} {func} {N} {A} {W} t k mv fin spread S h u iu = (b.0, λ mu g. let e = flipped-strict t k mu (b.1 mu g) in (e, strict-definite sp spread (sp.mix mu W (negsuc 0) A) S (flipped-simp t S h) (e S h) u iu k.scale k.scale_pos (k.coords S h)))
  where
    b : (m : ℤ) × ((mu : ℤ) → m ≤ℤ mu → Margin t mu)
    b = margin t mv fin
