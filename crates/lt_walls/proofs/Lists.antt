-- Lists of points up to order, by the sums over them.
use Rattle.std.proofs.Common.{List, [], ◌∷◌, ◌≡◌, ◌≢◌, ◌⊎◌, inl, inr, refl, sym, ◌∙◌, ap, ap₂, subst, arith, ℤ, pos, neg_ℤ, ◌+ℤ◌, ◌-ℤ◌, ◌*ℤ◌, ◌<ℤ◌, ◌≤ℤ◌}
use Rattle.std.proofs.lemmas.Int.{ints, by_lt_z}
use Rattle.std.proofs.Math.IntN.{ℤ_discrete}
use Rattle.lt_model.proofs.Ring.{ring, ring_by, var, num, neg, ◌⊕◌, ◌⊖◌, ◌⊗◌}
use Rattle.lt_walls.proofs.Sums.{qs}
use Rattle.lt_model.proofs.Inequalities.{mul_nonneg_z}

-- equal lists up to order: all sums over them are equal
pub record Alike {P : Type 0} (S S' : List P) : Type 0 where
  pub same : (f b : P → ℤ) → qs f b S ≡ qs f b S'

pub alike-refl : {P : Type 0} → (S : List P) → Alike S S
alike-refl S = record { same = λ f b. refl }

pub alike-sym : {P : Type 0} → {S S' : List P} → Alike S S' → Alike S' S
alike-sym h = record { same = λ f b. sym (h.same f b) }

pub alike-trans : {P : Type 0} → {S S' R : List P} → Alike S S' → Alike S' R → Alike S R
alike-trans h k = record { same = λ f b. h.same f b ∙ k.same f b }

pub alike-cons : {P : Type 0} → (x : P) → {S S' : List P} → Alike S S' → Alike (x ∷ S) (x ∷ S')
unfolding qs
alike-cons x h = record { same = λ f b. ap (λ z. b x *ℤ f x +ℤ z) (h.same f b) }

pub alike-swap : {P : Type 0} → (x y : P) (S : List P) → Alike (x ∷ y ∷ S) (y ∷ x ∷ S)
unfolding qs
alike-swap x y S = record { same = λ f b. ring ((b x *ℤ f x) ∷ (b y *ℤ f y) ∷ (qs f b S) ∷ []) (var 0 ⊕ (var 1 ⊕ var 2)) (var 1 ⊕ (var 0 ⊕ var 2)) tt }

pub alike-cancel : {P : Type 0} → (x : P) → {S S' : List P} → Alike (x ∷ S) (x ∷ S') → Alike S S'
unfolding qs
alike-cancel {P} x {S} {S'} h = record { same = λ f b. ring_by ((b x *ℤ f x) ∷ (qs f b S) ∷ (qs f b S') ∷ []) (var 1) (var 2) (num (pos 1)) (var 0 ⊕ var 1) (var 0 ⊕ var 2) tt (h.same f b) }

-- V is a ∷ S and S is b ∷ R: V is b ∷ a ∷ R
pub alike-second : {P : Type 0} → (a b : P) → {V S R : List P} → Alike V (a ∷ S) → Alike S (b ∷ R) → Alike V (b ∷ a ∷ R)
alike-second a b {V} {S} {R} h k = alike-trans h (alike-trans (alike-cons a k) (alike-swap a b R))

-- two ways to leave out two members
pub alike-both : {P : Type 0} → (a b : P) → {V S R : List P} → Alike V (a ∷ S) → Alike S (b ∷ R) → {S' : List P} → Alike V (b ∷ S') → Alike S' (a ∷ R)
alike-both a b {V} {S} {R} h k {S'} g = alike-cancel b (alike-trans (alike-sym g) (alike-second a b h k))

pub qs-cons : {P : Type 0} → (f b : P → ℤ) (x : P) (S : List P) → qs f b (x ∷ S) ≡ b x *ℤ f x +ℤ qs f b S
unfolding qs
qs-cons f b x S = refl

pub qs-nil : {P : Type 0} → (f b : P → ℤ) → qs f b [] ≡ pos 0
unfolding qs
qs-nil f b = refl

pub alike-qs : {P : Type 0} → (f b : P → ℤ) (x : P) → {V S : List P} → Alike V (x ∷ S) → qs f b V ≡ b x *ℤ f x +ℤ qs f b S
alike-qs f b x {V} {S} h = h.same f b ∙ qs-cons f b x S

pub qs-of : {P : Type 0} → (f g b : P → ℤ) (m n : ℤ) (S : List P) → qs (λ v. m *ℤ f v +ℤ n *ℤ g v) b S ≡ m *ℤ qs f b S +ℤ n *ℤ qs g b S
unfolding qs
qs-of f g b m n [] = ring (m ∷ n ∷ []) (num (pos 0)) (var 0 ⊗ num (pos 0) ⊕ var 1 ⊗ num (pos 0)) tt
qs-of f g b m n (x ∷ S) = ap (λ z. b x *ℤ (m *ℤ f x +ℤ n *ℤ g x) +ℤ z) (qs-of f g b m n S) ∙
    ring ((b x) ∷ m ∷ n ∷ (f x) ∷ (g x) ∷ (qs f b S) ∷ (qs g b S) ∷ []) (var 0 ⊗ (var 1 ⊗ var 3 ⊕ var 2 ⊗ var 4) ⊕ (var 1 ⊗ var 5 ⊕ var 2 ⊗ var 6)) (var 1 ⊗ (var 0 ⊗ var 3 ⊕ var 5) ⊕ var 2 ⊗ (var 0 ⊗ var 4 ⊕ var 6)) tt

pub qs-fun : {P : Type 0} → (f g b : P → ℤ) → ((v : P) → f v ≡ g v) → (S : List P) → qs f b S ≡ qs g b S
unfolding qs
qs-fun f g b h [] = refl
qs-fun f g b h (x ∷ S) = ap₂ (λ y z. b x *ℤ y +ℤ z) (h x) (qs-fun f g b h S)

pub qs-scale : {P : Type 0} → (f b : P → ℤ) (m : ℤ) (S : List P) → qs f (λ v. m *ℤ b v) S ≡ m *ℤ qs f b S
unfolding qs
qs-scale f b m [] = ring (m ∷ []) (num (pos 0)) (var 0 ⊗ num (pos 0)) tt
qs-scale f b m (x ∷ S) = ap (λ z. (m *ℤ b x) *ℤ f x +ℤ z) (qs-scale f b m S) ∙ ring (m ∷ (b x) ∷ (f x) ∷ (qs f b S) ∷ []) (var 0 ⊗ var 1 ⊗ var 2 ⊕ var 0 ⊗ var 3) (var 0 ⊗ (var 1 ⊗ var 2 ⊕ var 3)) tt

pub qs-minus : {P : Type 0} → (f b : P → ℤ) (S : List P) → qs f (λ v. neg_ℤ (b v)) S ≡ neg_ℤ (qs f b S)
unfolding qs
qs-minus f b [] = refl
qs-minus f b (x ∷ S) = ap (λ z. neg_ℤ (b x) *ℤ f x +ℤ z) (qs-minus f b S) ∙ ring ((b x) ∷ (f x) ∷ (qs f b S) ∷ []) (neg (var 0) ⊗ var 1 ⊕ neg (var 2)) (neg (var 0 ⊗ var 1 ⊕ var 2)) tt

pub qs-diff : {P : Type 0} → (f s t : P → ℤ) (S : List P) → qs f (λ v. s v -ℤ t v) S ≡ qs f s S -ℤ qs f t S
unfolding qs
qs-diff f s t [] = refl
qs-diff f s t (x ∷ S) = ap (λ z. (s x -ℤ t x) *ℤ f x +ℤ z) (qs-diff f s t S) ∙ ring ((s x) ∷ (t x) ∷ (f x) ∷ (qs f s S) ∷ (qs f t S) ∷ []) ((var 0 ⊖ var 1) ⊗ var 2 ⊕ (var 3 ⊖ var 4)) (var 0 ⊗ var 2 ⊕ var 3 ⊖ (var 1 ⊗ var 2 ⊕ var 4)) tt

-- a weighted difference
pub qs-off : {P : Type 0} → (f s t : P → ℤ) (a m : ℤ) (S : List P) → qs f (λ v. a *ℤ s v -ℤ m *ℤ t v) S ≡ a *ℤ qs f s S -ℤ m *ℤ qs f t S
qs-off f s t a m S = qs-diff f (λ v. a *ℤ s v) (λ v. m *ℤ t v) S ∙ ap₂ (λ y z. y -ℤ z) (qs-scale f s a S) (qs-scale f t m S)

-- ---- members

pub pick : {A : Type 0} → {B : Type 0} → Dec A → B → B → B
pick (yes e) x y = x
pick (no e) x y = y

pick_no : {A : Type 0} → {B : Type 0} → (d : Dec A) (x y : B) → (A → ⊥) → pick d x y ≡ y
unfolding pick
pick_no (yes e) x y n = absurd (n e)
pick_no (no e) x y n = refl

pick_yes : {A : Type 0} → {B : Type 0} → (d : Dec A) (x y : B) → A → pick d x y ≡ x
unfolding pick
pick_yes (yes e) x y a = refl
pick_yes (no e) x y a = absurd (e a)

-- how often a point stands in a list
pub times : {P : Type 0} → ((x y : P) → Dec (x ≡ y)) → P → List P → ℤ
times dec x S = qs (λ v. pos 1) (λ v. pick (dec x v) (pos 1) (pos 0)) S

pub record In {P : Type 0} (dec : (x y : P) → Dec (x ≡ y)) (x : P) (S : List P) : Type 0 where
  pub is : pos 0 <ℤ times dec x S

pub record Distinct {P : Type 0} (dec : (x y : P) → Dec (x ≡ y)) (S : List P) : Type 0 where
  pub once : (x : P) → times dec x S ≤ℤ pos 1

times-same : {P : Type 0} → (dec : (x y : P) → Dec (x ≡ y)) (x v : P) (S : List P) → x ≡ v → times dec x (v ∷ S) ≡ pos 1 +ℤ times dec x S
unfolding times qs
times-same dec x v S e = ap (λ z. z *ℤ pos 1 +ℤ times dec x S) (pick_yes (dec x v) (pos 1) (pos 0) e)

times-other : {P : Type 0} → (dec : (x y : P) → Dec (x ≡ y)) (x v : P) (S : List P) → x ≢ v → times dec x (v ∷ S) ≡ times dec x S
unfolding times qs
times-other dec x v S n = ap (λ z. z *ℤ pos 1 +ℤ times dec x S) (pick_no (dec x v) (pos 1) (pos 0) n) ∙ ring ((times dec x S) ∷ []) (num (pos 0) ⊗ num (pos 1) ⊕ var 0) (var 0) tt

times-nil : {P : Type 0} → (dec : (x y : P) → Dec (x ≡ y)) (x : P) → times dec x [] ≡ pos 0
unfolding times qs
times-nil dec x = refl

times-alike : {P : Type 0} → (dec : (x y : P) → Dec (x ≡ y)) (x : P) → {S S' : List P} → Alike S S' → times dec x S ≡ times dec x S'
unfolding times
times-alike dec x h = h.same (λ v. pos 1) (λ v. pick (dec x v) (pos 1) (pos 0))

times-nonneg : {P : Type 0} → (dec : (x y : P) → Dec (x ≡ y)) (x : P) (S : List P) → pos 0 ≤ℤ times dec x S
times-nonneg dec x [] = omega (arith, ints, times-nil dec x)
times-nonneg dec x (v ∷ S) = elim (dec x v) [
  | yes e ↦ omega (arith, ints, times-same dec x v S e, times-nonneg dec x S)
  | no n ↦ omega (arith, ints, times-other dec x v S n, times-nonneg dec x S)
]

pub in-nil : {P : Type 0} → {dec : (x y : P) → Dec (x ≡ y)} → {x : P} → In dec x [] → ⊥
in-nil {P} {dec} {x} h = omega (arith, ints, h.is, times-nil dec x)

pub in-head : {P : Type 0} → (dec : (x y : P) → Dec (x ≡ y)) (x : P) (S : List P) → In dec x (x ∷ S)
in-head dec x S = record { is = omega (arith, ints, times-same dec x x S refl, times-nonneg dec x S) }

pub in-tail : {P : Type 0} → (dec : (x y : P) → Dec (x ≡ y)) (x v : P) (S : List P) → In dec x S → In dec x (v ∷ S)
in-tail dec x v S h = record {
  is = elim (dec x v) [
    | yes e ↦ omega (arith, ints, times-same dec x v S e, h.is)
    | no n ↦ omega (arith, ints, times-other dec x v S n, h.is)
  ];
}

pub in-cases : {P : Type 0} → (dec : (x y : P) → Dec (x ≡ y)) (x v : P) (S : List P) → In dec x (v ∷ S) → (x ≡ v) ⊎ In dec x S
in-cases dec x v S h = elim (dec x v) [
  | yes e ↦ inl e
  | no n ↦ inr (record { is = omega (arith, ints, times-other dec x v S n, h.is) })
]

pub in-alike : {P : Type 0} → {dec : (x y : P) → Dec (x ≡ y)} → {x : P} → {S S' : List P} → In dec x S → Alike S S' → In dec x S'
in-alike {P} {dec} {x} {S} {S'} h k = record { is = omega (arith, ints, h.is, times-alike dec x k) }

pub in-or : {P : Type 0} → (dec : (x y : P) → Dec (x ≡ y)) (x : P) (S : List P) → In dec x S ⊎ (In dec x S → ⊥)
in-or dec x S = by_lt_z (pos 0) (times dec x S) (λ l. inl (record { is = l })) (λ g. inr (λ h. omega (arith, ints, g, h.is)))

pub front : {P : Type 0} → (dec : (x y : P) → Dec (x ≡ y)) (x : P) (S : List P) → In dec x S → (R : List P) × Alike S (x ∷ R)
front dec x [] h = absurd (in-nil h)
front {P} dec x (v ∷ S) h = go (in-cases dec x v S h) (front dec x S)
  where
    go : (x ≡ v) ⊎ In dec x S → (In dec x S → (R : List P) × Alike S (x ∷ R)) → (R : List P) × Alike (v ∷ S) (x ∷ R)
    go (inl e) r = (S, subst (λ y. Alike (v ∷ S) (y ∷ S)) (sym e) (alike-refl (v ∷ S)))
    go (inr i) r = let p = r i in (v ∷ p.0, alike-second v x (alike-refl (v ∷ S)) (p.1))

pub distinct-alike : {P : Type 0} → {dec : (x y : P) → Dec (x ≡ y)} → {S S' : List P} → Distinct dec S → Alike S S' → Distinct dec S'
distinct-alike {P} {dec} h k = record { once = λ x. omega (arith, ints, h.once x, times-alike dec x k) }

pub distinct-nil : {P : Type 0} → (dec : (x y : P) → Dec (x ≡ y)) → Distinct dec []
distinct-nil dec = record { once = λ x. omega (arith, ints, times-nil dec x) }

pub distinct-out : {P : Type 0} → {dec : (x y : P) → Dec (x ≡ y)} → {v : P} → {S : List P} → Distinct dec (v ∷ S) → In dec v S → ⊥
distinct-out {P} {dec} {v} {S} h i = omega (arith, ints, h.once v, i.is, times-same dec v v S refl)

pub distinct-tail : {P : Type 0} → {dec : (x y : P) → Dec (x ≡ y)} → {v : P} → {S : List P} → Distinct dec (v ∷ S) → Distinct dec S
distinct-tail {P} {dec} {v} {S} h = record {
  once = λ x. elim (dec x v) [
    | yes e ↦ omega (arith, ints, times-same dec x v S e, h.once x)
    | no n ↦ omega (arith, ints, times-other dec x v S n, h.once x)
  ];
}

pub distinct-cons : {P : Type 0} → {dec : (x y : P) → Dec (x ≡ y)} → (v : P) (S : List P) → Distinct dec S → (In dec v S → ⊥) → Distinct dec (v ∷ S)
distinct-cons {P} {dec} v S h n = record { once = once }
  where
    none : times dec v S ≤ℤ pos 0
    none = by_lt_z (pos 0) (times dec v S) (λ l. absurd (n (record { is = l }))) (λ g. g)

    once : (x : P) → times dec x (v ∷ S) ≤ℤ pos 1
    once x = elim (dec x v) [
      | yes e ↦ omega (arith, ints, times-same dec x v S e, subst (λ y. times dec y S ≤ℤ pos 0) (sym e) none)
      | no m ↦ omega (arith, ints, times-other dec x v S m, h.once x)
    ]

pub differ : {P : Type 0} → {dec : (x y : P) → Dec (x ≡ y)} → {w : P} → {F : List P} → (v : P) → (In dec w F → ⊥) → In dec v F → v ≢ w
differ {P} {dec} {w} {F} v n i e = n (subst (λ y. In dec y F) e i)

pub apart : {P : Type 0} → {dec : (x y : P) → Dec (x ≡ y)} → {v w : P} → {F : List P} → Distinct dec (v ∷ w ∷ F) → v ≢ w
apart {P} {dec} {v} {w} {F} h e = distinct-out h (subst (λ y. In dec y (w ∷ F)) (sym e) (in-head dec w F))

pub qs-same : {P : Type 0} → (dec : (x y : P) → Dec (x ≡ y)) (f b c : P → ℤ) (S : List P) → ((v : P) → In dec v S → b v ≡ c v) → qs f b S ≡ qs f c S
unfolding qs
qs-same dec f b c [] h = refl
qs-same dec f b c (x ∷ S) h = ap₂ (λ y z. y *ℤ f x +ℤ z) (h x (in-head dec x S)) (qs-same dec f b c S (λ v i. h v (in-tail dec v x S i)))

pub qs-zero : {P : Type 0} → (dec : (x y : P) → Dec (x ≡ y)) (f b : P → ℤ) (S : List P) → ((v : P) → In dec v S → b v ≡ pos 0) → qs f b S ≡ pos 0
unfolding qs
qs-zero dec f b [] h = refl
qs-zero dec f b (x ∷ S) h = ap₂ (λ y z. y *ℤ f x +ℤ z) (h x (in-head dec x S)) (qs-zero dec f b S (λ v i. h v (in-tail dec v x S i))) ∙ ring ((f x) ∷ []) (num (pos 0) ⊗ var 0 ⊕ num (pos 0)) (num (pos 0)) tt

-- nonnegative weights on numbers above 0
pub qs-above : {P : Type 0} → (dec : (x y : P) → Dec (x ≡ y)) (f g b : P → ℤ) (S : List P) → ((v : P) → In dec v S → pos 0 ≤ℤ b v) → ((v : P) → In dec v S → g v ≤ℤ f v) → qs g b S ≤ℤ qs f b S
unfolding qs
qs-above dec f g b [] h k = omega (arith, ints)
qs-above dec f g b (x ∷ S) h k =
    let m : pos 0 ≤ℤ (b x *ℤ (f x -ℤ g x)) = mul_nonneg_z (b x) (f x -ℤ g x) (h x (in-head dec x S)) (omega (arith, ints, k x (in-head dec x S))) in
    let e : b x *ℤ (f x -ℤ g x) ≡ b x *ℤ f x -ℤ b x *ℤ g x = ring ((b x) ∷ (f x) ∷ (g x) ∷ []) (var 0 ⊗ (var 1 ⊖ var 2)) (var 0 ⊗ var 1 ⊖ var 0 ⊗ var 2) tt in
    omega (arith, ints, m, e, qs-above dec f g b S (λ v i. h v (in-tail dec v x S i)) (λ v i. k v (in-tail dec v x S i)))

-- the coefficient h at the point w
pub upd : {P : Type 0} → ((x y : P) → Dec (x ≡ y)) → P → ℤ → (P → ℤ) → P → ℤ
upd dec w h s v = pick (dec v w) h (s v)

pub upd-at : {P : Type 0} → (dec : (x y : P) → Dec (x ≡ y)) (w : P) (h : ℤ) (s : P → ℤ) → upd dec w h s w ≡ h
unfolding upd
upd-at dec w h s = pick_yes (dec w w) h (s w) refl

pub upd-off : {P : Type 0} → (dec : (x y : P) → Dec (x ≡ y)) (w : P) (h : ℤ) (s : P → ℤ) (v : P) → v ≢ w → upd dec w h s v ≡ s v
unfolding upd
upd-off dec w h s v n = pick_no (dec v w) h (s v) n

pub upd-sum : {P : Type 0} → (dec : (x y : P) → Dec (x ≡ y)) (w : P) (h : ℤ) (s : P → ℤ) (f : P → ℤ) (F : List P) → (In dec w F → ⊥) → qs f (upd dec w h s) F ≡ qs f s F
upd-sum dec w h s f F n = qs-same dec f (upd dec w h s) s F (λ v i. upd-off dec w h s v (differ v n i))

pub upd-cons : {P : Type 0} → (dec : (x y : P) → Dec (x ≡ y)) (w : P) (h : ℤ) (s : P → ℤ) (f : P → ℤ) (F : List P) → (In dec w F → ⊥) → qs f (upd dec w h s) (w ∷ F) ≡ h *ℤ f w +ℤ qs f s F
upd-cons dec w h s f F n = qs-cons f (upd dec w h s) w F ∙ ap₂ (λ y z. y *ℤ f w +ℤ z) (upd-at dec w h s) (upd-sum dec w h s f F n)

-- find a member at which a number isn't 0
pub find : {P : Type 0} → (dec : (x y : P) → Dec (x ≡ y)) (g : P → ℤ) (S : List P) → ((i : P) × (R : List P) × Alike S (i ∷ R) × (g i ≢ pos 0)) ⊎ ((v : P) → In dec v S → g v ≡ pos 0)
find dec g [] = inr (λ v i. absurd (in-nil i))
find {P} dec g (x ∷ S) = go (ℤ_discrete (g x) (pos 0)) (find dec g S)
  where
    all : g x ≡ pos 0 → ((v : P) → In dec v S → g v ≡ pos 0) → (v : P) → (v ≡ x) ⊎ In dec v S → g v ≡ pos 0
    all e h v (inl q) = ap g q ∙ e
    all e h v (inr i) = h v i

    go : Dec (g x ≡ pos 0) → ((i : P) × (R : List P) × Alike S (i ∷ R) × (g i ≢ pos 0)) ⊎ ((v : P) → In dec v S → g v ≡ pos 0) → ((i : P) × (R : List P) × Alike (x ∷ S) (i ∷ R) × (g i ≢ pos 0)) ⊎ ((v : P) → In dec v (x ∷ S) → g v ≡ pos 0)
    go (no n) r = inl (x, S, alike-refl (x ∷ S), n)
    go (yes e) (inl p) = inl (p.0, x ∷ p.1, alike-second x (p.0) (alike-refl (x ∷ S)) (p.2), p.3)
    go (yes e) (inr h) = inr (λ v i. all e h v (in-cases dec v x S i))

-- find a member at which a number is negative
pub negative : {P : Type 0} → (dec : (x y : P) → Dec (x ≡ y)) (g : P → ℤ) (S : List P) → ((i : P) × (R : List P) × Alike S (i ∷ R) × (g i <ℤ pos 0)) ⊎ ((v : P) → In dec v S → pos 0 ≤ℤ g v)
negative dec g [] = inr (λ v i. absurd (in-nil i))
negative {P} dec g (x ∷ S) = go (negative dec g S)
  where
    all : pos 0 ≤ℤ g x → ((v : P) → In dec v S → pos 0 ≤ℤ g v) → (v : P) → (v ≡ x) ⊎ In dec v S → pos 0 ≤ℤ g v
    all e h v (inl q) = subst (λ y. pos 0 ≤ℤ g y) (sym q) e
    all e h v (inr i) = h v i

    go : ((i : P) × (R : List P) × Alike S (i ∷ R) × (g i <ℤ pos 0)) ⊎ ((v : P) → In dec v S → pos 0 ≤ℤ g v) → ((i : P) × (R : List P) × Alike (x ∷ S) (i ∷ R) × (g i <ℤ pos 0)) ⊎ ((v : P) → In dec v (x ∷ S) → pos 0 ≤ℤ g v)
    go (inl p) = inl (p.0, x ∷ p.1, alike-second x (p.0) (alike-refl (x ∷ S)) (p.2), p.3)
    go (inr h) = by_lt_z (g x) (pos 0) (λ l. inl (x, S, alike-refl (x ∷ S), l)) (λ e. inr (λ v i. all e h v (in-cases dec v x S i)))

-- search through the members of a list
pub each : {P : Type 0} → (dec : (x y : P) → Dec (x ≡ y)) (Y : Type 0) (Z : P → Type 0) (S : List P) → ((v : P) → In dec v S → Y ⊎ Z v) → Y ⊎ ((v : P) → In dec v S → Z v)
each dec Y Z [] h = inr (λ v i. absurd (in-nil i))
each {P} dec Y Z (x ∷ S) h = go (h x (in-head dec x S)) (each dec Y Z S (λ v i. h v (in-tail dec v x S i)))
  where
    all : Z x → ((v : P) → In dec v S → Z v) → (v : P) → (v ≡ x) ⊎ In dec v S → Z v
    all e k v (inl q) = subst Z (sym q) e
    all e k v (inr i) = k v i

    go : Y ⊎ Z x → Y ⊎ ((v : P) → In dec v S → Z v) → Y ⊎ ((v : P) → In dec v (x ∷ S) → Z v)
    go (inl y) r = inl y
    go (inr z) (inl y) = inl y
    go (inr z) (inr k) = inr (λ v i. all z k v (in-cases dec v x S i))
