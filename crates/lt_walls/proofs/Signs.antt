-- Signs of products, and identities from three equations.
use Rattle.std.proofs.Common.{T, List, [], ◌∷◌, ◌≡◌, ◌≢◌, ◌⊎◌, inl, inr, sym, ◌∙◌, ap, ap₂, arith, ℤ, pos, neg_ℤ, ◌+ℤ◌, ◌-ℤ◌, ◌*ℤ◌, ◌<ℤ◌, ◌≤ℤ◌}
use Rattle.std.proofs.lemmas.Int.{ints, by_lt_z}
use Rattle.lt_model.proofs.Ring.{ring, Expr, eval, norm, is_zero, var, num, neg, ◌⊕◌, ◌⊖◌, ◌⊗◌}
use Rattle.lt_model.proofs.Inequalities.{mul_nonneg_z, mul_pos_z, cancel_nonzero_z}

-- a ≡ b from three equations, where a - b multiplies out to the sum of multiples of their differences
pub ring_by_three : (env : List ℤ) (a b k l r k' l' r' k'' l'' r'' : Expr) → T (is_zero (norm ((a ⊖ b) ⊖ ((k ⊗ (l ⊖ r) ⊕ k' ⊗ (l' ⊖ r')) ⊕ k'' ⊗ (l'' ⊖ r''))))) → eval env l ≡ eval env r → eval env l' ≡ eval env r' → eval env l'' ≡ eval env r'' → eval env a ≡ eval env b
ring_by_three env a b k l r k' l' r' k'' l'' r'' h e e' e'' =
    from (eval env a) (eval env b) (eval env k) (eval env l) (eval env r) (eval env k') (eval env l') (eval env r') (eval env k'') (eval env l'') (eval env r'')
    (ring env (a ⊖ b) ((k ⊗ (l ⊖ r) ⊕ k' ⊗ (l' ⊖ r')) ⊕ k'' ⊗ (l'' ⊖ r'')) h) e e' e''
  where
    none : (k l r : ℤ) → l ≡ r → k *ℤ (l -ℤ r) ≡ pos 0
    none k l r e = ap (λ x. k *ℤ (x -ℤ r)) e ∙ ring (k ∷ r ∷ []) (var 0 ⊗ (var 1 ⊖ var 1)) (num (pos 0)) tt

    from : (a b k l r k' l' r' k'' l'' r'' : ℤ) → a -ℤ b ≡ (k *ℤ (l -ℤ r) +ℤ k' *ℤ (l' -ℤ r')) +ℤ k'' *ℤ (l'' -ℤ r'') → l ≡ r → l' ≡ r' → l'' ≡ r'' → a ≡ b
    from a b k l r k' l' r' k'' l'' r'' h e e' e'' = omega (arith, ints, h, none k l r e, none k' l' r' e', none k'' l'' r'' e'')

pub mul_neg_pos : (a b : ℤ) → a <ℤ pos 0 → pos 0 <ℤ b → (a *ℤ b) <ℤ pos 0
mul_neg_pos a b p q =
    let h : pos 0 <ℤ (neg_ℤ a *ℤ b) = mul_pos_z (neg_ℤ a) b (omega (arith, ints, p)) q in
    let e : neg_ℤ a *ℤ b ≡ neg_ℤ (a *ℤ b) = ring (a ∷ b ∷ []) (neg (var 0) ⊗ var 1) (neg (var 0 ⊗ var 1)) tt in
    omega (arith, ints, h, e)

-- m x' = m x + a h with m > 0, a < 0, h > 0 gives x' < x
pub step : (m a h x x' : ℤ) → pos 0 <ℤ m → a <ℤ pos 0 → pos 0 <ℤ h → m *ℤ x' ≡ m *ℤ x +ℤ a *ℤ h → x' <ℤ x
step m a h x x' p n q e =
    by_lt_z x' x (λ l. l) (λ g.
    let n1 : (a *ℤ h) <ℤ pos 0 = mul_neg_pos a h n q in
    let n2 : pos 0 ≤ℤ (m *ℤ (x' -ℤ x)) = mul_nonneg_z m (x' -ℤ x) (omega (arith, ints)) (omega (arith, ints)) in
    let n3 : m *ℤ (x' -ℤ x) ≡ m *ℤ x' -ℤ m *ℤ x = ring (m ∷ x ∷ x' ∷ []) (var 0 ⊗ (var 2 ⊖ var 1)) (var 0 ⊗ var 2 ⊖ var 0 ⊗ var 1) tt in
    omega (arith, ints, n1, n2, n3, e))

-- m x' = m x + a h with m > 0, a < 0, h > 0 and x' >= 0 gives x > 0
pub raised : (m a h x x' : ℤ) → pos 0 <ℤ m → a <ℤ pos 0 → pos 0 <ℤ h → pos 0 ≤ℤ x' → m *ℤ x' ≡ m *ℤ x +ℤ a *ℤ h → pos 0 <ℤ x
raised m a h x x' p n q g e = let l = step m a h x x' p n q e in omega (arith, ints, l, g)

pub sign : (z : ℤ) → z ≢ pos 0 → (z <ℤ pos 0) ⊎ (pos 0 <ℤ z)
sign z h = by_lt_z z (pos 0) (λ l. inl l) (λ g. inr (omega (arith, ints, h)))

pub mul_nz : (a b : ℤ) → a ≢ pos 0 → b ≢ pos 0 → (a *ℤ b) ≢ pos 0
mul_nz a b p q e = q (cancel_nonzero_z a b (pos 0) p (e ∙ ring (a ∷ []) (num (pos 0)) (var 0 ⊗ num (pos 0)) tt))

-- the square from three proportions
pub square : (r t x y z u v w : ℤ) → t ≢ pos 0 → y ≢ pos 0 → z ≢ pos 0 →
    t *ℤ (x *ℤ y) ≡ r *ℤ (u *ℤ v) → t *ℤ (x *ℤ z) ≡ r *ℤ (u *ℤ w) → t *ℤ (y *ℤ z) ≡ r *ℤ (v *ℤ w) → r *ℤ (u *ℤ u) ≡ t *ℤ (x *ℤ x)
square r t x y z u v w nt ny nz e1 e2 e3 = cancel_nonzero_z (t *ℤ (y *ℤ z)) (r *ℤ (u *ℤ u)) (t *ℤ (x *ℤ x)) (mul_nz t (y *ℤ z) nt (mul_nz y z ny nz)) all
  where
    all : (t *ℤ (y *ℤ z)) *ℤ (r *ℤ (u *ℤ u)) ≡ (t *ℤ (y *ℤ z)) *ℤ (t *ℤ (x *ℤ x))
    all = ap (λ k. k *ℤ (r *ℤ (u *ℤ u))) e3
        ∙ ring (r ∷ u ∷ v ∷ w ∷ []) ((var 0 ⊗ (var 2 ⊗ var 3)) ⊗ (var 0 ⊗ (var 1 ⊗ var 1))) ((var 0 ⊗ (var 1 ⊗ var 2)) ⊗ (var 0 ⊗ (var 1 ⊗ var 3))) tt
        ∙ ap₂ (λ k l. k *ℤ l) (sym e1) (sym e2)
        ∙ ring (t ∷ x ∷ y ∷ z ∷ []) ((var 0 ⊗ (var 1 ⊗ var 2)) ⊗ (var 0 ⊗ (var 1 ⊗ var 3))) ((var 0 ⊗ (var 2 ⊗ var 3)) ⊗ (var 0 ⊗ (var 1 ⊗ var 1))) tt

-- and the proportion
pub proportion : (r t x y u v : ℤ) → r ≢ pos 0 → u ≢ pos 0 → r *ℤ (u *ℤ u) ≡ t *ℤ (x *ℤ x) → t *ℤ (x *ℤ y) ≡ r *ℤ (u *ℤ v) → u *ℤ y ≡ x *ℤ v
proportion r t x y u v nr nu sq e = cancel_nonzero_z (r *ℤ u) (u *ℤ y) (x *ℤ v) (mul_nz r u nr nu)
    (ring (r ∷ u ∷ y ∷ []) ((var 0 ⊗ var 1) ⊗ (var 1 ⊗ var 2)) ((var 0 ⊗ (var 1 ⊗ var 1)) ⊗ var 2) tt
    ∙ ap (λ k. k *ℤ y) sq
    ∙ ring (t ∷ x ∷ y ∷ []) ((var 0 ⊗ (var 1 ⊗ var 1)) ⊗ var 2) (var 1 ⊗ (var 0 ⊗ (var 1 ⊗ var 2))) tt
    ∙ ap (λ k. x *ℤ k) e
    ∙ ring (r ∷ u ∷ v ∷ x ∷ []) (var 3 ⊗ (var 0 ⊗ (var 1 ⊗ var 2))) ((var 0 ⊗ var 1) ⊗ (var 3 ⊗ var 2)) tt)
