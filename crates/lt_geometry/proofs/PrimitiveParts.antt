-- Each list of numbers with a positive value is a multiple of a primitive one.
use Rattle.std.proofs.Common.{List, [], ◌∷◌, length, ◌≡◌, ◌≢◌, ℕ, zero, suc, ◌<◌, ◌≤◌, ◌*◌, ◌⊎◌, inl, inr, refl, sym, ◌∙◌, ap, ap₂, arith, ℤ, pos, negsuc, neg_ℤ, ◌+ℤ◌, ◌-ℤ◌, ◌*ℤ◌, ◌<ℤ◌, ◌≤ℤ◌}
use Rattle.std.proofs.lemmas.Int.{ints, by_lt_z}
use Rattle.std.proofs.Math.IntN.{ℤ_discrete}
use Rattle.lt_model.proofs.Ring.{ring, var, num, neg, ◌⊕◌, ◌⊖◌, ◌⊗◌}
use Rattle.lt_model.proofs.Inequalities.{mul_nonneg_z}
use Rattle.lt_model.specs.Padded.{head_z, tail_z}
use Rattle.lt_model.specs.Vectors.{scale, dot, IsPrimitive}
use Rattle.lt_model.proofs.Vectors.{scale-scale}
use Rattle.lt_model.proofs.Excess.{scale-dot}

divide_nat : (g : ℤ) → pos 0 <ℤ g → (n : ℕ) → (q : ℤ) × (r : ℤ) × (pos n ≡ g *ℤ q +ℤ r) × (pos 0 ≤ℤ r) × (r <ℤ g)
divide_nat g p zero = (pos 0, pos 0, ring (g ∷ []) (num (pos 0)) (var 0 ⊗ num (pos 0) ⊕ num (pos 0)) tt, omega (arith, ints), p)
divide_nat g p (suc n) = go (divide_nat g p n)
  where
    go : (q : ℤ) × (r : ℤ) × (pos n ≡ g *ℤ q +ℤ r) × (pos 0 ≤ℤ r) × (r <ℤ g) → (q : ℤ) × (r : ℤ) × (pos (suc n) ≡ g *ℤ q +ℤ r) × (pos 0 ≤ℤ r) × (r <ℤ g)
    go x = by_lt_z (x.1 +ℤ pos 1) g
        (λ l. (x.0, x.1 +ℤ pos 1, omega (arith, ints, x.2), omega (arith, ints, x.3), l))
        (λ m. (x.0 +ℤ pos 1, pos 0, omega (arith, ints, x.2, x.4, m, ring (g ∷ x.0 ∷ []) (var 0 ⊗ (var 1 ⊕ num (pos 1)) ⊕ num (pos 0)) (var 0 ⊗ var 1 ⊕ var 0) tt), omega (arith, ints), p))

division : (g : ℤ) → pos 0 <ℤ g → (z : ℤ) → (q : ℤ) × (r : ℤ) × (z ≡ g *ℤ q +ℤ r) × (pos 0 ≤ℤ r) × (r <ℤ g)
division g p (pos n) = divide_nat g p n
division g p (negsuc n) =
    let x = divide_nat g p n in
    (neg_ℤ (x.0) -ℤ pos 1, g -ℤ pos 1 -ℤ x.1, omega (arith, ints, x.2, ring (g ∷ x.0 ∷ x.1 ∷ []) (var 0 ⊗ (neg (var 1) ⊖ num (pos 1)) ⊕ (var 0 ⊖ num (pos 1) ⊖ var 2)) (neg (var 0 ⊗ var 1 ⊕ var 2) ⊖ num (pos 1)) tt), omega (arith, ints, x.4), omega (arith, ints, x.3))

divides : (g : ℤ) → pos 0 <ℤ g → (z : ℤ) → ((m : ℤ) × (z ≡ g *ℤ m)) ⊎ ((m : ℤ) → z ≡ g *ℤ m → ⊥)
divides g p z = go (ℤ_discrete (x.1) (pos 0))
  where
    x : (q : ℤ) × (r : ℤ) × (z ≡ g *ℤ q +ℤ r) × (pos 0 ≤ℤ r) × (r <ℤ g)
    x = division g p z

    wrong : x.1 ≢ pos 0 → (m : ℤ) → z ≡ g *ℤ m → ⊥
    wrong n m e = by_lt_z (x.0) m
        (λ l. omega (arith, ints, x.2, e, x.4, mul_nonneg_z g (m -ℤ x.0 -ℤ pos 1) (omega (arith, ints, p)) (omega (arith, ints, l)), ring (g ∷ m ∷ x.0 ∷ []) (var 0 ⊗ (var 1 ⊖ var 2 ⊖ num (pos 1))) (var 0 ⊗ var 1 ⊖ var 0 ⊗ var 2 ⊖ var 0) tt))
        (λ l. omega (arith, ints, x.2, e, x.3, n, mul_nonneg_z g (x.0 -ℤ m) (omega (arith, ints, p)) (omega (arith, ints, l)), ring (g ∷ m ∷ x.0 ∷ []) (var 0 ⊗ (var 2 ⊖ var 1)) (var 0 ⊗ var 2 ⊖ var 0 ⊗ var 1) tt))

    go : Dec (x.1 ≡ pos 0) → ((m : ℤ) × (z ≡ g *ℤ m)) ⊎ ((m : ℤ) → z ≡ g *ℤ m → ⊥)
    go (yes e) = inl (x.0, omega (arith, ints, x.2, e))
    go (no n) = inr (wrong n)

divides_all : (g : ℤ) → pos 0 <ℤ g → (h : List ℤ) → ((m : List ℤ) × (h ≡ scale g m)) ⊎ ((m : List ℤ) → h ≡ scale g m → ⊥)
divides_all g p [] = inl ([], refl)
divides_all g p (z ∷ h) = go (divides g p z) (divides_all g p h)
  where
    first : ((m : ℤ) → z ≡ g *ℤ m → ⊥) → (m : List ℤ) → z ∷ h ≡ scale g m → ⊥
    first n [] e = omega (arith, ap length e)
    first n (a ∷ m) e = n a (ap head_z e)

    later : ((m : List ℤ) → h ≡ scale g m → ⊥) → (m : List ℤ) → z ∷ h ≡ scale g m → ⊥
    later n [] e = omega (arith, ap length e)
    later n (a ∷ m) e = n m (ap tail_z e)

    go : ((m : ℤ) × (z ≡ g *ℤ m)) ⊎ ((m : ℤ) → z ≡ g *ℤ m → ⊥) → ((m : List ℤ) × (h ≡ scale g m)) ⊎ ((m : List ℤ) → h ≡ scale g m → ⊥) → ((m : List ℤ) × (z ∷ h ≡ scale g m)) ⊎ ((m : List ℤ) → z ∷ h ≡ scale g m → ⊥)
    go (inl a) (inl b) = inl (a.0 ∷ b.0, ap₂ (λ u v. u ∷ v) (a.1) (b.1))
    go (inr n) r = inr (first n)
    go (inl a) (inr n) = inr (later n)

factor : (h : List ℤ) (n : ℕ) → ((g : ℕ) × (2 ≤ g) × (m : List ℤ) × (h ≡ scale (pos g) m)) ⊎ ((g : ℕ) → 2 ≤ g → g ≤ n → (m : List ℤ) → h ≡ scale (pos g) m → ⊥)
factor h zero = inr (λ g l k m e. omega (arith, l, k))
factor h (suc zero) = inr (λ g l k m e. omega (arith, l, k))
factor h (suc (suc n)) = go (factor h (suc n)) (divides_all (pos (suc (suc n))) (omega (arith, ints)) h)
  where
    Found : Type 0
    Found = (g : ℕ) × (2 ≤ g) × (m : List ℤ) × (h ≡ scale (pos g) m)

    both : ((g : ℕ) → 2 ≤ g → g ≤ suc n → (m : List ℤ) → h ≡ scale (pos g) m → ⊥) → ((m : List ℤ) → h ≡ scale (pos (suc (suc n))) m → ⊥) → (g : ℕ) → 2 ≤ g → g ≤ suc (suc n) → (m : List ℤ) → h ≡ scale (pos g) m → ⊥
    both a b g l k m e = at_top (top g k)
      where
        top : (g : ℕ) → g ≤ suc (suc n) → (g ≡ suc (suc n)) ⊎ (g ≤ suc n)
        top g k = grind arith

        at_top : (g ≡ suc (suc n)) ⊎ (g ≤ suc n) → ⊥
        at_top (inl q) = b m (e ∙ ap (λ x. scale (pos x) m) q)
        at_top (inr j) = a g l j m e

    go : Found ⊎ ((g : ℕ) → 2 ≤ g → g ≤ suc n → (m : List ℤ) → h ≡ scale (pos g) m → ⊥) → ((m : List ℤ) × (h ≡ scale (pos (suc (suc n))) m)) ⊎ ((m : List ℤ) → h ≡ scale (pos (suc (suc n))) m → ⊥) → Found ⊎ ((g : ℕ) → 2 ≤ g → g ≤ suc (suc n) → (m : List ℤ) → h ≡ scale (pos g) m → ⊥)
    go (inl f) r = inl f
    go (inr a) (inl f) = inl (suc (suc n), omega arith, f.0, f.1)
    go (inr a) (inr b) = inr (both a b)

pub record Primitive (h : List ℤ) : Type 0 where
  pub n : List ℤ
  pub k : ℕ
  pub k_pos : 0 < k
  pub is : h ≡ scale (pos k) n
  pub primitive : IsPrimitive n

-- h, whose value at a is positive and below the fuel, as a multiple of a primitive list
primitive_by : (fuel : ℕ) (h a : List ℤ) → pos 0 <ℤ dot h a → dot h a <ℤ pos fuel → Primitive h
primitive_by zero h a p l = absurd (omega (arith, ints, p, l))
primitive_by (suc fuel) h a p l = go (factor h (suc fuel)) (λ m. primitive_by fuel m a)
  where
    value_is : (g : ℕ) (m : List ℤ) → h ≡ scale (pos g) m → dot h a ≡ pos g *ℤ dot m a
    value_is g m e = ap (λ x. dot x a) e ∙ scale-dot (pos g) m a

    positive : (g : ℕ) (m : List ℤ) → h ≡ scale (pos g) m → pos 0 <ℤ dot m a
    positive g m e = by_lt_z (pos 0) (dot m a) (λ x. x) (λ x. absurd (omega (arith, ints, p, value_is g m e, mul_nonneg_z (pos g) (neg_ℤ (dot m a)) (omega (arith, ints)) (omega (arith, ints, x)), ring ((pos g) ∷ (dot m a) ∷ []) (var 0 ⊗ neg (var 1)) (neg (var 0 ⊗ var 1)) tt)))

    go : ((g : ℕ) × (2 ≤ g) × (m : List ℤ) × (h ≡ scale (pos g) m)) ⊎ ((g : ℕ) → 2 ≤ g → g ≤ suc fuel → (m : List ℤ) → h ≡ scale (pos g) m → ⊥) → ((m : List ℤ) → pos 0 <ℤ dot m a → dot m a <ℤ pos fuel → Primitive m) → Primitive h
    go (inr none) rec = record { n = h; k = 1; k_pos = omega arith; is = sym (one h); primitive = only }
      where
        one : (x : List ℤ) → scale (pos 1) x ≡ x
        one [] = refl
        one (z ∷ x) = ap₂ (λ u v. u ∷ v) (ring (z ∷ []) (num (pos 1) ⊗ var 0) (var 0) tt) (one x)

        only : (g : ℕ) (m : List ℤ) → h ≡ scale (pos g) m → g ≡ 1
        only zero m e = absurd (omega (arith, ints, p, value_is 0 m e, ring ((dot m a) ∷ []) (num (pos 0) ⊗ var 0) (num (pos 0)) tt))
        only (suc zero) m e = refl
        only (suc (suc g)) m e = absurd (none (suc (suc g)) (omega arith) below m e)
          where
            below : suc (suc g) ≤ suc fuel
            below = omega (arith, ints, l, value_is (suc (suc g)) m e, mul_nonneg_z (pos (suc (suc g))) (dot m a -ℤ pos 1) (omega (arith, ints)) (omega (arith, ints, positive (suc (suc g)) m e)), ring ((pos (suc (suc g))) ∷ (dot m a) ∷ []) (var 0 ⊗ (var 1 ⊖ num (pos 1))) (var 0 ⊗ var 1 ⊖ var 0) tt)
    go (inl f) rec = record { n = r.n; k = f.0 * r.k; k_pos = nat_pos (f.0) r.k (omega (arith, f.1)) r.k_pos; is = f.3 ∙ ap (scale (pos (f.0))) r.is ∙ scale-scale (pos (f.0)) (pos r.k) r.n ∙ ap (λ x. scale x r.n) (product_is (f.0) r.k); primitive = r.primitive }
      where
        nat_pos : (x y : ℕ) → 0 < x → 0 < y → 0 < x * y
        nat_pos x y u v = grind arith

        product_is : (x y : ℕ) → pos x *ℤ pos y ≡ pos (x * y)
        product_is x y = omega (arith, ints)

        m : List ℤ
        m = f.2

        up : pos 0 <ℤ dot m a
        up = positive (f.0) m (f.3)

        less : dot m a <ℤ pos fuel
        less = omega (arith, ints, l, value_is (f.0) m (f.3), up, mul_nonneg_z (pos (f.0) -ℤ pos 2) (dot m a) (omega (arith, ints, f.1)) (omega (arith, ints, up)), ring ((pos (f.0)) ∷ (dot m a) ∷ []) ((var 0 ⊖ num (pos 2)) ⊗ var 1) (var 0 ⊗ var 1 ⊖ num (pos 2) ⊗ var 1) tt, ring ((dot m a) ∷ []) (num (pos 2) ⊗ var 0) (var 0 ⊕ var 0) tt)

        r : Primitive m
        r = rec m up less

pub primitive_part : (h a : List ℤ) → pos 0 <ℤ dot h a → Primitive h
primitive_part h a p = let f = fuel (dot h a) in primitive_by (f.0) h a p (f.1)
  where
    fuel : (z : ℤ) → (n : ℕ) × (z <ℤ pos n)
    fuel (pos n) = (suc n, omega (arith, ints))
    fuel (negsuc n) = (zero, omega (arith, ints))
