-- A solver for identities of the ring ℤ: `ring` proves `eval a env ≡ eval b env` where both multiply out to one polynomial.
use Rattle.std.proofs.Common.{◌≡◌, refl, sym, ◌∙◌, ap, ap₂, ℤ, pos, negsuc, ◌+ℤ◌, ◌-ℤ◌, ◌*ℤ◌, neg_ℤ, arith, ℕ, zero, suc, Bool, true, false, T, List}
use Rattle.std.proofs.lemmas.Int.{ints}
use Rattle.lt_model.specs.Padded.{head_z, tail_z, lookup}
use Rattle.lt_model.proofs.Integers.{add_assoc_z, add_comm_z, add_zero_z, zero_add_z, mul_assoc_z, mul_left_comm_z, mul_add_z, add_mul_z, mul_zero_z, zero_mul_z, mul_one_z, neg_is_mul}

pub data Expr : Type 0 where
  var : ℕ → Expr
  num : ℤ → Expr
  ◌⊕◌ : Expr → Expr → Expr
  ◌⊖◌ : Expr → Expr → Expr
  ◌⊗◌ : Expr → Expr → Expr
  neg : Expr → Expr

infixl 6 ◌⊕◌ ◌⊖◌
infixl 7 ◌⊗◌
abbrev pub eval : List ℤ → Expr → ℤ
eval env (var i) = lookup env i
eval env (num z) = z
eval env (a ⊕ b) = eval env a +ℤ eval env b
eval env (a ⊖ b) = eval env a -ℤ eval env b
eval env (a ⊗ b) = eval env a *ℤ eval env b
eval env (neg a) = neg_ℤ (eval env a)

-- A polynomial in the values of a list: `node p q` is p, in the values after the first, plus the first value times q
pub data Poly : Type 0 where
  nil : Poly
  con : ℤ → Poly
  node : Poly → Poly → Poly

abbrev pub value : List ℤ → Poly → ℤ
value env nil = pos 0
value env (con c) = c
value env (node p q) = value (tail_z env) p +ℤ head_z env *ℤ value env q

abbrev pub add_con : ℤ → Poly → Poly
add_con c nil = con c
add_con c (con d) = con (c +ℤ d)
add_con c (node p q) = node (add_con c p) q

abbrev pub plus : Poly → Poly → Poly
plus nil r = r
plus (con c) r = add_con c r
plus (node p q) nil = node p q
plus (node p q) (con c) = node (add_con c p) q
plus (node p q) (node r s) = node (plus p r) (plus q s)

abbrev pub scale : ℤ → Poly → Poly
scale c nil = nil
scale c (con d) = con (c *ℤ d)
scale c (node p q) = node (scale c p) (scale c q)

abbrev pub shift : Poly → Poly
shift nil = nil
shift (con c) = node nil (con c)
shift (node p q) = node nil (node p q)

-- f at each coefficient
abbrev pub each : (Poly → Poly) → Poly → Poly
each f nil = nil
each f (con c) = node (f (con c)) nil
each f (node p q) = node (f p) (each f q)

abbrev pub times : Poly → Poly → Poly
times nil r = nil
times (con c) r = scale c r
times (node p q) r = plus (each (times p) r) (shift (times q r))

abbrev pub var_poly : ℕ → Poly
var_poly zero = node nil (con (pos 1))
var_poly (suc i) = node (var_poly i) nil

abbrev pub norm : Expr → Poly
norm (var i) = var_poly i
norm (num z) = con z
norm (a ⊕ b) = plus (norm a) (norm b)
norm (a ⊖ b) = plus (norm a) (scale (negsuc 0) (norm b))
norm (a ⊗ b) = times (norm a) (norm b)
norm (neg a) = scale (negsuc 0) (norm a)

abbrev pub zero_z : ℤ → Bool
zero_z (pos zero) = true
zero_z (pos (suc n)) = false
zero_z (negsuc n) = false

abbrev pub both : Bool → Bool → Bool
both true b = b
both false b = false

abbrev pub is_zero : Poly → Bool
is_zero nil = true
is_zero (con c) = zero_z c
is_zero (node p q) = both (is_zero p) (is_zero q)

-- ---- what each step keeps
value-add_con : (env : List ℤ) (c : ℤ) (p : Poly) → value env (add_con c p) ≡ c +ℤ value env p
value-add_con env c nil = sym (add_zero_z c)
value-add_con env c (con d) = refl
value-add_con env c (node p q) = ap (λ (x : ℤ). x +ℤ head_z env *ℤ value env q) (value-add_con (tail_z env) c p) ∙ add_assoc_z c (value (tail_z env) p) (head_z env *ℤ value env q)

four : (x a b c d : ℤ) → (a +ℤ b) +ℤ x *ℤ (c +ℤ d) ≡ (a +ℤ x *ℤ c) +ℤ (b +ℤ x *ℤ d)
four x a b c d = let e = mul_add_z x c d in omega (arith, ints)

value-plus : (env : List ℤ) (p r : Poly) → value env (plus p r) ≡ value env p +ℤ value env r
value-plus env nil r = sym (zero_add_z (value env r))
value-plus env (con c) r = value-add_con env c r
value-plus env (node p q) nil = sym (add_zero_z (value env (node p q)))
value-plus env (node p q) (con c) = value-add_con env c (node p q) ∙ add_comm_z c (value env (node p q))
value-plus env (node p q) (node r s) =
    ap₂ (λ (x y : ℤ). x +ℤ head_z env *ℤ y) (value-plus (tail_z env) p r) (value-plus env q s)
    ∙ four (head_z env) (value (tail_z env) p) (value (tail_z env) r) (value env q) (value env s)

pulled : (c x a b : ℤ) → c *ℤ a +ℤ x *ℤ (c *ℤ b) ≡ c *ℤ (a +ℤ x *ℤ b)
pulled c x a b = simp (mul_add_z, mul_left_comm_z)

value-scale : (env : List ℤ) (c : ℤ) (p : Poly) → value env (scale c p) ≡ c *ℤ value env p
value-scale env c nil = sym (mul_zero_z c)
value-scale env c (con d) = refl
value-scale env c (node p q) =
    ap₂ (λ (x y : ℤ). x +ℤ head_z env *ℤ y) (value-scale (tail_z env) c p) (value-scale env c q)
    ∙ pulled c (head_z env) (value (tail_z env) p) (value env q)

value-shift : (env : List ℤ) (p : Poly) → value env (shift p) ≡ head_z env *ℤ value env p
value-shift env nil = sym (mul_zero_z (head_z env))
value-shift env (con c) = zero_add_z (head_z env *ℤ c)
value-shift env (node p q) = zero_add_z (head_z env *ℤ value env (node p q))

value-each : (env : List ℤ) (f : Poly → Poly) (v : ℤ) → ((p : Poly) → value (tail_z env) (f p) ≡ v *ℤ value (tail_z env) p) → (p : Poly) → value env (each f p) ≡ v *ℤ value env p
value-each env f v h nil = sym (mul_zero_z v)
value-each env f v h (con c) = ap (λ (x : ℤ). value (tail_z env) (f (con c)) +ℤ x) (mul_zero_z (head_z env)) ∙ add_zero_z (value (tail_z env) (f (con c))) ∙ h (con c)
value-each env f v h (node p q) =
    ap₂ (λ (x y : ℤ). x +ℤ head_z env *ℤ y) (h p) (value-each env f v h q)
    ∙ pulled v (head_z env) (value (tail_z env) p) (value env q)

spread : (a x b r : ℤ) → a *ℤ r +ℤ x *ℤ (b *ℤ r) ≡ (a +ℤ x *ℤ b) *ℤ r
spread a x b r = simp (add_mul_z, mul_assoc_z)

value-times : (env : List ℤ) (p r : Poly) → value env (times p r) ≡ value env p *ℤ value env r
value-times env nil r = sym (zero_mul_z (value env r))
value-times env (con c) r = value-scale env c r
value-times env (node p q) r =
    value-plus env (each (times p) r) (shift (times q r))
    ∙ ap₂ (λ (x y : ℤ). x +ℤ y)
    (value-each env (times p) (value (tail_z env) p) (value-times (tail_z env) p) r)
    (value-shift env (times q r) ∙ ap (λ (y : ℤ). head_z env *ℤ y) (value-times env q r))
    ∙ spread (value (tail_z env) p) (head_z env) (value env q) (value env r)

value-var : (env : List ℤ) (i : ℕ) → value env (var_poly i) ≡ lookup env i
value-var env zero = zero_add_z (head_z env *ℤ pos 1) ∙ mul_one_z (head_z env)
value-var env (suc i) = ap (λ (x : ℤ). value (tail_z env) (var_poly i) +ℤ x) (mul_zero_z (head_z env)) ∙ add_zero_z (value (tail_z env) (var_poly i)) ∙ value-var (tail_z env) i

pub value-norm : (env : List ℤ) (e : Expr) → value env (norm e) ≡ eval env e
value-norm env (var i) = value-var env i
value-norm env (num z) = refl
value-norm env (a ⊕ b) = value-plus env (norm a) (norm b) ∙ ap₂ (λ (x y : ℤ). x +ℤ y) (value-norm env a) (value-norm env b)
value-norm env (a ⊖ b) =
    value-plus env (norm a) (scale (negsuc 0) (norm b))
    ∙ ap₂ (λ (x y : ℤ). x +ℤ y) (value-norm env a)
    (value-scale env (negsuc 0) (norm b) ∙ sym (neg_is_mul (value env (norm b))) ∙ ap neg_ℤ (value-norm env b))
value-norm env (a ⊗ b) = value-times env (norm a) (norm b) ∙ ap₂ (λ (x y : ℤ). x *ℤ y) (value-norm env a) (value-norm env b)
value-norm env (neg a) = value-scale env (negsuc 0) (norm a) ∙ sym (neg_is_mul (value env (norm a))) ∙ ap neg_ℤ (value-norm env a)

zero_z_is : (c : ℤ) → T (zero_z c) → c ≡ pos 0
zero_z_is (pos zero) h = refl
zero_z_is (pos (suc n)) h = absurd h
zero_z_is (negsuc n) h = absurd h

both_left : (a b : Bool) → T (both a b) → T a
both_left true b h = tt
both_left false b h = absurd h

both_right : (a b : Bool) → T (both a b) → T b
both_right true b h = h
both_right false b h = absurd h

value-zero : (env : List ℤ) (p : Poly) → T (is_zero p) → value env p ≡ pos 0
value-zero env nil h = refl
value-zero env (con c) h = zero_z_is c h
value-zero env (node p q) h =
    ap₂ (λ (x y : ℤ). x +ℤ head_z env *ℤ y) (value-zero (tail_z env) p (both_left (is_zero p) (is_zero q) h)) (value-zero env q (both_right (is_zero p) (is_zero q) h))
    ∙ zero_add_z (head_z env *ℤ pos 0) ∙ mul_zero_z (head_z env)

difference : (a b : ℤ) → a -ℤ b ≡ pos 0 → a ≡ b
difference a b e = omega (arith, ints)

pub ring : (env : List ℤ) (a b : Expr) → T (is_zero (norm (a ⊖ b))) → eval env a ≡ eval env b
ring env a b h = difference (eval env a) (eval env b) (sym (value-norm env (a ⊖ b)) ∙ value-zero env (norm (a ⊖ b)) h)

no_difference : (k l r : ℤ) → l ≡ r → k *ℤ (l -ℤ r) ≡ pos 0
no_difference k l r e = ap (λ (x : ℤ). k *ℤ x) (vanishes l r e) ∙ mul_zero_z k
  where
    vanishes : (l r : ℤ) → l ≡ r → l -ℤ r ≡ pos 0
    vanishes l r e = omega (arith, ints)

-- a ≡ b from l ≡ r, where a - b multiplies out to k times l - r
pub ring_by : (env : List ℤ) (a b k l r : Expr) → T (is_zero (norm ((a ⊖ b) ⊖ k ⊗ (l ⊖ r)))) → eval env l ≡ eval env r → eval env a ≡ eval env b
ring_by env a b k l r h e =
    difference (eval env a) (eval env b) (ring env (a ⊖ b) (k ⊗ (l ⊖ r)) h ∙ no_difference (eval env k) (eval env l) (eval env r) e)

-- the same from two equations
pub ring_by_two : (env : List ℤ) (a b k l r k' l' r' : Expr) → T (is_zero (norm ((a ⊖ b) ⊖ (k ⊗ (l ⊖ r) ⊕ k' ⊗ (l' ⊖ r'))))) → eval env l ≡ eval env r → eval env l' ≡ eval env r' → eval env a ≡ eval env b
ring_by_two env a b k l r k' l' r' h e e' =
    difference (eval env a) (eval env b)
    (ring env (a ⊖ b) (k ⊗ (l ⊖ r) ⊕ k' ⊗ (l' ⊖ r')) h
    ∙ ap₂ (λ (x y : ℤ). x +ℤ y) (no_difference (eval env k) (eval env l) (eval env r) e) (no_difference (eval env k') (eval env l') (eval env r') e'))
