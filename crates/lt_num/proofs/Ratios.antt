-- Ratios in lowest terms: there is one of each quotient.
use Rattle.std.proofs.Common.{◌≡◌, ◌≢◌, refl, sym, ◌∙◌, ap, subst, ℕ, zero, suc, ◌*◌, ◌<◌, ◌/◌, ℤ, pos, negsuc, neg_ℤ, ◌+ℤ◌, ◌*ℤ◌, ◌<ℤ◌, unsigned_abs, arith, cond, Bool, true, false, mul_comm, not, int_lt, MatchResult, Result, Ok, Err, T}
use Rattle.std.proofs.lemmas.Int.{ints, unsigned_abs-mul}
use Rattle.std.specs.Int.Signed.{lt_z_yes}
use mathlib.Core.Bool.{beq}
use Rattle.std.proofs.lemmas.Nat.Gcd.{mod-eq-zero_of_dvd, dvd_antisymm, IsGcd-swap}
use Rattle.std.proofs.Math.Nat.{div-add-mod, dvd-mul_left, mul_assoc}
use Rattle.std.specs.Int.{IsGcd, ◌∣◌}
use Rattle.lt_num.specs.Fractions.{Ratio, IsReduced, IsQuotient, IsTooLarge, Fits, signed_ratio}
use Rattle.lt_num.proofs.Coprime.{divides_other, coprime_rest}
use Rattle.lt_num.proofs.Laws.{mul_comm_z, mul_add_z, mul_neg_z, sorts}

-- ---- one ratio of each quotient
pub cancel_z : (b x y : ℤ) → b ≢ pos 0 → b *ℤ x ≡ b *ℤ y → x ≡ y
cancel_z b x y h e =
    let spread : b *ℤ (x +ℤ neg_ℤ y) ≡ b *ℤ x +ℤ neg_ℤ (b *ℤ y) = mul_add_z b x (neg_ℤ y) ∙ ap (λ (z : ℤ). b *ℤ x +ℤ z) (mul_neg_z b y) in
    let none : b *ℤ (x +ℤ neg_ℤ y) ≡ pos 0 = omega (arith, ints, spread, e) in
    let size : unsigned_abs b * unsigned_abs (x +ℤ neg_ℤ y) ≡ 0 = sym (unsigned_abs-mul b (x +ℤ neg_ℤ y)) ∙ ap unsigned_abs none in
    let zero_abs = no_product (unsigned_abs b) (unsigned_abs (x +ℤ neg_ℤ y)) (omega (arith, ints, h)) size in
    omega (arith, ints, zero_abs)
  where
    no_product : (m n : ℕ) → 0 < m → m * n ≡ 0 → n ≡ 0
    no_product m zero p e = refl
    no_product zero (suc n) p e = absurd (omega arith)
    no_product (suc m) (suc n) p e = absurd (omega arith)

crossed : (a b n d m f : ℤ) → b ≢ pos 0 → n *ℤ b ≡ a *ℤ d → m *ℤ b ≡ a *ℤ f → n *ℤ f ≡ m *ℤ d
crossed a b n d m f h p q = cancel_z b (n *ℤ f) (m *ℤ d) h (first ∙ ap (λ (z : ℤ). z *ℤ f) p ∙ turn ∙ ap (λ (z : ℤ). z *ℤ d) (sym q) ∙ second)
  where
    first : b *ℤ (n *ℤ f) ≡ (n *ℤ b) *ℤ f
    first = simp sorts refl

    turn : (a *ℤ d) *ℤ f ≡ (a *ℤ f) *ℤ d
    turn = simp sorts refl

    second : (m *ℤ b) *ℤ d ≡ b *ℤ (m *ℤ d)
    second = simp sorts refl

-- the denominator divides the numerator of the other times itself, so it divides the other denominator
den_divides : (q r : Ratio) → IsReduced q → IsReduced r → q.num *ℤ r.den ≡ r.num *ℤ q.den → unsigned_abs q.den ∣ unsigned_abs r.den
den_divides q r hq hr e =
    let sizes : unsigned_abs q.num * unsigned_abs r.den ≡ unsigned_abs r.num * unsigned_abs q.den = sym (unsigned_abs-mul q.num r.den) ∙ ap unsigned_abs e ∙ unsigned_abs-mul r.num q.den in
    divides_other (unsigned_abs q.den) (unsigned_abs q.num) (unsigned_abs r.den) (IsGcd-swap (unsigned_abs q.num) (unsigned_abs q.den) 1 hq.lowest)
    (subst (λ (n : ℕ). unsigned_abs q.den ∣ n) (sym sizes) (dvd-mul_left (unsigned_abs q.den) (unsigned_abs r.num)))

pub same_ratio : (a b : ℤ) (q r : Ratio) → b ≢ pos 0 → IsQuotient a b q → IsQuotient a b r → q ≡ r
same_ratio a b q r h hq hr =
    let e = crossed a b q.num q.den r.num r.den h hq.same hr.same in
    let sizes = dvd_antisymm (den_divides q r hq.reduced hr.reduced e) (den_divides r q hr.reduced hq.reduced (sym e)) in
    let dq = hq.reduced.positive in
    let dr = hr.reduced.positive in
    let dens : q.den ≡ r.den = omega (arith, ints, sizes, dq, dr) in
    let nums : q.num ≡ r.num = cancel_z r.den q.num r.num (λ z. absurd (omega (arith, ints, z, dr))) (mul_comm_z r.den q.num ∙ e ∙ ap (λ (z : ℤ). r.num *ℤ z) dens ∙ mul_comm_z r.num r.den) in
    λ i. record { num = nums i; den = dens i }

-- ---- the ratio that is computed
signed_size : (s : Bool) (n : ℕ) → unsigned_abs (cond s (neg_ℤ (pos n)) (pos n)) ≡ n
signed_size true zero = refl
signed_size true (suc n) = refl
signed_size false n = refl

pub signed_reduced : (s : Bool) (top bottom : ℕ) → 0 < bottom → IsGcd top bottom 1 → IsReduced (signed_ratio s top bottom)
signed_reduced s top bottom p h = record { positive = omega (arith, ints); lowest = rw (signed_size s top) h }

-- whether two numbers differ in sign
abbrev pub differ : ℤ → ℤ → Bool
differ a b = not (beq (int_lt a (pos 0)) (int_lt b (pos 0)))

never_negative : (a : ℕ) → int_lt (pos a) (pos 0) ≡ false
never_negative a = by_test (int_lt (pos a) (pos 0)) refl
  where
    by_test : (t : Bool) → int_lt (pos a) (pos 0) ≡ t → t ≡ false
    by_test false e = refl
    by_test true e = let l : pos a <ℤ pos 0 = lt_z_yes (subst T (sym e) tt) in absurd (omega (arith, ints))

signed_same : (a b : ℤ) (top bottom : ℕ) → top * unsigned_abs b ≡ unsigned_abs a * bottom → (signed_ratio (differ a b) top bottom).num *ℤ b ≡ a *ℤ pos bottom
signed_same (pos a) (pos b) top bottom h = rw (never_negative a, never_negative b) (omega (arith, ints, h))
signed_same (pos a) (negsuc b) zero bottom h = rw (never_negative a) (omega (arith, ints, h))
signed_same (pos a) (negsuc b) (suc top) bottom h = rw (never_negative a) (omega (arith, ints, h))
signed_same (negsuc a) (pos b) zero bottom h = rw (never_negative b) (omega (arith, ints, h))
signed_same (negsuc a) (pos b) (suc top) bottom h = rw (never_negative b) (omega (arith, ints, h))
signed_same (negsuc a) (negsuc b) top bottom h = omega (arith, ints, h)

factors : (g n m : ℕ) → m ≡ g * n → 0 < m → (0 < g) × (0 < n)
factors zero n m e p = absurd (omega arith)
factors (suc g) zero m e p = absurd (omega arith)
factors (suc g) (suc n) m e p = (omega arith, omega arith)

pub quotient_is : (a b : ℤ) (g top bottom : ℕ) → b ≢ pos 0 → IsGcd (unsigned_abs a) (unsigned_abs b) g → unsigned_abs a ≡ g * top → unsigned_abs b ≡ g * bottom → IsQuotient a b (signed_ratio (differ a b) top bottom)
quotient_is a b g top bottom h d ea eb =
    let some : 0 < unsigned_abs b = omega (arith, ints, h) in
    let p = factors g bottom (unsigned_abs b) eb some in
    let low : IsGcd top bottom 1 = coprime_rest g top bottom p.0 (rw (← ea, ← eb) d) in
    record {
      reduced = signed_reduced (differ a b) top bottom p.1 low;
      same = signed_same a b top bottom (rw (ea, eb) (turn g top bottom));
    }
  where
    turn : (g t u : ℕ) → t * (g * u) ≡ (g * t) * u
    turn g t u = sym (mul_assoc t g u) ∙ ap (λ (n : ℕ). n * u) (mul_comm t g)

-- it is the only one
pub too_large : (a b : ℤ) (q : Ratio) → b ≢ pos 0 → IsQuotient a b q → (Fits q → ⊥) → IsTooLarge a b
too_large a b q h is none r k fits = none (subst Fits (same_ratio a b r q h k is) fits)

-- both numbers divided by their greatest common divisor
pub record HasParts (a b : ℤ) (g : ℕ) : Type 0 where
  pub some : 0 < g
  pub positive : 0 < unsigned_abs b / g
  pub lowest : IsGcd (unsigned_abs a / g) (unsigned_abs b / g) 1
  pub quotient : IsQuotient a b (signed_ratio (differ a b) (unsigned_abs a / g) (unsigned_abs b / g))

pub has_parts : (a b : ℤ) (g : ℕ) → b ≢ pos 0 → IsGcd (unsigned_abs a) (unsigned_abs b) g → HasParts a b g
has_parts a b g h d =
    let some : 0 < unsigned_abs b = omega (arith, ints, h) in
    let eb = exact (unsigned_abs b) d.1 in
    let p = factors g (unsigned_abs b / g) (unsigned_abs b) eb some in
    let ea = exact (unsigned_abs a) d.0 in
    record {
      some = p.0;
      positive = p.1;
      lowest = coprime_rest g (unsigned_abs a / g) (unsigned_abs b / g) p.0 (rw (← ea, ← eb) d);
      quotient = quotient_is a b g (unsigned_abs a / g) (unsigned_abs b / g) h d ea eb;
    }
  where
    exact : (n : ℕ) → g ∣ n → n ≡ g * (n / g)
    exact n k = let z = mod-eq-zero_of_dvd g k in let s = div-add-mod n g in omega (arith, z, s)

pub quotient_answer : {E : Type 0} (a b : ℤ) (s : Ratio) (r : Result Ratio E) → b ≢ pos 0 → IsQuotient a b s → MatchResult r (λ q. q ≡ s) (λ _. Fits s → ⊥) → MatchResult r (λ q. IsQuotient a b q) (λ _. IsTooLarge a b)
quotient_answer a b s (Ok q) h is e = subst (IsQuotient a b) (sym e) is
quotient_answer a b s (Err x) h is e = too_large a b s h is e
