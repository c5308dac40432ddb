-- What sums, products and comparisons of ratios are computed from.
use Rattle.std.proofs.Common.{◌≡◌, ◌≢◌, refl, sym, ◌∙◌, ap, subst, ℕ, zero, suc, ◌%◌, ◌<◌, ◌^◌, ℤ, pos, negsuc, ◌+ℤ◌, ◌-ℤ◌, ◌*ℤ◌, ◌<ℤ◌, ◌≤ℤ◌, unsigned_abs, arith, FitsSigned, ◌⊎◌, inl, inr, Result, Ok, Err, MatchResult, IsOk}
use Rattle.std.specs.declared.cmp.Ordering.{Ordering}
use Rattle.std.specs.declared.cmp.Ordering.TheVariants.{Less, Equal, Greater}
use Rattle.std.specs.Ordering.{MatchOrdering}
use Rattle.std.proofs.lemmas.Int.{ints, unsigned_abs-mul}
use Rattle.std.proofs.lemmas.Nat.Gcd.{same_from_IsGcd, IsGcd-swap, le_of_dvd}
use Rattle.std.proofs.Math.Nat.{dvd-mul_left, eq-zero_of_zero-dvd, div-add-mod, mod-lt}
use Rattle.std.specs.Int.{IsGcd, ◌∣◌, w128, int_div_euclid, int_rem_euclid}
use Rattle.lt_num.specs.Fractions.{Ratio, IsReduced, IsQuotient, IsTooLarge, AreRests, IsSumWithin, IsSum, IsProduct}
use Rattle.lt_num.proofs.Coprime.{coprime_part, coprime_rest, coprime_products}
use Rattle.lt_num.proofs.Ratios.{cancel_z, too_large}
use Rattle.lt_num.proofs.Laws.{mul_zero_z, mul_one_z, one_mul_z, sorts}

-- ---- numbers divided by their greatest common divisor
positive_not_zero : (x : ℤ) → pos 0 <ℤ x → x ≢ pos 0
positive_not_zero x h z = absurd (omega (arith, ints, z))

same_rests : (b e k l m n : ℤ) → AreRests b e k l → AreRests b e m n → (k ≡ m) × (l ≡ n)
same_rests b e k l m n h r =
    let sizes = same_from_IsGcd (unsigned_abs b) (unsigned_abs e) (unsigned_abs h.g) (unsigned_abs r.g) h.divisor r.divisor in
    let p = h.positive in
    let q = r.positive in
    let same : h.g ≡ r.g = omega (arith, ints, sizes, p, q) in (
      cancel_z h.g k m (positive_not_zero h.g p) (h.first ∙ sym r.first ∙ ap (λ (g : ℤ). g *ℤ m) (sym same)),
      cancel_z h.g l n (positive_not_zero h.g p) (h.second ∙ sym r.second ∙ ap (λ (g : ℤ). g *ℤ n) (sym same)),
    )

-- the common divisor that the code finds
pub record IsShared (b e : ℤ) (g : ℕ) : Type 0 where
  pub some : 0 < g
  pub fits : g < 2 ^ 127
  pub first : g ∣ unsigned_abs b
  pub second : g ∣ unsigned_abs e

pub shared : (b e : ℤ) (g : ℕ) → pos 0 <ℤ e → FitsSigned w128 e → IsGcd (unsigned_abs b) (unsigned_abs e) g → IsShared b e g
shared b e g p f h =
    let some : 0 < unsigned_abs e = omega (arith, ints) in
    let low = le_of_dvd some h.1 in
    let top : unsigned_abs e < 2 ^ 127 = below e p f in
    record { some = not_none g h.1; fits = omega arith; first = h.0; second = h.1 }
  where
    below : (e : ℤ) → pos 0 <ℤ e → FitsSigned w128 e → unsigned_abs e < 2 ^ 127
    below (pos n) p f = let k = f.sfits in omega arith
    below (negsuc n) p f = absurd (omega (arith, ints))

    not_none : (g : ℕ) → g ∣ unsigned_abs e → 0 < g
    not_none zero d = let z = eq-zero_of_zero-dvd d in absurd (omega (arith, ints, z))
    not_none (suc g) d = omega arith

-- ---- sums
-- the parts of a sum are the only ones
pub within_parts : (p q : Ratio) (k l : ℤ) → AreRests p.den q.den k l → IsSumWithin p q → FitsSigned w128 (p.num *ℤ l) × FitsSigned w128 (q.num *ℤ k) × FitsSigned w128 (p.num *ℤ l +ℤ q.num *ℤ k) × FitsSigned w128 (p.den *ℤ l)
within_parts p q k l r h =
    let e = same_rests p.den q.den h.k h.l k l h.rests r in (
      subst (λ (n : ℤ). FitsSigned w128 (p.num *ℤ n)) e.1 h.left,
      subst (λ (m : ℤ). FitsSigned w128 (q.num *ℤ m)) e.0 h.right,
      subst (λ (m : ℤ). FitsSigned w128 (p.num *ℤ l +ℤ q.num *ℤ m)) e.0 (subst (λ (n : ℤ). FitsSigned w128 (p.num *ℤ n +ℤ q.num *ℤ h.k)) e.1 h.sum),
      subst (λ (n : ℤ). FitsSigned w128 (p.den *ℤ n)) e.1 h.den,
    )

product_positive : (x y : ℤ) → pos 0 <ℤ x → pos 0 <ℤ y → pos 0 <ℤ (x *ℤ y)
product_positive (pos zero) y h k = absurd (omega (arith, ints))
product_positive (pos (suc m)) (pos zero) h k = absurd (omega (arith, ints))
product_positive (pos (suc m)) (pos (suc n)) h k = omega (arith, ints)
product_positive (pos (suc m)) (negsuc n) h k = absurd (omega (arith, ints))
product_positive (negsuc m) y h k = absurd (omega (arith, ints))

factor_positive : (g x y : ℤ) → pos 0 <ℤ g → g *ℤ x ≡ y → pos 0 <ℤ y → pos 0 <ℤ x
factor_positive (pos zero) x y h e k = absurd (omega (arith, ints))
factor_positive (pos (suc g)) (pos zero) y h e k = absurd (omega (arith, ints, e, mul_zero_z (pos (suc g))))
factor_positive (pos (suc g)) (pos (suc n)) y h e k = omega (arith, ints)
factor_positive (pos (suc g)) (negsuc n) y h e k = absurd (omega (arith, ints, e))
factor_positive (negsuc g) x y h e k = absurd (omega (arith, ints))

pub sum_den : (p q : Ratio) (k l : ℤ) → AreRests p.den q.den k l → IsReduced p → IsReduced q → pos 0 <ℤ (p.den *ℤ l)
sum_den p q k l r hp hq = product_positive p.den l hp.positive (factor_positive r.g l q.den r.positive r.second hq.positive)

pub sum_is : (p q s : Ratio) (k l : ℤ) → AreRests p.den q.den k l → IsQuotient (p.num *ℤ l +ℤ q.num *ℤ k) (p.den *ℤ l) s → IsSum p q s
sum_is p q s k l r h = record {
  reduced = h.reduced;
  same = ap (λ (z : ℤ). s.num *ℤ (p.den *ℤ z)) (sym r.second) ∙ left s.num p.den r.g l ∙ ap (λ (z : ℤ). r.g *ℤ z) h.same ∙ right r.g p.num l q.num k s.den ∙ rw (r.first, r.second) refl;
}
  where
    left : (n b g l : ℤ) → n *ℤ (b *ℤ (g *ℤ l)) ≡ g *ℤ (n *ℤ (b *ℤ l))
    left n b g l = simp sorts refl

    right : (g a l c k d : ℤ) → g *ℤ ((a *ℤ l +ℤ c *ℤ k) *ℤ d) ≡ (a *ℤ (g *ℤ l) +ℤ c *ℤ (g *ℤ k)) *ℤ d
    right g a l c k d = simp sorts refl

-- what the last step of a sum answers
pub sum_answer : {E : Type 0} (p q : Ratio) (k l left right sum den : ℤ) (answer : Result Ratio E) → AreRests p.den q.den k l → left ≡ p.num *ℤ l → right ≡ q.num *ℤ k → sum ≡ p.num *ℤ l +ℤ q.num *ℤ k → den ≡ p.den *ℤ l →
    FitsSigned w128 left → FitsSigned w128 right → FitsSigned w128 sum → FitsSigned w128 den → MatchResult answer (λ s. IsQuotient sum den s) (λ _. IsTooLarge sum den) → IsOk answer →
    MatchResult answer (λ s. IsSumWithin p q × IsSum p q s) (λ _. IsSumWithin p q → ⊥)
sum_answer p q k l left right sum den (Ok s) r el er es ed fl fr fs fd h ok = (
  record { k = k; l = l; rests = r; left = subst (FitsSigned w128) el fl; right = subst (FitsSigned w128) er fr; sum = subst (FitsSigned w128) es fs; den = subst (FitsSigned w128) ed fd },
  sum_is p q s k l r (rw (← es, ← ed) h),
)
sum_answer p q k l left right sum den (Err x) r el er es ed fl fr fs fd h ok = cc

-- ---- products
rests_coprime : (b e k l : ℤ) → AreRests b e k l → IsGcd (unsigned_abs k) (unsigned_abs l) 1
rests_coprime b e k l r =
    let some : 0 < unsigned_abs r.g = let p = r.positive in omega (arith, ints) in
    coprime_rest (unsigned_abs r.g) (unsigned_abs k) (unsigned_abs l) some
    (rw (← unsigned_abs-mul r.g k, ← unsigned_abs-mul r.g l, r.first, r.second) r.divisor)

rest_divides : (g k b : ℤ) → g *ℤ k ≡ b → unsigned_abs k ∣ unsigned_abs b
rest_divides g k b e = subst (λ (n : ℕ). unsigned_abs k ∣ n) (sym (unsigned_abs-mul g k) ∙ ap unsigned_abs e) (dvd-mul_left (unsigned_abs k) (unsigned_abs g))

parts_coprime : (a b k l : ℤ) → unsigned_abs k ∣ unsigned_abs a → unsigned_abs l ∣ unsigned_abs b → IsGcd (unsigned_abs a) (unsigned_abs b) 1 → IsGcd (unsigned_abs k) (unsigned_abs l) 1
parts_coprime a b k l p q h =
    IsGcd-swap (unsigned_abs l) (unsigned_abs k) 1 (coprime_part (unsigned_abs l) (unsigned_abs b) (unsigned_abs k) q (IsGcd-swap (unsigned_abs k) (unsigned_abs b) 1 (coprime_part (unsigned_abs k) (unsigned_abs a) (unsigned_abs b) p h)))

-- with what each numerator and the other denominator have in common taken out, the products are in lowest terms
pub product_is : (p q : Ratio) (x w y z : ℤ) → IsReduced p → IsReduced q → AreRests p.num q.den x w → AreRests q.num p.den y z → IsProduct p q (record { num = x *ℤ y; den = z *ℤ w })
product_is p q x w y z hp hq r s = record {
  reduced = record {
    positive = product_positive z w (factor_positive s.g z p.den s.positive s.second hp.positive) (factor_positive r.g w q.den r.positive r.second hq.positive);
    lowest = rw (unsigned_abs-mul x y, unsigned_abs-mul z w) (coprime_products (unsigned_abs x) (unsigned_abs y) (unsigned_abs z) (unsigned_abs w)
        (parts_coprime p.num p.den x z (rest_divides r.g x p.num r.first) (rest_divides s.g z p.den s.second) hp.lowest)
        (rests_coprime p.num q.den x w r)
        (rests_coprime q.num p.den y z s)
        (parts_coprime q.num q.den y w (rest_divides s.g y q.num s.first) (rest_divides r.g w q.den r.second) hq.lowest));
  };
  same = rw (← r.first, ← r.second, ← s.first, ← s.second) (crossed x y z w r.g s.g);
}
  where
    crossed : (x y z w f g : ℤ) → (x *ℤ y) *ℤ ((g *ℤ z) *ℤ (f *ℤ w)) ≡ ((f *ℤ x) *ℤ (g *ℤ y)) *ℤ (z *ℤ w)
    crossed x y z w f g = simp sorts refl

pub product_too_large : (p q : Ratio) (x w y z : ℤ) → IsReduced p → IsReduced q → AreRests p.num q.den x w → AreRests q.num p.den y z → (FitsSigned w128 (x *ℤ y) → FitsSigned w128 (z *ℤ w) → ⊥) → IsTooLarge (p.num *ℤ q.num) (p.den *ℤ q.den)
product_too_large p q x w y z hp hq r s none =
    too_large (p.num *ℤ q.num) (p.den *ℤ q.den) (record { num = x *ℤ y; den = z *ℤ w })
    (positive_not_zero (p.den *ℤ q.den) (product_positive p.den q.den hp.positive hq.positive))
    (product_is p q x w y z hp hq r s) (λ f. none f.0 f.1)

-- ---- order
-- the order of two numbers is that of two others with the same difference
pub same_order : (o : Ordering) (x y u v : ℤ) → x -ℤ y ≡ u -ℤ v → MatchOrdering o (x <ℤ y) (x ≡ y) (y <ℤ x) → MatchOrdering o (u <ℤ v) (u ≡ v) (v <ℤ u)
same_order Less x y u v e h = omega (arith, ints, e, h)
same_order Equal x y u v e h = omega (arith, ints, e, h)
same_order Greater x y u v e h = omega (arith, ints, e, h)

-- an integral part and a rest
pub record IsSplit (a b p r : ℤ) : Type 0 where
  pub whole : a ≡ b *ℤ p +ℤ r
  pub low : pos 0 ≤ℤ r
  pub high : r <ℤ b

pub euclid_split : (a b : ℤ) → pos 0 <ℤ b → IsSplit a b (int_div_euclid a b) (int_rem_euclid a b)
euclid_split (pos a) (pos b) h =
    let some : 0 < b = omega (arith, ints) in
    let e = div-add-mod a b in
    let l : a % b < b = mod-lt a some in
    record { whole = omega (arith, ints, e); low = omega (arith, ints); high = omega (arith, ints, l) }
euclid_split (negsuc a) (pos b) h =
    let some : 0 < b = omega (arith, ints) in
    let e = div-add-mod a b in
    let l : a % b < b = mod-lt a some in
    record { whole = omega (arith, ints, e, l); low = omega (arith, ints); high = omega (arith, ints, l) }
euclid_split a (negsuc b) h = absurd (omega (arith, ints))

product_nonneg : (x y : ℤ) → pos 0 ≤ℤ x → pos 0 ≤ℤ y → pos 0 ≤ℤ (x *ℤ y)
product_nonneg (pos m) (pos n) h k = omega (arith, ints)
product_nonneg (pos m) (negsuc n) h k = absurd (omega (arith, ints))
product_nonneg (negsuc m) y h k = absurd (omega (arith, ints))

-- a smaller integral part
pub less_part : (a b c e p q r s : ℤ) → pos 0 <ℤ b → pos 0 <ℤ e → IsSplit a b p r → IsSplit c e q s → p <ℤ q → (a *ℤ e) <ℤ (c *ℤ b)
less_part a b c e p q r s hb he ha hc l =
    let t = q -ℤ p -ℤ pos 1 in
    let u = b -ℤ r in
    let q_is : q ≡ p +ℤ (pos 1 +ℤ t) = omega (arith, ints) in
    let b_is : b ≡ r +ℤ u = omega (arith, ints) in
    let hr = ha.high in
    let hs = hc.low in
    let one = product_positive e u he (omega (arith, ints, hr)) in
    let two = product_nonneg (e *ℤ t) b (product_nonneg e t (omega (arith, ints)) (omega (arith, ints, l))) (omega (arith, ints)) in
    let three = product_nonneg s b hs (omega (arith, ints)) in
    let first : a *ℤ e ≡ ((r +ℤ u) *ℤ p +ℤ r) *ℤ e = ap (λ (z : ℤ). z *ℤ e) (ha.whole ∙ ap (λ (z : ℤ). z *ℤ p +ℤ r) b_is) in
    let second : c *ℤ b ≡ (e *ℤ (p +ℤ (pos 1 +ℤ t)) +ℤ s) *ℤ (r +ℤ u) = ap (λ (z : ℤ). z *ℤ b) (hc.whole ∙ ap (λ (z : ℤ). e *ℤ z +ℤ s) q_is) ∙ ap (λ (z : ℤ). (e *ℤ (p +ℤ (pos 1 +ℤ t)) +ℤ s) *ℤ z) b_is in
    let gap = expand e p t s r u in
    let two' : pos 0 ≤ℤ ((e *ℤ t) *ℤ (r +ℤ u)) = subst (λ (z : ℤ). pos 0 ≤ℤ ((e *ℤ t) *ℤ z)) b_is two in
    let three' : pos 0 ≤ℤ (s *ℤ (r +ℤ u)) = subst (λ (z : ℤ). pos 0 ≤ℤ (s *ℤ z)) b_is three in
    omega (arith, ints, first, second, gap, one, two', three')
  where
    expand : (e p t s r u : ℤ) → (e *ℤ (p +ℤ (pos 1 +ℤ t)) +ℤ s) *ℤ (r +ℤ u) ≡ ((r +ℤ u) *ℤ p +ℤ r) *ℤ e +ℤ (e *ℤ u +ℤ ((e *ℤ t) *ℤ (r +ℤ u) +ℤ s *ℤ (r +ℤ u)))
    expand e p t s r u = simp (sorts, mul_one_z, one_mul_z) refl

-- the order by different integral parts
pub order_by_parts : (o : Ordering) (a b c e p q r s : ℤ) → pos 0 <ℤ b → pos 0 <ℤ e → IsSplit a b p r → IsSplit c e q s → p ≢ q → MatchOrdering o (p <ℤ q) (p ≡ q) (q <ℤ p) → MatchOrdering o ((a *ℤ e) <ℤ (c *ℤ b)) (a *ℤ e ≡ c *ℤ b) ((c *ℤ b) <ℤ (a *ℤ e))
order_by_parts Less a b c e p q r s hb he ha hc n h = less_part a b c e p q r s hb he ha hc h
order_by_parts Equal a b c e p q r s hb he ha hc n h = absurd (n h)
order_by_parts Greater a b c e p q r s hb he ha hc n h = less_part c e a b q p s r he hb hc ha h

-- equal integral parts: the inverses of what is left have the same difference
pub same_parts : (a b c e p q r s : ℤ) → IsSplit a b p r → IsSplit c e q s → p ≡ q → e *ℤ r -ℤ b *ℤ s ≡ a *ℤ e -ℤ c *ℤ b
same_parts a b c e p q r s ha hc h =
    let first : a *ℤ e ≡ b *ℤ (p *ℤ e) +ℤ e *ℤ r = ap (λ (z : ℤ). z *ℤ e) ha.whole ∙ out b p r e in
    let second : c *ℤ b ≡ b *ℤ (p *ℤ e) +ℤ b *ℤ s = ap (λ (z : ℤ). z *ℤ b) (hc.whole ∙ ap (λ (z : ℤ). e *ℤ z +ℤ s) (sym h)) ∙ other e p s b in
    omega (arith, ints, first, second)
  where
    out : (b p r e : ℤ) → (b *ℤ p +ℤ r) *ℤ e ≡ b *ℤ (p *ℤ e) +ℤ e *ℤ r
    out b p r e = simp sorts refl

    other : (e p s b : ℤ) → (e *ℤ p +ℤ s) *ℤ b ≡ b *ℤ (p *ℤ e) +ℤ b *ℤ s
    other e p s b = simp sorts refl

-- the order where a denominator is 0
pub order_at_end : (o : Ordering) (a b c e : ℤ) → pos 0 ≤ℤ b → pos 0 ≤ℤ e → (b ≡ pos 0) ⊎ (e ≡ pos 0) → ((pos 0 <ℤ b) × (pos 0 <ℤ e)) ⊎ ((pos 0 <ℤ a) × (pos 0 <ℤ c)) → MatchOrdering o (e <ℤ b) (e ≡ b) (b <ℤ e) → MatchOrdering o ((a *ℤ e) <ℤ (c *ℤ b)) (a *ℤ e ≡ c *ℤ b) ((c *ℤ b) <ℤ (a *ℤ e))
order_at_end o a b c e lb le (inl z) (inl f) h = absurd (let p = f.0 in omega (arith, ints, z, p))
order_at_end o a b c e lb le (inr z) (inl f) h = absurd (let p = f.1 in omega (arith, ints, z, p))
order_at_end Less a b c e lb le (inl z) (inr f) h = absurd (omega (arith, ints, z, h, le))
order_at_end Less a b c e lb le (inr z) (inr f) h = rw (z, mul_zero_z a) (product_positive c b f.1 (omega (arith, ints, z, h)))
order_at_end Equal a b c e lb le (inl z) (inr f) h = let w : e ≡ pos 0 = h ∙ z in rw (w, z, mul_zero_z a, mul_zero_z c) refl
order_at_end Equal a b c e lb le (inr z) (inr f) h = let w : b ≡ pos 0 = sym h ∙ z in rw (w, z, mul_zero_z a, mul_zero_z c) refl
order_at_end Greater a b c e lb le (inl z) (inr f) h = rw (z, mul_zero_z c) (product_positive a e f.0 (omega (arith, ints, z, h)))
order_at_end Greater a b c e lb le (inr z) (inr f) h = absurd (omega (arith, ints, z, h, lb))
