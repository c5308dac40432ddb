-- Fractions in lowest terms.
use Rattle.std.specs.Prelude.{ℤ, pos, neg_ℤ, ℕ, Bool, cond, ◌+ℤ◌, ◌*ℤ◌, ◌<ℤ◌, ◌≡◌, unsigned_abs, FitsSigned}
use Rattle.std.specs.Int.{IsGcd, w128}

pub record Ratio : Type 0 where
  pub num : ℤ
  pub den : ℤ

-- no number but 1 divides both parts, and the denominator is positive
pub record IsReduced (q : Ratio) : Type 0 where
  pub positive : pos 0 <ℤ q.den
  pub lowest : IsGcd (unsigned_abs q.num) (unsigned_abs q.den) 1

-- the ratio is a / b in lowest terms
pub record IsQuotient (a b : ℤ) (q : Ratio) : Type 0 where
  pub reduced : IsReduced q
  pub same : q.num *ℤ b ≡ a *ℤ q.den

-- both parts fit 128 bits
abbrev pub Fits : Ratio → Type 0
Fits q = FitsSigned w128 q.num × FitsSigned w128 q.den

-- the ratio of two magnitudes, with a sign
abbrev pub signed_ratio : Bool → ℕ → ℕ → Ratio
signed_ratio negative top bottom = record { num = cond negative (neg_ℤ (pos top)) (pos top); den = pos bottom }

-- a / b in lowest terms does not fit 128 bits
abbrev pub IsTooLarge : ℤ → ℤ → Type 0
IsTooLarge a b = (q : Ratio) → IsQuotient a b q → Fits q → ⊥

-- k and l are b and e divided by their greatest common divisor
pub record AreRests (b e k l : ℤ) : Type 0 where
  pub g : ℤ
  pub positive : pos 0 <ℤ g
  pub divisor : IsGcd (unsigned_abs b) (unsigned_abs e) (unsigned_abs g)
  pub first : g *ℤ k ≡ b
  pub second : g *ℤ l ≡ e

-- what the sum is computed from fits 128 bits: with the denominators b and e and g their greatest common divisor, each
-- numerator times the other denominator divided by g, their sum, and b (e / g)
pub record IsSumWithin (p q : Ratio) : Type 0 where
  pub k : ℤ
  pub l : ℤ
  pub rests : AreRests p.den q.den k l
  pub left : FitsSigned w128 (p.num *ℤ l)
  pub right : FitsSigned w128 (q.num *ℤ k)
  pub sum : FitsSigned w128 (p.num *ℤ l +ℤ q.num *ℤ k)
  pub den : FitsSigned w128 (p.den *ℤ l)

-- the sum and the product of two ratios
abbrev pub IsSum : Ratio → Ratio → Ratio → Type 0
IsSum p q = IsQuotient (p.num *ℤ q.den +ℤ q.num *ℤ p.den) (p.den *ℤ q.den)

abbrev pub IsProduct : Ratio → Ratio → Ratio → Type 0
IsProduct p q = IsQuotient (p.num *ℤ q.num) (p.den *ℤ q.den)
