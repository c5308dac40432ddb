-- The first match of two triangulations is one alone.
use Rattle.std.proofs.Common.{◌≡◌, ◌⊎◌, ℕ, zero, suc, ℤ, ◌<◌, inl, inr, refl, sym, ap₂, ◌∙◌, subst, arith, List, [], ◌∷◌, length, get_or}
use Rattle.std.proofs.lemmas.Bool.{cases_order}
use Rattle.lt_model.specs.Simplices.{IsSimplex}
use Rattle.lt_geometry.proofs.Candidates.{one_candidate}
use Rattle.lt_match.specs.Matches.{IsEarlier, BeginsWith, IsMatch, IsFirstOrder, IsFirstMatch}

-- of two lists of one length that differ, one is the earlier
later : (x y : ℕ) (p q : List ℕ) → x ≡ y → IsEarlier p q → IsEarlier (x ∷ p) (y ∷ q)
later x y p q e (k, l, same, less) = (suc k, omega (arith, l), agree, less)
  where
    agree : (i : ℕ) → i < suc k → get_or (x ∷ p) i 0 ≡ get_or (y ∷ q) i 0
    agree zero h = e
    agree (suc i) h = same i (omega (arith, h))

least : (x y : ℕ) (p q : List ℕ) → x < y → IsEarlier (x ∷ p) (y ∷ q)
least x y p q l = (0, omega arith, (λ i h. absurd (omega (arith, h))), l)

orders : (p q : List ℕ) → length p ≡ length q → (p ≡ q) ⊎ (IsEarlier p q ⊎ IsEarlier q p)
orders [] [] long = inl refl
orders [] (y ∷ q) long = absurd (omega (arith, long))
orders (x ∷ p) [] long = absurd (omega (arith, long))
orders (x ∷ p) (y ∷ q) long =
    elim (cases_order x y) [
      | inr (inl l) ↦ inr (inl (least x y p q l))
      | inr (inr l) ↦ inr (inr (least y x q p l))
      | inl e ↦ elim (orders p q (omega (arith, long))) [
        | inl same ↦ inl (ap₂ (λ z zs. z ∷ zs) e same)
        | inr (inl h) ↦ inr (inl (later x y p q e h))
        | inr (inr h) ↦ inr (inr (later y x q p (sym e) h))
      ]
    ]

begins : (p : List ℕ) → BeginsWith [] p
begins p i l = absurd (omega (arith, l))

module _ (d : ℕ) (t t2 : List (List (List ℤ))) (simplex : IsSimplex d (get_or t 0 [])) where
  one_order : (s : List (List ℤ)) (u v : List (List ℤ)) → IsFirstOrder d t t2 s [] u → IsFirstOrder d t t2 s [] v → u ≡ v
  one_order s u v h g =
      elim (orders h.order g.order (h.«match».order.count ∙ sym g.«match».order.count)) [
        | inl same ↦ one_candidate d (get_or t 0 []) s g.order u v simplex (subst (λ (p : List ℕ). IsMatch d t t2 s p u) same h.«match»).candidate g.«match».candidate
        | inr (inl e) ↦ absurd (g.before h.order (begins h.order) e u h.«match»)
        | inr (inr e) ↦ absurd (h.before g.order (begins g.order) e v g.«match»)
      ]

  pub one_match : (u v : List (List ℤ)) → IsFirstMatch d t t2 u → IsFirstMatch d t t2 v → u ≡ v
  one_match u v h g =
      elim (cases_order h.member g.member) [
        | inl same ↦ one_order (get_or t2 g.member []) u v (subst (λ (n : ℕ). IsFirstOrder d t t2 (get_or t2 n []) [] u) same h.first) g.first
        | inr (inl l) ↦ absurd (g.earlier h.member l h.first.order u h.first.«match»)
        | inr (inr l) ↦ absurd (h.earlier g.member l g.first.order v g.first.«match»)
      ]
