-- Orders of the numbers below d: no number stands twice, and a sum over an order is the sum over all numbers.
use Rattle.std.proofs.Common.{◌≡◌, ◌≢◌, ℕ, zero, suc, ℤ, pos, ◌+ℤ◌, ◌<◌, refl, ap, arith, sym, ◌∙◌, subst, List, [], ◌∷◌, length, map, ◌⊎◌, inl, inr}
use Rattle.std.proofs.lemmas.Int.{ints}
use Rattle.std.specs.List.{Contains}
use Rattle.lt_model.proofs.Sets.{Contains-head, Contains-tail, Contains-cases, Contains-none}
use Rattle.lt_model.proofs.Walk.{length-without}
use Rattle.lt_model.specs.Vectors.{total}
use Rattle.lt_model.specs.Facets.{without, number_at}
use Rattle.lt_model.specs.Principal.{IsOrder}

-- no number stands twice
abbrev pub AreDifferent : List ℕ → Type 0
AreDifferent [] = Unit {0}
AreDifferent (k ∷ p) = (Contains p k → ⊥) × AreDifferent p

-- k stands at place i
abbrev pub IsAt : List ℕ → ℕ → ℕ → Type 0
IsAt [] i k = ⊥
IsAt (j ∷ p) zero k = j ≡ k
IsAt (j ∷ p) (suc i) k = IsAt p i k

pub find : (p : List ℕ) (k : ℕ) → Contains p k → (i : ℕ) × IsAt p i k
find [] k h = Contains-none k h
find (j ∷ p) k h = elim (Contains-cases j p k h) [ inl e ↦ (0, e) | inr r ↦ (suc (find p k r).0, (find p k r).1) ]

pub place_below : (p : List ℕ) (i k : ℕ) → IsAt p i k → i < length p
place_below [] i k h = absurd h
place_below (j ∷ p) zero k h = omega arith
place_below (j ∷ p) (suc i) k h = let r : i < length p = place_below p i k h in omega arith

pub contains_at : (p : List ℕ) (i k : ℕ) → IsAt p i k → Contains p k
contains_at [] i k h = absurd h
contains_at (j ∷ p) zero k h = subst (λ (n : ℕ). Contains (j ∷ p) n) h (Contains-head j p)
contains_at (j ∷ p) (suc i) k h = Contains-tail j p k (contains_at p i k h)

-- what is left without a place, and what was there
pub left_over : (p : List ℕ) (i k j : ℕ) → IsAt p i k → j ≢ k → Contains p j → Contains (without i p) j
left_over [] i k j h n c = absurd h
left_over (m ∷ p) zero k j h n c = elim (Contains-cases m p j c) [ inl e ↦ absurd (n (sym e ∙ h)) | inr r ↦ r ]
left_over (m ∷ p) (suc i) k j h n c =
    elim (Contains-cases m p j c) [
      | inl e ↦ subst (λ (x : ℕ). Contains (m ∷ without i p) x) e (Contains-head m (without i p))
      | inr r ↦ Contains-tail m (without i p) j (left_over p i k j h n r)
    ]

pub was_there : (p : List ℕ) (i j : ℕ) → Contains (without i p) j → Contains p j
was_there [] i j c = c
was_there (m ∷ p) zero j c = Contains-tail m p j c
was_there (m ∷ p) (suc i) j c =
    elim (Contains-cases m (without i p) j c) [
      | inl e ↦ subst (λ (x : ℕ). Contains (m ∷ p) x) e (Contains-head m p)
      | inr r ↦ Contains-tail m p j (was_there p i j r)
    ]

-- each one is that at the place, or one of the others
pub either_there : (p : List ℕ) (i k j : ℕ) → IsAt p i k → Contains p j → (k ≡ j) ⊎ Contains (without i p) j
either_there [] i k j h c = absurd h
either_there (m ∷ p) zero k j h c = elim (Contains-cases m p j c) [ inl e ↦ inl (sym h ∙ e) | inr r ↦ inr r ]
either_there (m ∷ p) (suc i) k j h c =
    elim (Contains-cases m p j c) [
      | inl e ↦ inr (subst (λ (x : ℕ). Contains (m ∷ without i p) x) e (Contains-head m (without i p)))
      | inr r ↦ elim (either_there p i k j h r) [ inl e ↦ inl e | inr s ↦ inr (Contains-tail m (without i p) j s) ]
    ]

different_again : (p : List ℕ) (i k : ℕ) → IsAt p i k → AreDifferent (without i p) → (Contains (without i p) k → ⊥) → AreDifferent p
different_again [] i k h a n = absurd h
different_again (m ∷ p) zero k h a n = (λ c. n (subst (λ (x : ℕ). Contains p x) h c), a)
different_again (m ∷ p) (suc i) k h a n = (
  λ c. elim (either_there p i k m h c) [
    | inl e ↦ n (subst (λ (x : ℕ). Contains (m ∷ without i p) x) (sym e) (Contains-head m (without i p)))
    | inr r ↦ a.0 r
  ],
  different_again p i k h a.1 (λ c. n (Contains-tail m (without i p) k c)),
)

pub total_without : (f : ℕ → ℤ) (p : List ℕ) (i k : ℕ) → IsAt p i k → total (map f p) ≡ f k +ℤ total (map f (without i p))
total_without f [] i k h = absurd h
total_without f (m ∷ p) zero k h = ap (λ n. f n +ℤ total (map f p)) h
total_without f (m ∷ p) (suc i) k h =
    let e : total (map f p) ≡ f k +ℤ total (map f (without i p)) = total_without f p i k h in
    rw e (turn (f m) (f k) (total (map f (without i p))))
  where
    turn : (a b c : ℤ) → a +ℤ (b +ℤ c) ≡ b +ℤ (a +ℤ c)
    turn a b c = omega (arith, ints)

-- the sum of f over the numbers below n
abbrev pub sum_below : ℕ → (ℕ → ℤ) → ℤ
sum_below zero f = pos 0
sum_below (suc n) f = f n +ℤ sum_below n f

pub record IsWhole (d : ℕ) (p : List ℕ) : Type 0 where
  pub different : AreDifferent p
  pub below : (k : ℕ) → Contains p k → k < d
  pub sums : (f : ℕ → ℤ) → total (map f p) ≡ sum_below d f

pub shorter : (d i : ℕ) (p : List ℕ) → IsAt p i d → IsOrder (suc d) p → IsOrder d (without i p)
shorter d i p h o = record {
  count = omega (arith, length-without i p (place_below p i d h), o.count);
  each = λ j l. left_over p i d j h (omega arith) (o.each j (omega arith));
}

pub order_whole : (d : ℕ) (p : List ℕ) → IsOrder d p → IsWhole d p
order_whole zero [] o = record { different = tt; below = λ k c. Contains-none k c; sums = λ f. refl }
order_whole zero (k ∷ p) o = absurd (omega (arith, o.count))
order_whole (suc d) p o =
    let at = find p d (o.each d (omega arith)) in
    whole p at.0 at.1 (order_whole d (without at.0 p) (shorter d at.0 p at.1 o))
  where
    whole : (p : List ℕ) (i : ℕ) → IsAt p i d → IsWhole d (without i p) → IsWhole (suc d) p
    whole p i at h = record {
      different = different_again p i d at h.different (λ c. absurd (omega (arith, h.below d c)));
      below = λ k c. elim (either_there p i d k at c) [ inl e ↦ omega arith | inr r ↦ let b = h.below k r in omega arith ];
      sums = λ f. total_without f p i d at ∙ ap (λ n. f d +ℤ n) (h.sums f);
    }

-- ---- the numbers of a vector

sum_first : (n : ℕ) (f : ℕ → ℤ) → sum_below (suc n) f ≡ f 0 +ℤ sum_below n (λ k. f (suc k))
sum_first zero f = refl
sum_first (suc n) f = rw (sum_first n f) (turn (f (suc n)) (f 0) (sum_below n (λ k. f (suc k))))
  where
    turn : (a b c : ℤ) → a +ℤ (b +ℤ c) ≡ b +ℤ (a +ℤ c)
    turn a b c = omega (arith, ints)

pub sum_of_numbers : (d : ℕ) (g : ℤ → ℤ) (x : List ℤ) → length x ≡ d → sum_below d (λ k. g (number_at k x)) ≡ total (map g x)
sum_of_numbers zero g [] l = refl
sum_of_numbers zero g (a ∷ x) l = absurd (omega arith)
sum_of_numbers (suc d) g [] l = absurd (omega arith)
sum_of_numbers (suc d) g (a ∷ x) l = sum_first d (λ k. g (number_at k (a ∷ x))) ∙ ap (λ n. g a +ℤ n) (sum_of_numbers d g x (omega arith))
