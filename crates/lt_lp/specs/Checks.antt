-- What the check of a verdict looks at.
use Rattle.std.specs.Prelude.{ℕ, suc, ℤ, pos, ◌+ℤ◌, ◌*ℤ◌, ◌<ℤ◌, ◌<◌, ◌≤◌, ◌^◌, ◌≡◌, ◌≢◌, nat_abs, List, [], ◌∷◌, length, get_or}
use Rattle.lt_model.specs.Padded.{lookup}
use Rattle.lt_model.specs.Vectors.{dot}

-- the places ascend from `from` on, are below the count and other than k, and the coefficients are positive and below 2^62
abbrev pub AreTerms : ℕ → ℕ → ℕ → List (ℕ × ℤ) → Type 0
AreTerms from count k [] = Unit
AreTerms from count k (t ∷ ts) = (from ≤ t.0) × (t.0 < count) × (t.0 ≢ k) × (pos 0 <ℤ t.1) × (nat_abs t.1 < 2 ^ 62) × AreTerms (suc t.0) count k ts

-- a number of the sum of the terms
abbrev pub term_sum : List (List ℤ) → ℕ → List (ℕ × ℤ) → ℤ
term_sum ns j [] = pos 0
term_sum ns j (t ∷ ts) = lookup (get_or ns t.0 []) j *ℤ t.1 +ℤ term_sum ns j ts

-- the k-th normal is 0 at the form, and each other one is positive
abbrev pub Separates : List (List ℤ) → ℕ → List ℤ → Type 0
Separates ns k w = (i : ℕ) → i < length ns → (i ≡ k → dot (get_or ns i []) w ≡ pos 0) × (i ≢ k → pos 0 <ℤ dot (get_or ns i []) w)
