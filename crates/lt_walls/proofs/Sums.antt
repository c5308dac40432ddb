-- Sums of products over a list.
use Rattle.std.proofs.Common.{List, [], ◌∷◌, ◌≡◌, ◌∙◌, ap, ℤ, pos, ◌+ℤ◌, ◌*ℤ◌}
use Rattle.lt_model.proofs.Ring.{ring, var, num, ◌⊕◌, ◌⊗◌}

-- the sum of b(v) f(v) over a list
unfoldable pub qs : {P : Type 0} → (P → ℤ) → (P → ℤ) → List P → ℤ
qs f b [] = pos 0
qs f b (x ∷ xs) = b x *ℤ f x +ℤ qs f b xs

pub qs-lin : {P : Type 0} → (f s t : P → ℤ) (a m : ℤ) (F : List P) → qs f (λ v. a *ℤ s v +ℤ m *ℤ t v) F ≡ a *ℤ qs f s F +ℤ m *ℤ qs f t F
unfolding qs
qs-lin f s t a m [] = ring (a ∷ m ∷ []) (num (pos 0)) (var 0 ⊗ num (pos 0) ⊕ var 1 ⊗ num (pos 0)) tt
qs-lin f s t a m (x ∷ xs) =
    ap (λ z. (a *ℤ s x +ℤ m *ℤ t x) *ℤ f x +ℤ z) (qs-lin f s t a m xs)
    ∙ ring (a ∷ m ∷ s x ∷ t x ∷ f x ∷ qs f s xs ∷ qs f t xs ∷ [])
    ((var 0 ⊗ var 2 ⊕ var 1 ⊗ var 3) ⊗ var 4 ⊕ (var 0 ⊗ var 5 ⊕ var 1 ⊗ var 6))
    (var 0 ⊗ (var 2 ⊗ var 4 ⊕ var 5) ⊕ var 1 ⊗ (var 3 ⊗ var 4 ⊕ var 6)) tt
