-- A cone has one fault.
use Rattle.std.proofs.Common.{◌≡◌, ℕ, ℤ, inl, inr, sym, ◌∙◌, arith, List}
use Rattle.std.proofs.lemmas.Bool.{cases_order}
use Rattle.lt_model.specs.Cones.{Cone}
use Rattle.lt_cone.specs.Faults.{IsFault}
use Rattle.lt_cone.specs.declared.error.ConeFault.TheVariants.{Wrong}

module _ (d : ℕ) (ns : List (List ℤ)) (c : Cone) where
  pub one_fault : (m n : ℕ) → IsFault d ns c (Wrong m) → IsFault d ns c (Wrong n) → m ≡ n
  one_fault m n (inl h) (inl g) = h.1 ∙ sym g.1
  one_fault m n (inl h) (inr (inl g)) = let a = h.0 in let b = g.0 in absurd (omega (arith, a, b))
  one_fault m n (inl h) (inr (inr g)) = let a = h.0 in let b = g.0 in absurd (omega (arith, a, b))
  one_fault m n (inr (inl h)) (inl g) = let a = h.0 in let b = g.0 in absurd (omega (arith, a, b))
  one_fault m n (inr (inr h)) (inl g) = let a = h.0 in let b = g.0 in absurd (omega (arith, a, b))
  one_fault m n (inr (inr h)) (inr (inr g)) = h.1 ∙ sym g.1
  one_fault m n (inr (inl h)) (inr (inr g)) = let a = h.1 in let b = g.1 in absurd (h.3 (g.2 m (omega (arith, a, b))))
  one_fault m n (inr (inr h)) (inr (inl g)) = let a = h.1 in let b = g.1 in absurd (g.3 (h.2 n (omega (arith, a, b))))
  one_fault m n (inr (inl h)) (inr (inl g)) =
      elim (cases_order m n) [
        | inl same ↦ same
        | inr (inl l) ↦ absurd (h.3 (g.2 m l))
        | inr (inr l) ↦ absurd (g.3 (h.2 n l))
      ]
