-- Sums that start from zeros: the same numbers as without them, and never fewer.
use Rattle.std.proofs.Common.{◌≡◌, ◌⊎◌, inl, inr, sym, ◌∙◌, ap, arith, ℕ, ℤ, pos, ◌+ℤ◌, List, [], length}
use Rattle.std.proofs.lemmas.Int.{ints}
use Rattle.lt_model.specs.Padded.{lookup}
use Rattle.lt_model.specs.Vectors.{plus, dot, zeros}
use Rattle.lt_model.proofs.Opposite.{length-zeros, zeros-dot}
use Rattle.lt_model.proofs.Squares.{length-plus}
use Rattle.lt_model.proofs.Vectors.{dot-plus, dot_comm}
use Rattle.lt_model.proofs.Walk.{plus-nil}
use Rattle.lt_tableau.proofs.Sums.{lookup_plus}
use Rattle.lt_lp.proofs.WallSums.{lookup_zeros}

zero_and : (x : ℤ) → pos 0 +ℤ x ≡ x
zero_and x = omega (arith, ints)

pub lookup_from_zeros : (n : ℕ) (v : List ℤ) (q : ℕ) → lookup (plus (zeros n) v) q ≡ lookup v q
lookup_from_zeros n v q = lookup_plus (zeros n) v q ∙ rw (lookup_zeros n q) (zero_and (lookup v q))

pub dot_from_zeros : (w : List ℤ) (n : ℕ) (v : List ℤ) → dot w (plus (zeros n) v) ≡ dot w v
dot_from_zeros w n v = dot-plus w (zeros n) v ∙ rw (dot_comm w (zeros n), zeros-dot n w) (zero_and (dot w v))

pub length_from_zeros : (n : ℕ) (v : List ℤ) → (length v ≡ n) ⊎ (v ≡ []) → length (plus (zeros n) v) ≡ n
length_from_zeros n v (inl l) = length-plus (zeros n) v (length-zeros n ∙ sym l) ∙ length-zeros n
length_from_zeros n v (inr e) = ap (λ (x : List ℤ). length (plus (zeros n) x)) e ∙ ap (length {A = ℤ}) (plus-nil (zeros n)) ∙ length-zeros n
