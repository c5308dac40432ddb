-- When the products of two matrices, written row by row, say that one is the inverse of the other.
use Rattle.std.proofs.Common.{◌≡◌, ℕ, ◌*◌, ap, sym, ◌∙◌, List, ℤ, length}
use Rattle.std.specs.Prelude.{Bool, true, false, IsTrue, ◌↔◌}
use Rattle.std.proofs.lemmas.Bool.{false≢true}
use Rattle.lt_model.specs.Matrices.{times, identity, IsSquare, IsInverse}
use Rattle.lt_model.specs.Flat.{rows, flat}
use Rattle.lt_model.proofs.Flat.{rows_square, times_square, identity_square, rows-flat}

same_rows : (d : ℕ) (u v : List (List ℤ)) → IsSquare d u → IsSquare d v → flat u ≡ flat v → u ≡ v
same_rows d u v hu hv e = sym (rows-flat d u hu) ∙ ap (rows d) e ∙ rows-flat d v hv

inverse_from : (d : ℕ) (u v : List ℤ) → length u ≡ d * d → length v ≡ d * d → flat (times (rows d u) (rows d v)) ≡ flat (identity d) → flat (times (rows d v) (rows d u)) ≡ flat (identity d) →
    IsInverse d (rows d u) (rows d v)
inverse_from d u v hu hv right left =
    let su = rows_square d u hu in
    let sv = rows_square d v hv in
    record {
      square = sv;
      right = same_rows d _ _ (times_square d (rows d u) (rows d v) su sv) (identity_square d) right;
      left = same_rows d _ _ (times_square d (rows d v) (rows d u) sv su) (identity_square d) left;
    }

module _ (d : ℕ) (u v p : List ℤ) (a : Bool) (hu : length u ≡ d * d) (hv : length v ≡ d * d)
    (right : p ≡ flat (times (rows d u) (rows d v))) (told : IsTrue a ↔ (p ≡ flat (identity d))) where
  -- the second test decides where the first one passed
  pub decided : (q : List ℤ) (b : Bool) → q ≡ flat (times (rows d v) (rows d u)) → (IsTrue b ↔ (q ≡ flat (identity d))) → a ≡ true →
      IsTrue b ↔ IsInverse d (rows d u) (rows d v)
  decided q b left says passed =
      ((λ t. inverse_from d u v hu hv (sym right ∙ told.0 passed) (sym left ∙ says.0 t)), (λ h. says.1 (left ∙ ap flat h.left)))

  -- a first test that fails is the answer
  pub refused : a ≡ false → IsTrue a ↔ IsInverse d (rows d u) (rows d v)
  refused failed = ((λ t. absurd (false≢true (sym failed ∙ t))), (λ h. told.1 (right ∙ ap flat h.right)))
