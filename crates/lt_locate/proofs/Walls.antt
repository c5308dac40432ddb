-- What the tests of a list of normals show.
use Rattle.std.proofs.Common.{◌≡◌, ℕ, ℤ, ◌+◌, ◌<◌, ◌≤◌, ap, arith, ◌∙◌, subst, Bool, false, IsTrue, List, [], length, get_or}
use native.Mathlib.Decide.{dec_le}
use Rattle.std.proofs.lemmas.List.{get_or_default}
use Rattle.lt_model.specs.Vectors.{dot}
use Rattle.lt_locate.specs.declared.facing.Sign.{Sign}
use Rattle.lt_locate.specs.Facing.{IsMetAt}

pub more_unmet : (d : ℕ) (ns : List (List ℤ)) (q : List ℤ) (sign : Sign) (k : ℕ) → ((j : ℕ) → j < k → IsMetAt d ns q sign j → ⊥) → (IsMetAt d ns q sign k → ⊥) → (j : ℕ) → j < k + 1 → IsMetAt d ns q sign j → ⊥
more_unmet d ns q sign k before n j l m = go (dec_le k j)
  where
    go : Dec (k ≤ j) → ⊥
    go (yes h) = let e : j ≡ k = omega arith in n (subst (λ (i : ℕ). IsMetAt d ns q sign i) e m)
    go (no h) = before j (omega arith) m

-- a test that failed
pub untrue : {P : Type 0} (b : Bool) → b ≡ false → IsTrue b → P
untrue b e t =
    let bad : ⊥ = cc in
    absurd bad

-- the value that is tested is that of the k-th normal
pub value_at : (ns : List (List ℤ)) (q n : List ℤ) (k : ℕ) (x : ℤ) → k < length ns → n ≡ get_or ns k n → x ≡ dot n q → x ≡ dot (get_or ns k []) q
value_at ns q n k x l e f = f ∙ ap (λ (z : List ℤ). dot z q) (e ∙ get_or_default ns k n [] l)
