-- Lists that are filled up with zeros.
use Rattle.std.proofs.Common.{◌≡◌, ℕ, ℤ, pos, ◌-◌, ◌+◌, ◌^◌, ◌<◌, ◌≤◌, ap, arith, ◌∙◌, List, [], ◌∷◌, ◌++◌, length, get_or, nat_abs, append_assoc, length-append}
use Rattle.std.proofs.lemmas.List.Elements.{All-append}
use Rattle.std.specs.List.{All}
use Rattle.lt_model.specs.Vectors.{zeros}
use Rattle.lt_model.proofs.Opposite.{length-zeros}
use Rattle.lt_lattice.specs.Ranges.{IsBelow}
use Rattle.lt_lattice.proofs.Coordinates.{zeros-push, zeros_within}
use Rattle.lt_section.specs.Filled.{filled}

pub length-filled : (n : ℕ) (r : List ℤ) → length r ≤ n → length (filled n r) ≡ n
length-filled n r h = length-append r (zeros (n - length r)) ∙ ap (λ (k : ℕ). length r + k) (length-zeros (n - length r)) ∙ omega arith

pub filled_below : (n : ℕ) (r : List ℤ) → All (IsBelow (2 ^ 80)) r → All (IsBelow (2 ^ 80)) (filled n r)
filled_below n r h = All-append (IsBelow (2 ^ 80)) r (zeros (n - length r)) h (λ k d l. below (nat_abs (get_or (zeros (n - length r)) k d)) (zeros_within 0 (n - length r) k d l))
  where
    below : (x : ℕ) → x ≤ 0 → x < 2 ^ 80
    below x h = omega arith

-- one zero more
pub zero_more : (r all new : List ℤ) (i : ℕ) → length r ≤ i → all ≡ r ++ zeros (i - length r) → new ≡ all ++ pos 0 ∷ [] → new ≡ r ++ zeros (i + 1 - length r)
zero_more r all new i h a e =
    let s : i - length r + 1 ≡ i + 1 - length r = omega arith in
    e ∙ ap (λ (l : List ℤ). l ++ pos 0 ∷ []) a ∙ append_assoc r (zeros (i - length r)) (pos 0 ∷ []) ∙ ap (λ (l : List ℤ). r ++ l) (zeros-push (i - length r) ∙ ap zeros s)

pub zeros_room : (r all : List ℤ) (i n : ℕ) → length r ≤ i → i < n → n ≤ 21 → all ≡ r ++ zeros (i - length r) → length all < 21
zeros_room r all i n h l few a =
    let e : length all ≡ i = ap length a ∙ length-append r (zeros (i - length r)) ∙ ap (λ (k : ℕ). length r + k) (length-zeros (i - length r)) ∙ omega arith in
    omega (arith, e)
