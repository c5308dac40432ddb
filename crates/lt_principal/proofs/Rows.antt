-- The numbers of the principal form, as the loop writes them, and their bounds.
use Rattle.std.proofs.Common.{◌≡◌, ℕ, zero, suc, ℤ, pos, negsuc, ◌<◌, ◌≤◌, ◌+◌, ◌-◌, ◌^◌, refl, ap, arith, sym, ◌∙◌, List, [], ◌∷◌, ◌++◌, length, append_assoc, length-append, inl, inr}
use Rattle.std.proofs.lemmas.Int.{ints}
use Rattle.std.specs.List.{All}
use Rattle.std.proofs.lemmas.List.Elements.{All-nil, All-cons, All-append}
use Rattle.lt_model.specs.Vectors.{scale, ones}
use Rattle.lt_model.specs.Forms.{numbers_of_form}
use Rattle.lt_model.specs.Principal.{principal_rows}
use Rattle.lt_geometry.proofs.Closed.{length-rows}
use Rattle.lt_lattice.specs.Ranges.{IsBelow, IsFormLength}

-- k times -2
abbrev pub twos : ℕ → List ℤ
twos k = scale (negsuc 1) (ones k)

pub rows_begin : (d i : ℕ) → i < d → principal_rows d (d - i) ≡ pos d ∷ (twos (d - (i + 1)) ++ principal_rows d (d - (i + 1)))
rows_begin d i p =
    let e : d - i ≡ suc (d - (i + 1)) = omega arith in
    ap (principal_rows d) e

pub twos_begin : (d j : ℕ) → j < d → twos (d - j) ≡ negsuc 1 ∷ twos (d - (j + 1))
twos_begin d j p =
    let e : d - j ≡ suc (d - (j + 1)) = omega arith in
    ap twos e

pub row_pushed : (d i : ℕ) (all m : List ℤ) → i < d → all ++ principal_rows d (d - i) ≡ m → (all ++ pos d ∷ []) ++ (twos (d - (i + 1)) ++ principal_rows d (d - (i + 1))) ≡ m
row_pushed d i all m p h = rw append_assoc (rw (rows_begin d i p) at h)

pub two_pushed : (d j : ℕ) (all r m : List ℤ) → j < d → all ++ (twos (d - j) ++ r) ≡ m → (all ++ negsuc 1 ∷ []) ++ (twos (d - (j + 1)) ++ r) ≡ m
two_pushed d j all r m p h = rw append_assoc (rw (twos_begin d j p) at h)

pub form_length : (d : ℕ) → 2 ≤ d → d ≤ 6 → IsFormLength (numbers_of_form d)
form_length zero l h = absurd (omega arith)
form_length (suc zero) l h = absurd (omega arith)
form_length (suc (suc zero)) l h = inl refl
form_length (suc (suc (suc zero))) l h = inr (inl refl)
form_length (suc (suc (suc (suc zero)))) l h = inr (inr (inl refl))
form_length (suc (suc (suc (suc (suc zero))))) l h = inr (inr (inr (inl refl)))
form_length (suc (suc (suc (suc (suc (suc zero)))))) l h = inr (inr (inr (inr refl)))
form_length (suc (suc (suc (suc (suc (suc (suc m))))))) l h = absurd (omega arith)

pub at_most_21 : (n : ℕ) → IsFormLength n → n ≤ 21
at_most_21 n h = omega (arith, h)

twos_below : (k : ℕ) → All (IsBelow (2 ^ 92)) (twos k)
twos_below zero = All-nil (IsBelow (2 ^ 92))
twos_below (suc k) = All-cons (IsBelow (2 ^ 92)) (negsuc 1) (twos k) (omega (arith, ints)) (twos_below k)

pub rows_below : (d k : ℕ) → d ≤ 6 → All (IsBelow (2 ^ 92)) (principal_rows d k)
rows_below d zero h = All-nil (IsBelow (2 ^ 92))
rows_below d (suc k) h =
    All-cons (IsBelow (2 ^ 92)) (pos d) (twos k ++ principal_rows d k) (omega (arith, ints)) (All-append (IsBelow (2 ^ 92)) (twos k) (principal_rows d k) (twos_below k) (rows_below d k h))

pub room : (d : ℕ) (all r : List ℤ) (x : ℤ) (m : List ℤ) → 2 ≤ d → d ≤ 6 → m ≡ principal_rows d d → all ++ (x ∷ r) ≡ m → length all < 21
room d all r x m l h e k =
    omega (arith, sym (length-append all (x ∷ r)) ∙ ap length (k ∙ e) ∙ length-rows d d, at_most_21 (numbers_of_form d) (form_length d l h))
