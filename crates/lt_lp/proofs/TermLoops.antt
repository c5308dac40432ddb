-- The steps of the loops that gather the terms of a combination.
use Rattle.std.proofs.Common.{◌≡◌, ◌≢◌, refl, sym, ◌∙◌, ap, ℕ, zero, suc, ◌+◌, ◌-◌, ◌*◌, ◌≤◌, ◌<◌, ◌^◌, ℤ, pos, negsuc, ◌+ℤ◌, arith, List, [], ◌∷◌, ◌++◌, cond, nat_eq, Bool, true, false, nat_abs, append_assoc, FitsSigned}
use Rattle.std.specs.Int.{w128}
use Rattle.std.proofs.lemmas.Int.{ints, fits_signed_from_abs}
use Rattle.std.proofs.lemmas.Bool.Decides.{nat_tests}
use Rattle.lt_tableau.specs.Numbers.{sum_below}
use Rattle.lt_tableau.specs.Table.{Table, right_of, basic_of}
use Rattle.lt_tableau.proofs.Sums.{sum_more}
use Rattle.lt_lp.specs.Terms.{place_of, with_term, terms_from}

abbrev pub part_value : Table → ℕ → ℕ → ℤ
part_value t column rows = sum_below rows (λ (row : ℕ). cond (nat_eq (basic_of t row) column) (right_of t row) (pos 0))

pub value_more : (t : Table) (column row : ℕ) (s : ℤ) → basic_of t row ≡ column → row < 22 → nat_abs (right_of t row) < 2 ^ 56 → s ≡ part_value t column row → nat_abs s ≤ row * 2 ^ 56 →
    record { fits : FitsSigned w128 (s +ℤ right_of t row); value : s +ℤ right_of t row ≡ part_value t column (row + 1); small : nat_abs (s +ℤ right_of t row) ≤ (row + 1) * 2 ^ 56 }
value_more t column row s e l h v k = record {
  fits = fits_signed_from_abs w128 (s +ℤ right_of t row) (omega (arith, ints));
  value = rw v (sym (sum_more row (λ (row : ℕ). cond (nat_eq (basic_of t row) column) (right_of t row) (pos 0)) ∙ ap (λ (b : Bool). part_value t column row +ℤ cond b (right_of t row) (pos 0)) (same (basic_of t row) column e)));
  small = omega (arith, ints);
}
  where
    same : (a b : ℕ) → a ≡ b → nat_eq a b ≡ true
    same a b e = grind (arith, nat_tests)

pub value_skip : (t : Table) (column row : ℕ) (s : ℤ) → basic_of t row ≢ column → s ≡ part_value t column row → nat_abs s ≤ row * 2 ^ 56 → record { value : s ≡ part_value t column (row + 1); small : nat_abs s ≤ (row + 1) * 2 ^ 56 }
value_skip t column row s e v k = record {
  value = v ∙ sym (sum_more row (λ (row : ℕ). cond (nat_eq (basic_of t row) column) (right_of t row) (pos 0)) ∙ ap (λ (b : Bool). part_value t column row +ℤ cond b (right_of t row) (pos 0)) (other (basic_of t row) column e) ∙ none (part_value t column row));
  small = omega arith;
}
  where
    other : (a b : ℕ) → a ≢ b → nat_eq a b ≡ false
    other a b e = grind (arith, nat_tests)

    none : (x : ℤ) → x +ℤ pos 0 ≡ x
    none x = omega (arith, ints)

-- ---- the terms
next_terms : (k : ℕ) (f : ℕ → ℤ) (column columns : ℕ) → column < columns → terms_from k f column (columns - column) ≡ with_term (place_of k column) (f column) (terms_from k f (column + 1) (columns - (column + 1)))
next_terms k f column columns h =
    let e : columns - column ≡ suc (columns - (column + 1)) = omega arith in
    let s : column + 1 ≡ suc column = omega arith in
    rw (e, s) refl

some_term : (place : ℕ) (x : ℤ) (ts : List (ℕ × ℤ)) → x ≢ pos 0 → with_term place x ts ≡ (place, x) ∷ ts
some_term place (pos zero) ts h = absurd (h refl)
some_term place (pos (suc n)) ts h = refl
some_term place (negsuc n) ts h = refl

pub terms_some : (k : ℕ) (f : ℕ → ℤ) (column columns : ℕ) (all rest : List (ℕ × ℤ)) → column < columns → f column ≢ pos 0 → all ++ terms_from k f column (columns - column) ≡ rest → (all ++ (place_of k column, f column) ∷ []) ++ terms_from k f (column + 1) (columns - (column + 1)) ≡ rest
terms_some k f column columns all rest h n e =
    append_assoc all ((place_of k column, f column) ∷ []) (terms_from k f (column + 1) (columns - (column + 1)))
    ∙ ap (λ ts. all ++ ts) (sym (next_terms k f column columns h ∙ some_term (place_of k column) (f column) (terms_from k f (column + 1) (columns - (column + 1))) n))
    ∙ e

pub terms_none : (k : ℕ) (f : ℕ → ℤ) (column columns : ℕ) (all rest : List (ℕ × ℤ)) → column < columns → f column ≡ pos 0 → all ++ terms_from k f column (columns - column) ≡ rest → all ++ terms_from k f (column + 1) (columns - (column + 1)) ≡ rest
terms_none k f column columns all rest h z e = ap (λ ts. all ++ ts) (sym (next_terms k f column columns h ∙ ap (λ (x : ℤ). with_term (place_of k column) x (terms_from k f (column + 1) (columns - (column + 1)))) z)) ∙ e
