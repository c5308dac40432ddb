-- The words that spell numbers.
use Rattle.std.proofs.Common.{◌≡◌, ◌≢◌, ℕ, ◌<◌, ◌^◌, suc, zero, List, [], ◌∷◌, length, get_or, Ok, Result, sym, ap, ◌∙◌, arith}
use Rattle.std.specs.Fmt.{decimal}
use Rattle.lt_words.specs.Grammar.{IsDimension}
use Rattle.std.specs.Str.Parse.{AllDigits, ParsesUnsigned, digits_value}
use Rattle.std.proofs.lemmas.Fmt.{decimal_digit, decimal_injective, first_decimal, decimal-digits_value}
use Rattle.std.proofs.lemmas.Result.{OkIff-at_ok}
use Rattle.std.proofs.lemmas.Str.Parse.{IsNumeralModel, numerals_by_value, tells_digits, parse_plain}

-- no plus in front, and no zero before another byte
abbrev pub IsBare : List ℕ → Type 0
IsBare bytes = (get_or bytes 0 0 ≢ 43) × (get_or bytes 0 0 ≡ 48 → length bytes ≡ 1)

-- the words of numbers are bare
pub bare_decimal : (n : ℕ) → n < 2 ^ 64 → IsBare (decimal n)
bare_decimal zero small =
    let e : decimal 0 ≡ 48 ∷ [] = decimal_digit 0 (omega arith) in
    (λ plus. absurd (omega (arith, plus, ap (λ l. get_or l 0 0) e)), λ _. ap length e)
bare_decimal (suc n) small =
    let first = first_decimal (suc n) (omega arith) small in
    (λ plus. absurd (omega (arith, plus, first)), λ naught. absurd (omega (arith, naught, first)))

own : IsNumeralModel (AllDigits 10) (digits_value 10)
own = numerals_by_value (AllDigits 10) tells_digits

-- a bare word spells the number that `parse` reads
pub spelt_bare : {E : Type 0} (bytes : List ℕ) (n : ℕ) (r : Result ℕ E) → IsBare bytes → n < 2 ^ 64 → ParsesUnsigned 64 10 bytes r → r ≡ Ok n → bytes ≡ decimal n
spelt_bare bytes n r bare small parses is =
    let (digits, e) = OkIff-at_ok r _ _ n (parse_plain own 64 bytes r parses bare.0) is in
    sym (decimal-digits_value own bytes digits.0 digits.1 bare.1 (omega (arith, digits.2))) ∙ ap decimal (sym e)

-- dimensions have different words
pub same_dimension : (d e : ℕ) → IsDimension d → IsDimension e → decimal d ≡ decimal e → d ≡ e
same_dimension d e r q is = decimal_injective d e (omega (arith, r.1)) (omega (arith, q.1)) is
