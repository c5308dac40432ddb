-- Words with `=` in them: a setting joined to its number, or no part.
use Rattle.std.proofs.Common.{◌≡◌, ◌≢◌, ℕ, ◌+◌, ◌<◌, zero, suc, Bool, true, false, cond, eqb, List, [], ◌∷◌, ◌++◌, length, get_or, Option, Some, MatchOption, refl, sym, ap, ◌∙◌, subst, arith}
use Rattle.std.specs.Fmt.{decimal}
use Rattle.std.proofs.lemmas.Bool.{false≢true}
use Rattle.std.proofs.lemmas.Fmt.{decimal_digit}
use Rattle.std.proofs.lemmas.Str.Pattern.{IsSplitOnceResult, split_parts, split_after}
use Rattle.lt_words.specs.declared.options.Setting.{Setting}
use Rattle.lt_words.specs.declared.options.Setting.TheVariants.{Workers, Steps}
use Rattle.lt_words.specs.declared.options.Part.{Part}
use Rattle.lt_words.specs.declared.options.Part.TheVariants.{Dimension, Resume, Ending, Named, Joined}
use Rattle.lt_words.specs.Grammar.{IsDimension, IsInSetting, setting_word}
use Rattle.lt_words.specs.Parts.{part_word, IsPart}
use Rattle.lt_words.proofs.Spellings.{one_part}
use denote.Ref.{Bor}

-- `=` stands among the bytes
has_equals : List ℕ → Bool
has_equals [] = false
has_equals (b ∷ bs) = cond (eqb b 61) true (has_equals bs)

joined_has : (name number : List ℕ) → has_equals (name ++ 61 ∷ number) ≡ true
unfolding has_equals
joined_has [] number = refl
joined_has (b ∷ name) number = elim (eqb b 61) as (λ t. cond t true (has_equals (name ++ 61 ∷ number)) ≡ true) [ true ↦ refl | false ↦ joined_has name number ]

both_false : (t u : Bool) → cond t true u ≡ false → (t ≡ false) × (u ≡ false)
both_false true u e = absurd (false≢true (sym e))
both_false false u e = (refl, e)

-- where it doesn't, no byte is one
none_there : (bs : List ℕ) → has_equals bs ≡ false → (i : ℕ) → i < length bs → get_or bs i 0 ≢ 61
unfolding has_equals
none_there [] h i lt = absurd (omega (arith, lt))
none_there (b ∷ bs) h zero lt = λ e. let other = (both_false (eqb b 61) (has_equals bs) h).0 in false≢true (sym other ∙ ap (λ x. eqb x 61) e)
none_there (b ∷ bs) h (suc i) lt = none_there bs (both_false (eqb b 61) (has_equals bs) h).1 i (omega (arith, lt))

dimension_has_none : (d : ℕ) → IsDimension d → has_equals ((48 + d) ∷ []) ≡ false
unfolding has_equals
dimension_has_none zero r = absurd (omega (arith, r.0))
dimension_has_none (suc zero) r = absurd (omega (arith, r.0))
dimension_has_none (suc (suc zero)) r = refl
dimension_has_none (suc (suc (suc zero))) r = refl
dimension_has_none (suc (suc (suc (suc zero)))) r = refl
dimension_has_none (suc (suc (suc (suc (suc zero))))) r = refl
dimension_has_none (suc (suc (suc (suc (suc (suc zero)))))) r = refl
dimension_has_none (suc (suc (suc (suc (suc (suc (suc d))))))) r = absurd (omega (arith, r.1))

setting_has_none : (s : Setting) → has_equals (setting_word s) ≡ false
unfolding has_equals
setting_has_none Workers = refl
setting_has_none Steps = refl

-- no part but a joined one has `=` in it
is_joined : (p : Part) → IsPart p → has_equals (part_word p) ≡ true → (s : Setting) × (n : ℕ) × (p ≡ Joined s n)
unfolding has_equals
is_joined (Joined s n) r h = (s, n, refl)
is_joined (Dimension d) r h = absurd (false≢true (sym (dimension_has_none d r) ∙ ap has_equals (sym (decimal_digit d (omega (arith, r.1)))) ∙ h))
is_joined Resume r h = absurd (false≢true h)
is_joined Ending r h = absurd (false≢true h)
is_joined (Named s) r h = absurd (false≢true (sym (setting_has_none s) ∙ h))

joined_word : (s : Setting) (n : ℕ) → part_word (Joined s n) ≡ setting_word s ++ 61 ∷ decimal n
joined_word Workers n = refl
joined_word Steps n = refl

-- what stands before and behind the first `=` of a part
pub split_part : (word : List ℕ) (r : Option (Bor (List ℕ) × Bor (List ℕ))) (name number : Bor (List ℕ)) → IsSplitOnceResult 61 word r → r ≡ Some (name, number) → (p : Part) → IsPart p → word ≡ part_word p → (s : Setting) × (n : ℕ) × IsInSetting s n × (name.now ≡ setting_word s) × (number.now ≡ decimal n)
split_part word r name number split is p q e =
    let parts = subst (λ o. MatchOption o ((i : ℕ) → i < length word → get_or word i 0 ≢ 61) (λ x. (word ≡ x.0.now ++ 61 ∷ x.1.now) × ((i : ℕ) → i < length x.0.now → get_or x.0.now i 0 ≢ 61))) is (split_parts 61 word r split (omega arith)) in
    let (s, n, j) = is_joined p q (ap has_equals (sym e ∙ parts.0) ∙ joined_has name.now number.now) in
    let again = split_after 61 word (setting_word s) (decimal n) r split (omega arith) (e ∙ ap part_word j ∙ joined_word s n) (none_there (setting_word s) (setting_has_none s)) in
    let same = subst (λ o. MatchOption o ⊥ (λ x. (x.0.now ≡ setting_word s) × (x.1.now ≡ decimal n))) is again in
    (s, n, subst IsPart j q, same.0, same.1)

-- settings have different words
pub one_setting : (s t : Setting) → setting_word s ≡ setting_word t → s ≡ t
one_setting s t e = let f : Named s ≡ Named t = one_part (Named s) (Named t) tt tt e in cc
