-- Bytes are refused for one reason at most.
use Rattle.std.proofs.Common.{◌≡◌, ◌≢◌, ◌⊎◌, ℕ, ◌<◌, ◌≤◌, inl, inr, refl, sym, ap, ◌∙◌, subst, arith, List, length}
use Rattle.lt_model.specs.Limits.{input_limit}
use Rattle.lt_scan.specs.Faults.{FaultAt}
use Rattle.lt_grammar.specs.Texts.{Text, text}
use Rattle.lt_grammar.specs.Ranges.{TextFits, IsText}
use Rattle.lt_grammar.specs.Parsed.{IsTextOf}
use Rattle.lt_grammar.proofs.Laws.{one_line}
use Rattle.lt_text.specs.Values.{IsVersion}
use Rattle.lt_read.specs.Refused.{IsRefused, IsRefusedText, IsFirstRefusal}
use Rattle.lt_read.specs.Laws.{BytesHaveOneRefusal}
use Rattle.lt_read.specs.declared.refusals.Refusal.{Refusal}
use Rattle.lt_read.specs.declared.refusals.Refusal.TheVariants.{TooLong, Syntax, OtherDimension, NotPrincipal, BadOrigin, BadSimplices, BadCone, BadCross, Twin}
use Rattle.lt_read.proofs.OneRefusal.{one_refusal}
use Rattle.lt_read.proofs.Read.{same_text}

module _ (version d : ℕ) (known : IsVersion version) (bytes : List ℕ) where
  -- the four kinds of refusals
  record IsLong (r : Refusal) : Type 0 where
    is : r ≡ TooLong
    above : input_limit d < length bytes

  record IsNoText (r : Refusal) : Type 0 where
    line : ℕ
    is : r ≡ Syntax line
    within : length bytes ≤ input_limit d
    fault : FaultAt (IsText version) bytes line

  record IsOther (r : Refusal) : Type 0 where
    found : ℕ
    is : r ≡ OtherDimension found
    within : length bytes ≤ input_limit d
    other : found ≢ d
    text_of : IsTextOf version bytes found

  kind : (r : Refusal) → IsFirstRefusal version d bytes r → IsLong r ⊎ (IsNoText r ⊎ (IsOther r ⊎ IsRefusedText version d bytes r))
  kind TooLong h = inl (record { is = refl; above = h })
  kind (Syntax line) h = inr (inl (record { line = line; is = refl; within = h.0; fault = h.1 }))
  kind (OtherDimension found) h = inr (inr (inl (record { found = found; is = refl; within = h.0; other = h.1; text_of = h.2 })))
  kind NotPrincipal h = inr (inr (inr h))
  kind (BadOrigin k) h = inr (inr (inr h))
  kind (BadSimplices k) h = inr (inr (inr h))
  kind (BadCone k row) h = inr (inr (inr h))
  kind (BadCross k f) h = inr (inr (inr h))
  kind (Twin i j u) h = inr (inr (inr h))

  -- bytes that are too long have no other refusal
  short : (r : Refusal) → IsNoText r ⊎ (IsOther r ⊎ IsRefusedText version d bytes r) → length bytes ≤ input_limit d
  short r (inl x) = x.within
  short r (inr (inl x)) = x.within
  short r (inr (inr x)) = x.0

  -- nor has what is no text
  is_text : (r : Refusal) → IsOther r ⊎ IsRefusedText version d bytes r → IsText version bytes
  is_text r (inl x) = let t = x.text_of in (t.0, t.1, t.3)
  is_text r (inr x) = let t = x.1 in (t.0, t.1, t.3)

  found_is : (t s : Text) → TextFits t → TextFits s → bytes ≡ text version t → bytes ≡ text version s → t.dimension ≡ s.dimension
  found_is t s p q e f = ap (λ (z : Text). z.dimension) (same_text version known t s p q (sym e ∙ f))

  other_or_refused : (r s : Refusal) → IsOther r → IsRefusedText version d bytes s → ⊥
  other_or_refused r s x (l, (t, p, e, is, h)) = let o = x.text_of in x.other (sym o.2 ∙ found_is o.0 t o.1 p o.3 is ∙ e)

  one_other : (r s : Refusal) → IsOther r → IsOther s → r ≡ s
  one_other r s x y =
      let a = x.text_of in
      let b = y.text_of in
      x.is ∙ ap OtherDimension (sym a.2 ∙ found_is a.0 b.0 a.1 b.1 a.3 b.3 ∙ b.2) ∙ sym y.is

  one_late : (r s : Refusal) → IsRefusedText version d bytes r → IsRefusedText version d bytes s → r ≡ s
  one_late r s (l, (t, p, e, is, h)) (m, (u, q, f, are, g)) =
      let same : u ≡ t = same_text version known u t q p (sym are ∙ is) in
      let low = p.0.0 in
      let some = p.1.0.0 in
      one_refusal version d t.entries (omega (arith, low, e)) (omega (arith, some)) r s h (subst (λ (z : Text). IsRefused version d z.entries s) same g)

  one : (r s : Refusal) → IsLong r ⊎ (IsNoText r ⊎ (IsOther r ⊎ IsRefusedText version d bytes r)) → IsLong s ⊎ (IsNoText s ⊎ (IsOther s ⊎ IsRefusedText version d bytes s)) → r ≡ s
  one r s (inl x) (inl y) = x.is ∙ sym y.is
  one r s (inl x) (inr y) = let a = x.above in let b = short s y in absurd (omega (arith, a, b))
  one r s (inr x) (inl y) = let a = y.above in let b = short r x in absurd (omega (arith, a, b))
  one r s (inr (inl x)) (inr (inl y)) = x.is ∙ ap Syntax (one_line version bytes x.line y.line x.fault y.fault) ∙ sym y.is
  one r s (inr (inl x)) (inr (inr y)) = absurd (x.fault.outside (is_text s y))
  one r s (inr (inr x)) (inr (inl y)) = absurd (y.fault.outside (is_text r x))
  one r s (inr (inr (inl x))) (inr (inr (inl y))) = one_other r s x y
  one r s (inr (inr (inl x))) (inr (inr (inr y))) = absurd (other_or_refused r s x y)
  one r s (inr (inr (inr x))) (inr (inr (inl y))) = absurd (other_or_refused s r y x)
  one r s (inr (inr (inr x))) (inr (inr (inr y))) = one_late r s x y

pub one_refusal_of_bytes : BytesHaveOneRefusal
one_refusal_of_bytes version d bytes r s known x y =
    one version d known bytes r s (kind version d known bytes r x) (kind version d known bytes s y)
