use Rattle.std.proofs.Common.{◌∙◌, sym, arith}
use Rattle.std.proofs.lemmas.List.{length-map}
use Rattle.std.proofs.lemmas.Slice.Eq.{bytes_eq-Decides}
use Rattle.lt_words.proofs.Tails.{word_here}
use Rattle.lt_words.proofs.places.is_at.Goals as goal

pub returns-then-place-words : goal.returns-then-place-words
returns-then-place-words c =
    let here = word_here c.args.words.now c.args.place _ c.if-place-words.true in
    let same = bytes_eq-Decides _ _ in
    (λ yes. (omega (arith, c.if-place-words.true, length-map c.args.words.now (λ w. w.now)), sym here ∙ same.0 (sym c.eq.ensures ∙ yes)), λ w. c.eq.ensures ∙ same.1 (here ∙ w.1))
