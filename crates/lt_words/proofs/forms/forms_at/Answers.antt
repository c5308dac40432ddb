use Rattle.std.proofs.Common.{ℤ, List, ◌≡◌, ◌∙◌, ◌+◌, ◌*◌, [], ◌∷◌, length, length-append, map, sym, ap, arith, subst}
use Rattle.std.specs.Fmt.{signed_decimal}
use Rattle.std.specs.List.{All, flat_map}
use Rattle.std.proofs.lemmas.List.Elements.{All-push}
use Rattle.lt_model.specs.Forms.{numbers_of_form}
use Rattle.lt_lattice.specs.Ranges.{IsWithin}
use Rattle.lt_words.specs.Grammar.{texts, most_in_section, place_of}
use Rattle.lt_words.specs.Parts.{HasWords, IsCut}
use Rattle.lt_words.proofs.Chunks.{length-chunks, all_in_chunks}
use Rattle.lt_words.proofs.FormsWords.{cut_behind, words_behind}
use Rattle.lt_words.proofs.Tails.{answer_at_exit}
use Rattle.lt_words.proofs.forms.forms_at.Goals as goal

pub returns-in_err-form_at-clause-cut : goal.returns-in_err-form_at-clause-cut
returns-in_err-form_at-clause-cut c =
    let ws = texts c.args.words.now in
    let n = numbers_of_form c.args.d in
    let fs = c.loop-i.forms.items in
    let i = c.loop-i.i in
    let inv = c.loop-i.invariant in
    let long : length (flat_map (λ (q : List ℤ). q) fs) ≡ i * n = length-chunks n fs inv.numbers ∙ ap (λ k. k * n) inv.count in
    answer_at_exit c.from_residual.result c.in_err-form_at.field-0.0 (λ e. IsCut ws c.args.place (c.args.count * n) most_in_section (place_of e)) c.from_residual.ensures.1
    (cut_behind ws c.args.place most_in_section n c.args.count i (place_of c.in_err-form_at.field-0.0) _ (flat_map (λ (q : List ℤ). q) fs) long (omega (arith, c.loop-i-test.true))
    (all_in_chunks most_in_section fs inv.within) inv.words (ap (λ k. c.args.place + i * k) c.numbers_of-each.ensures.value) c.in_err-form_at.ensures.cut)

pub loop-i-preserved : goal.loop-i-preserved
loop-i-preserved c =
    let ws = texts c.args.words.now in
    let n = numbers_of_form c.args.d in
    let fs = c.loop-i.forms.items in
    let q = c.in_ok-form_at.field-0 in
    let i = c.loop-i.i in
    let inv = c.loop-i.invariant in
    let ok = c.in_ok-form_at.ensures in
    let items = c.push.ensures.items in
    record {
      count = ap length items ∙ omega (arith, inv.count, length-append fs (q ∷ []));
      few = omega (arith, c.loop-i-test.true);
      each = inv.each;
      numbers = subst (λ (l : List (List ℤ)). All (λ (x : List ℤ). length x ≡ n) l) (sym items) (All-push {X = List ℤ} (λ x. length x ≡ n) fs q inv.numbers ok.numbers);
      within = subst (λ (l : List (List ℤ)). All (All (IsWithin most_in_section)) l) (sym items) (All-push {X = List ℤ} (All (IsWithin most_in_section)) fs q inv.within ok.within);
      words = subst (λ (l : List (List ℤ)). HasWords ws c.args.place (map signed_decimal (flat_map (λ (x : List ℤ). x) l))) (sym items)
          (words_behind ws c.args.place n i _ fs q inv.numbers inv.count inv.words (ap (λ k. c.args.place + i * k) c.numbers_of-each.ensures.value) ok.found);
    }
