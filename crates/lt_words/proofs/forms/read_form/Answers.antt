use Rattle.std.proofs.Common.{◌≡◌, ◌+◌, ◌∷◌, [], length, map, ap, subst, arith}
use Rattle.std.proofs.lemmas.List.{length-map}
use Rattle.std.specs.Fmt.{decimal, signed_decimal}
use Rattle.lt_words.specs.Grammar.{texts, FaultAt}
use Rattle.lt_words.specs.Parts.{kind_word}
use Rattle.lt_words.proofs.FormWords.{not_run, crossings_fault, number_fault, word_behind_form, front_with, all_words}
use Rattle.lt_words.proofs.Fronts.{longer}
use Rattle.lt_words.proofs.Tails.{dimension_fault, with_dimension, place_at_exit, cut_at_exit}
use Rattle.lt_words.proofs.forms.read_form.Goals as goal

pub returns-in_err-d-clause-fault : goal.returns-in_err-d-clause-fault
returns-in_err-d-clause-fault c =
    let ws = texts c.args.words.now in
    place_at_exit c.from_residual.result c.in_err-d.field-0.0 ws 1 c.from_residual.ensures.1 c.in_err-d.ensures.place (λ k on has. dimension_fault ws k (not_run k on) has c.in_err-d.ensures.none)

pub returns-in_err-steps-clause-fault : goal.returns-in_err-steps-clause-fault
returns-in_err-steps-clause-fault c =
    let ws = texts c.args.words.now in
    let (r, w) = c.in_ok-d.ensures.found in
    place_at_exit c.from_residual-in_err-steps.result c.in_err-steps.field-0.0 ws 2 c.from_residual-in_err-steps.ensures.1 c.in_err-steps.ensures.place
    (λ k on has. crossings_fault ws k c.in_ok-d.d on r (with_dimension ws k c.in_ok-d.d has w) (λ s few at. c.in_err-steps.ensures.none s (omega arith, few) at))

pub returns-in_err-form-clause-fault : goal.returns-in_err-form-clause-fault
returns-in_err-form-clause-fault c =
    let ws = texts c.args.words.now in
    let (r, w) = c.in_ok-d.ensures.found in
    let (few, v) = c.in_ok-steps.ensures.found in
    let cut = c.in_err-form.ensures.cut in
    cut_at_exit c.from_residual-in_err-form.result c.in_err-form.field-0.0 ws c.from_residual-in_err-form.ensures.1
    (λ k on has.
    let front = with_dimension ws k c.in_ok-d.d has w in
    number_fault ws k c.in_ok-d.d c.in_ok-steps.steps _ on r few.1 (longer ws (kind_word k ∷ decimal c.in_ok-d.d ∷ []) (decimal c.in_ok-steps.steps) front v.0 v.1) cut)

pub returns-in_err-end_at-clause-fault : goal.returns-in_err-end_at-clause-fault
returns-in_err-end_at-clause-fault c =
    let ws = texts c.args.words.now in
    let (r, w) = c.in_ok-d.ensures.found in
    let (few, v) = c.in_ok-steps.ensures.found in
    let q = c.in_ok-form.form in
    let at : length (decimal 0 ∷ decimal 0 ∷ decimal 0 ∷ map signed_decimal q) ≡ 3 + length c.numbers.result.now = omega (arith, length-map q signed_decimal, ap length c.numbers.ensures.value) in
    let more = c.in_err-end_at.ensures.more in
    place_at_exit c.from_residual-in_err-end_at.result c.in_err-end_at.field-0.0 ws (3 + length c.numbers.result.now) c.from_residual-in_err-end_at.ensures.1 c.in_err-end_at.ensures.place
    (λ k on has.
    let front = with_dimension ws k c.in_ok-d.d has w in
    let longer_front = longer ws (kind_word k ∷ decimal c.in_ok-d.d ∷ []) (decimal c.in_ok-steps.steps) front v.0 v.1 in
    let whole = front_with ws (kind_word k ∷ decimal c.in_ok-d.d ∷ decimal c.in_ok-steps.steps ∷ []) (map signed_decimal q) longer_front c.in_ok-form.ensures.found in
    subst (FaultAt ws) at
    (word_behind_form ws k c.in_ok-d.d c.in_ok-steps.steps q on r few.1 c.in_ok-form.ensures.numbers c.in_ok-form.ensures.within whole (omega (arith, more, at, length-map c.args.words.now (λ x. x.now)))))

pub returns-clause-words : goal.returns-clause-words
returns-clause-words c w has =
    let ws = texts c.args.words.now in
    let (r, u) = c.in_ok-d.ensures.found in
    let (few, v) = c.in_ok-steps.ensures.found in
    let q = c.in_ok-form.form in
    let d = c.in_ok-d.d in
    let s = c.in_ok-steps.steps in
    let front = longer ws (w ∷ decimal d ∷ []) (decimal s) (longer ws (w ∷ []) (decimal d) has u.0 u.1) v.0 v.1 in
    let whole = front_with ws (w ∷ decimal d ∷ decimal s ∷ []) (map signed_decimal q) front c.in_ok-form.ensures.found in
    let end = c.in_ok-end_at.ensures.end in
    record {
      d = d;
      dimension = r;
      numbers = c.in_ok-form.ensures.numbers;
      words = all_words ws w d s q whole (omega (arith, end, length-map c.args.words.now (λ x. x.now), ap length c.numbers.ensures.value));
    }
