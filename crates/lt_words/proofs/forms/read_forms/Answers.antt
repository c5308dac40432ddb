use Rattle.std.proofs.Common.{◌≡◌, ◌∙◌, ◌+◌, ◌*◌, ◌∷◌, [], ℤ, List, length, map, ap, sym, subst, arith}
use Rattle.std.specs.Prelude.{codes}
use Rattle.std.proofs.lemmas.List.{length-map}
use Rattle.std.specs.Fmt.{decimal, signed_decimal}
use Rattle.std.specs.List.{flat_map}
use Rattle.lt_model.specs.Forms.{numbers_of_form}
use Rattle.lt_words.specs.declared.words.Kind.TheVariants as kind
use Rattle.lt_words.specs.Grammar.{texts, FaultAt, most_in_section}
use Rattle.lt_words.proofs.Chunks.{length-chunks, all_in_chunks, given_forms}
use Rattle.lt_words.proofs.FormWords.{front_with}
use Rattle.lt_words.proofs.FormsWords.{no_crossings, no_count, no_number, word_behind_forms, all_forms}
use Rattle.lt_words.proofs.Fronts.{longer}
use Rattle.lt_words.proofs.Tails.{dimension_fault, with_dimension, fault_at_exit, fault_above}
use Rattle.lt_words.proofs.forms.read_forms.Goals as goal

pub returns-in_err-d-clause-fault : goal.returns-in_err-d-clause-fault
returns-in_err-d-clause-fault c =
    let ws = texts c.args.words.now in
    fault_at_exit c.from_residual.result c.in_err-d.field-0.0 ws 1 c.from_residual.ensures.1 c.in_err-d.ensures.place (dimension_fault ws kind.Section (λ e. cc) c.requires c.in_err-d.ensures.none)

pub returns-in_err-steps-clause-fault : goal.returns-in_err-steps-clause-fault
returns-in_err-steps-clause-fault c =
    let ws = texts c.args.words.now in
    let (r, w) = c.in_ok-d.ensures.found in
    fault_at_exit c.from_residual-in_err-steps.result c.in_err-steps.field-0.0 ws 2 c.from_residual-in_err-steps.ensures.1 c.in_err-steps.ensures.place
    (no_crossings ws c.in_ok-d.d r (with_dimension ws kind.Section c.in_ok-d.d c.requires w) (λ s few at. c.in_err-steps.ensures.none s (omega arith, few) at))

pub returns-in_err-count-clause-fault : goal.returns-in_err-count-clause-fault
returns-in_err-count-clause-fault c =
    let ws = texts c.args.words.now in
    let (r, w) = c.in_ok-d.ensures.found in
    let (few, v) = c.in_ok-steps.ensures.found in
    let front = longer ws (codes "section" ∷ decimal c.in_ok-d.d ∷ []) (decimal c.in_ok-steps.steps) (with_dimension ws kind.Section c.in_ok-d.d c.requires w) v.0 v.1 in
    fault_at_exit c.from_residual-in_err-count.result c.in_err-count.field-0.0 ws 3 c.from_residual-in_err-count.ensures.1 c.in_err-count.ensures.place
    (no_count ws c.in_ok-d.d c.in_ok-steps.steps r few.1 front (λ m some most at. c.in_err-count.ensures.none m (omega (arith, some), omega (arith, most, c.numbers_of-each.ensures.value)) at))

pub returns-in_err-forms-clause-fault : goal.returns-in_err-forms-clause-fault
returns-in_err-forms-clause-fault c =
    let ws = texts c.args.words.now in
    let (r, w) = c.in_ok-d.ensures.found in
    let (few, v) = c.in_ok-steps.ensures.found in
    let (most, u) = c.in_ok-count.ensures.found in
    let front = longer ws (codes "section" ∷ decimal c.in_ok-d.d ∷ []) (decimal c.in_ok-steps.steps) (with_dimension ws kind.Section c.in_ok-d.d c.requires w) v.0 v.1 in
    let whole = longer ws (codes "section" ∷ decimal c.in_ok-d.d ∷ decimal c.in_ok-steps.steps ∷ []) (decimal c.in_ok-count.count) front u.0 u.1 in
    fault_above c.from_residual-in_err-forms.result c.in_err-forms.field-0.0 ws c.from_residual-in_err-forms.ensures.1
    (no_number ws c.in_ok-d.d c.in_ok-steps.steps c.in_ok-count.count _ r few.1 (omega (arith, most.0)) (omega (arith, most.1, c.numbers_of-each.ensures.value)) whole c.in_err-forms.ensures.cut)

pub returns-in_err-end_at-clause-fault : goal.returns-in_err-end_at-clause-fault
returns-in_err-end_at-clause-fault c =
    let ws = texts c.args.words.now in
    let (r, w) = c.in_ok-d.ensures.found in
    let (few, v) = c.in_ok-steps.ensures.found in
    let (most, u) = c.in_ok-count.ensures.found in
    let n = numbers_of_form c.in_ok-d.d in
    let fs = c.in_ok-forms.forms.items in
    let zs = flat_map (λ (q : List ℤ). q) fs in
    let ok = c.in_ok-forms.ensures in
    let front = longer ws (codes "section" ∷ decimal c.in_ok-d.d ∷ []) (decimal c.in_ok-steps.steps) (with_dimension ws kind.Section c.in_ok-d.d c.requires w) v.0 v.1 in
    let behind = longer ws (codes "section" ∷ decimal c.in_ok-d.d ∷ decimal c.in_ok-steps.steps ∷ []) (decimal c.in_ok-count.count) front u.0 u.1 in
    let whole = front_with ws (codes "section" ∷ decimal c.in_ok-d.d ∷ decimal c.in_ok-steps.steps ∷ decimal c.in_ok-count.count ∷ []) (map signed_decimal zs) behind ok.found in
    let long : length zs ≡ c.in_ok-count.count * n = length-chunks n fs ok.numbers ∙ ap (λ k. k * n) ok.count in
    let at : 4 + length zs ≡ 4 + c.in_ok-count.count * c.numbers_of-each.result = ap (λ k. 4 + k) (long ∙ ap (λ k. c.in_ok-count.count * k) (sym c.numbers_of-each.ensures.value)) in
    let more = c.in_err-end_at.ensures.more in
    fault_at_exit c.from_residual-in_err-end_at.result c.in_err-end_at.field-0.0 ws (4 + c.in_ok-count.count * c.numbers_of-each.result) c.from_residual-in_err-end_at.ensures.1 c.in_err-end_at.ensures.place
    (subst (FaultAt ws) at
    (word_behind_forms ws c.in_ok-d.d c.in_ok-steps.steps c.in_ok-count.count zs r few.1 (omega (arith, most.0)) (omega (arith, most.1, c.numbers_of-each.ensures.value)) long (all_in_chunks most_in_section fs ok.within) whole
    (omega (arith, more, at, length-map c.args.words.now (λ x. x.now)))))

pub returns-clause-words : goal.returns-clause-words
returns-clause-words c =
    let ws = texts c.args.words.now in
    let (r, w) = c.in_ok-d.ensures.found in
    let (few, v) = c.in_ok-steps.ensures.found in
    let (most, u) = c.in_ok-count.ensures.found in
    let d = c.in_ok-d.d in
    let s = c.in_ok-steps.steps in
    let n = numbers_of_form d in
    let fs = c.in_ok-forms.forms.items in
    let zs = flat_map (λ (q : List ℤ). q) fs in
    let ok = c.in_ok-forms.ensures in
    let front = longer ws (codes "section" ∷ decimal d ∷ []) (decimal s) (with_dimension ws kind.Section d c.requires w) v.0 v.1 in
    let behind = longer ws (codes "section" ∷ decimal d ∷ decimal s ∷ []) (decimal c.in_ok-count.count) front u.0 u.1 in
    let whole = front_with ws (codes "section" ∷ decimal d ∷ decimal s ∷ decimal c.in_ok-count.count ∷ []) (map signed_decimal zs) behind ok.found in
    let long : length zs ≡ c.in_ok-count.count * n = length-chunks n fs ok.numbers ∙ ap (λ k. k * n) ok.count in
    let end = c.in_ok-end_at.ensures.end in
    let at : 4 + length zs ≡ 4 + c.in_ok-count.count * c.numbers_of-each.result = ap (λ k. 4 + k) (long ∙ ap (λ k. c.in_ok-count.count * k) (sym c.numbers_of-each.ensures.value)) in
    record {
      d = d;
      dimension = r;
      numbers = ok.numbers;
      words = all_forms ws d s c.in_ok-count.count zs whole (omega (arith, end, at, length-map c.args.words.now (λ x. x.now)))
          ∙ ap (λ k. codes "section" ∷ decimal d ∷ decimal s ∷ decimal k ∷ map signed_decimal zs) (sym ok.count);
    }

pub returns-clause-given : goal.returns-clause-given
returns-clause-given c =
    let most = c.in_ok-count.ensures.found.0 in
    let ok = c.in_ok-forms.ensures in
    given_forms (numbers_of_form c.in_ok-d.d) c.in_ok-forms.forms.items (omega (arith, ok.count, most.0)) (omega (arith, ok.count, most.1, c.numbers_of-each.ensures.value)) ok.numbers ok.within
