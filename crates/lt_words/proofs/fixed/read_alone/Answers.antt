use Rattle.std.proofs.Common.{◌∷◌, [], arith}
use Rattle.std.proofs.lemmas.List.{length-map}
use Rattle.std.specs.Fmt.{decimal}
use Rattle.lt_words.specs.Grammar.{texts}
use Rattle.lt_words.proofs.Alone.{alone_not_run, alone_end, alone_no_more}
use Rattle.lt_words.proofs.Fronts.{longer, front_alone}
use Rattle.lt_words.proofs.Tails.{dimension_fault, third_word, with_dimension, place_at_exit}
use Rattle.lt_words.proofs.fixed.read_alone.Goals as goal

pub returns-in_err-d-clause-fault : goal.returns-in_err-d-clause-fault
returns-in_err-d-clause-fault c =
    let ws = texts c.args.words.now in
    place_at_exit c.from_residual.result c.in_err-d.field-0.0 ws 1 c.from_residual.ensures.1 c.in_err-d.ensures.place (λ k is has. dimension_fault ws k (alone_not_run k is) has c.in_err-d.ensures.none)

pub returns-in_err-end_at-clause-fault : goal.returns-in_err-end_at-clause-fault
returns-in_err-end_at-clause-fault c =
    let ws = texts c.args.words.now in
    let (r, w) = c.in_ok-d.ensures.found in
    let more = c.in_err-end_at.ensures.more in
    place_at_exit c.from_residual-in_err-end_at.result c.in_err-end_at.field-0.0 ws 2 c.from_residual-in_err-end_at.ensures.1 c.in_err-end_at.ensures.place
    (λ k is has. third_word ws k c.in_ok-d.d (alone_not_run k is) r (with_dimension ws k c.in_ok-d.d has w) (alone_end k c.in_ok-d.d is) (λ v rest at. alone_no_more k c.in_ok-d.d v rest is)
    (omega (arith, more, length-map c.args.words.now (λ x. x.now))))

pub returns-clause-words : goal.returns-clause-words
returns-clause-words c w has =
    let ws = texts c.args.words.now in
    let at = c.in_ok-d.ensures.found.1 in
    let few = c.in_ok-end_at.ensures.end in
    front_alone ws (w ∷ decimal c.in_ok-d.d ∷ []) (longer ws (w ∷ []) (decimal c.in_ok-d.d) has at.0 at.1) (omega (arith, few, at.0, length-map c.args.words.now (λ x. x.now)))
