use Rattle.std.proofs.Common.{arith}
use Rattle.std.proofs.lemmas.List.{length-map}
use Rattle.lt_words.specs.declared.words.Kind.TheVariants as kind
use Rattle.lt_words.specs.Grammar.{texts}
use Rattle.lt_words.proofs.Tails.{dimension_fault, entry_fault, word_behind_entry, with_dimension, with_entry, fault_at_exit}
use Rattle.lt_words.proofs.fixed.read_relevant.Goals as goal

pub returns-in_err-d-clause-fault : goal.returns-in_err-d-clause-fault
returns-in_err-d-clause-fault c =
    let ws = texts c.args.words.now in
    fault_at_exit c.from_residual.result c.in_err-d.field-0.0 ws 1 c.from_residual.ensures.1 c.in_err-d.ensures.place (dimension_fault ws kind.Relevant (λ e. cc) c.requires c.in_err-d.ensures.none)

pub returns-in_err-entry-clause-fault : goal.returns-in_err-entry-clause-fault
returns-in_err-entry-clause-fault c =
    let ws = texts c.args.words.now in
    let (r, w) = c.in_ok-d.ensures.found in
    let front = with_dimension ws kind.Relevant c.in_ok-d.d c.requires w in
    fault_at_exit c.from_residual-in_err-entry.result c.in_err-entry.field-0.0 ws 2 c.from_residual-in_err-entry.ensures.1 c.in_err-entry.ensures.place
    (entry_fault ws c.in_ok-d.d r front (λ k few has. c.in_err-entry.ensures.none k (omega arith, few) has))

pub returns-in_err-end_at-clause-fault : goal.returns-in_err-end_at-clause-fault
returns-in_err-end_at-clause-fault c =
    let ws = texts c.args.words.now in
    let (r, w) = c.in_ok-d.ensures.found in
    let (few, v) = c.in_ok-entry.ensures.found in
    let front = with_entry ws c.in_ok-d.d c.in_ok-entry.entry (with_dimension ws kind.Relevant c.in_ok-d.d c.requires w) v in
    let more = c.in_err-end_at.ensures.more in
    fault_at_exit c.from_residual-in_err-end_at.result c.in_err-end_at.field-0.0 ws 3 c.from_residual-in_err-end_at.ensures.1 c.in_err-end_at.ensures.place
    (word_behind_entry ws c.in_ok-d.d c.in_ok-entry.entry r few.1 front (omega (arith, more, length-map c.args.words.now (λ x. x.now))))
