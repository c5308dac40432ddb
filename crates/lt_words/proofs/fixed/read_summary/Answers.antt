use Rattle.std.proofs.Common.{arith}
use Rattle.std.proofs.lemmas.List.{length-map}
use Rattle.lt_words.specs.declared.words.Kind.TheVariants as kind
use Rattle.lt_words.specs.Grammar.{texts}
use Rattle.lt_words.proofs.Tails.{dimension_fault, summary_fault, summary_spelt, with_dimension, fault_at_exit}
use Rattle.lt_words.proofs.fixed.read_summary.Goals as goal
use Rattle.lt_words.proofs.fixed.read_summary.Goals.{then-resume, else-resume}

pub returns-in_err-d-clause-fault : goal.returns-in_err-d-clause-fault
returns-in_err-d-clause-fault c =
    let ws = texts c.args.words.now in
    fault_at_exit c.from_residual.result c.in_err-d.field-0.0 ws 1 c.from_residual.ensures.1 c.in_err-d.ensures.place (dimension_fault ws kind.Summary (λ e. cc) c.requires c.in_err-d.ensures.none)

pub returns-in_err-end_at-clause-fault : goal.returns-in_err-end_at-clause-fault
returns-in_err-end_at-clause-fault c =
    let ws = texts c.args.words.now in
    let (r, w) = c.in_ok-d.ensures.found in
    let front = with_dimension ws kind.Summary c.in_ok-d.d c.requires w in
    let more = c.in_err-end_at.ensures.more in
    fault_at_exit c.from_residual-in_err-end_at.result c.in_err-end_at.field-0.0 ws c.if-resume.end_at c.from_residual-in_err-end_at.ensures.1 c.in_err-end_at.ensures.place
    (summary_fault ws c.in_ok-d.d c.is_at-resume.result c.if-resume.end_at r front c.is_at-resume.ensures.0 c.is_at-resume.ensures.1
    (λ yes. elim c.if-resume.branch [ then-resume b ↦ b.end_at-is | else-resume b ↦ let no = b.if-resume.false in absurd (cc) ])
    (λ no. elim c.if-resume.branch [ then-resume b ↦ let yes = b.if-resume.true in absurd (cc) | else-resume b ↦ b.end_at-is ])
    (omega (arith, more, length-map c.args.words.now (λ x. x.now))))

pub returns-clause-command : goal.returns-clause-command
returns-clause-command c =
    let ws = texts c.args.words.now in
    let (r, w) = c.in_ok-d.ensures.found in
    let front = with_dimension ws kind.Summary c.in_ok-d.d c.requires w in
    let few = c.in_ok-end_at.ensures.end in (
      r,
      summary_spelt ws c.in_ok-d.d c.is_at-resume.result c.if-resume.end_at front c.is_at-resume.ensures.0
          (λ yes. elim c.if-resume.branch [ then-resume b ↦ b.end_at-is | else-resume b ↦ let no = b.if-resume.false in absurd (cc) ])
          (λ no. elim c.if-resume.branch [ then-resume b ↦ let yes = b.if-resume.true in absurd (cc) | else-resume b ↦ b.end_at-is ])
          (omega (arith, few, length-map c.args.words.now (λ x. x.now))),
    )
