use Rattle.std.proofs.Common.{◌≡◌, ◌∙◌, ℕ, ℤ, List, ap, sym, subst}
use Rattle.lt_words.specs.declared.words.Command.{Command}
use Rattle.lt_words.specs.declared.words.Command.TheVariants.{Run}
use Rattle.ltypes.specs.Answers.{AnswersCommand}
use Rattle.ltypes.specs.Changes.{Change, change}
use Rattle.ltypes.specs.Sections.{AnswersSection}
use Rattle.ltypes.proofs.command.carry_out.Goals as goal

pub returns-then-workers-eq1-clause-answer : goal.returns-then-workers-eq1-clause-answer
returns-then-workers-eq1-clause-answer g c =
    let r = c.in-Run in
    let source : Change = change (g.S.Source.left c.args.source.now) (g.S.Source.left c.run_alone_command.new.source) (g.S.Source.faults c.args.source.now) (g.S.Source.faults c.run_alone_command.new.source) in
    let out : Change = change (g.K.Sink.held c.args.out.now) (g.K.Sink.held c.run_alone_command.new.out) (g.K.Sink.faults c.args.out.now) (g.K.Sink.faults c.run_alone_command.new.out) in
    let alone : c.args.command ≡ Run r.d 1 r.steps r.resume = r.is ∙ ap (λ (n : ℕ). Run r.d n r.steps r.resume) c.if-workers-eq1.true in
    subst (λ (k : Command). AnswersCommand k source out c.run_alone_command.result.cause) (sym alone) c.run_alone_command.ensures.answer

pub returns-in-Section-clause-answer : goal.returns-in-Section-clause-answer
returns-in-Section-clause-answer g c =
    let s = c.in-Section in
    let source : Change = change (g.S.Source.left c.args.source.now) (g.S.Source.left c.args.source.now) (g.S.Source.faults c.args.source.now) (g.S.Source.faults c.args.source.now) in
    let out : Change = change (g.K.Sink.held c.args.out.now) (g.K.Sink.held c.section_command.new.out) (g.K.Sink.faults c.args.out.now) (g.K.Sink.faults c.section_command.new.out) in
    subst (λ (k : Command). AnswersCommand k source out c.section_command.result.cause) (sym s.is) (subst (λ (fs : List (List ℤ)). AnswersSection s.steps fs out c.section_command.result.cause) c.as_slice.ensures.value c.section_command.ensures.answer)
