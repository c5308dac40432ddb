use Rattle.std.proofs.Common.{inr, refl, subst}
use Rattle.lt_io.proofs.Compose.{nothing_appended}
use Rattle.lt_words.specs.Grammar.{texts, place_of}
use Rattle.lt_words.specs.declared.words.Command.{Command}
use Rattle.lt_words.proofs.Laws.{one_command}
use Rattle.ltypes.specs.Answers.{AnswersCommand}
use Rattle.ltypes.specs.Changes.{Change, change}
use Rattle.ltypes.proofs.Complete.{command_ends}
use Rattle.ltypes.proofs.command.ltypes.Goals as goal

pub returns-in-Err-clause-answer : goal.returns-in-Err-clause-answer
returns-in-Err-clause-answer g c = inr (place_of c.in-Err.error, c.in-Err.ensures.fault, c.refuse.ensures.cause, nothing_appended _, record { left = refl; faults = refl })

pub returns-in-Ok-clause-complete : goal.returns-in-Ok-clause-complete
returns-in-Ok-clause-complete g c calm still k range spells =
    let source : Change = change (g.S.Source.left c.args.source.now) (g.S.Source.left c.carry_out.new.source) (g.S.Source.faults c.args.source.now) (g.S.Source.faults c.carry_out.new.source) in
    let out : Change = change (g.K.Sink.held c.args.out.now) (g.K.Sink.held c.carry_out.new.out) (g.K.Sink.faults c.args.out.now) (g.K.Sink.faults c.carry_out.new.out) in
    let same = one_command c.in-Ok.command k (texts c.args.words.now) c.in-Ok.ensures.command.0 range c.in-Ok.ensures.command.1 spells in
    command_ends k source out c.carry_out.result.cause (subst (λ (x : Command). AnswersCommand x source out c.carry_out.result.cause) same c.carry_out.ensures.answer) calm still

pub returns-in-Err-clause-complete : goal.returns-in-Err-clause-complete
returns-in-Err-clause-complete g c calm still k range spells = absurd (c.in-Err.ensures.fault.outside (k, range, spells))
