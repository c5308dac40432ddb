use Rattle.std.proofs.Common.{sym, ap, subst}
use Rattle.ltypes.specs.declared.status.Status.{Status}
use Rattle.ltypes.specs.Changes.{Change, change}
use Rattle.ltypes.specs.Complete.{EndsDrill}
use Rattle.ltypes.proofs.Complete.{drill_ends}
use Rattle.ltypes.proofs.drill.drill_command.Goals as goal

pub returns-clause-complete : goal.returns-clause-complete
returns-clause-complete g c still =
    let out : Change = change (g.K.Sink.held c.args.out.now) (g.K.Sink.held c.write_drill.new.out) (g.K.Sink.faults c.args.out.now) (g.K.Sink.faults c.write_drill.new.out) in
    subst (EndsDrill c.args.d c.args.seed c.args.length) (sym (ap (λ (s : Status). s.cause) c.report.ensures.status)) (drill_ends c.args.d c.args.seed c.args.length out c.write_drill.result c.write_drill.ensures still)
