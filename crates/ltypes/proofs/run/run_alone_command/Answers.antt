use Rattle.std.proofs.Common.{sym, ap, subst}
use Rattle.ltypes.specs.declared.status.Status.{Status}
use Rattle.ltypes.specs.Changes.{Change, change}
use Rattle.ltypes.specs.Complete.{EndsRun}
use Rattle.ltypes.proofs.Complete.{run_ends}
use Rattle.ltypes.proofs.run.run_alone_command.Goals as goal

pub returns-clause-complete : goal.returns-clause-complete
returns-clause-complete g c calm still =
    let source : Change = change (g.S.Source.left c.args.source.now) (g.S.Source.left c.write_run_alone.new.source) (g.S.Source.faults c.args.source.now) (g.S.Source.faults c.write_run_alone.new.source) in
    let out : Change = change (g.K.Sink.held c.args.out.now) (g.K.Sink.held c.write_run_alone.new.out) (g.K.Sink.faults c.args.out.now) (g.K.Sink.faults c.write_run_alone.new.out) in
    subst (EndsRun c.args.d 1 c.args.steps c.args.resume source out) (sym (ap (λ (s : Status). s.cause) c.report.ensures.status))
    (run_ends c.args.d 1 c.args.steps c.args.resume source out c.write_run_alone.result c.write_run_alone.ensures.answer calm still)
