use Rattle.std.proofs.Common.{sym, ap, subst}
use Rattle.ltypes.specs.declared.status.Status.{Status}
use Rattle.ltypes.specs.Changes.{Change, change}
use Rattle.ltypes.specs.Complete.{EndsMerge}
use Rattle.ltypes.proofs.Complete.{merge_ends}
use Rattle.ltypes.proofs.merges.merge_command.Goals as goal

pub returns-clause-complete : goal.returns-clause-complete
returns-clause-complete g c calm still =
    let source : Change = change (g.S.Source.left c.args.source.now) (g.S.Source.left c.write_merge.new.source) (g.S.Source.faults c.args.source.now) (g.S.Source.faults c.write_merge.new.source) in
    let out : Change = change (g.K.Sink.held c.args.out.now) (g.K.Sink.held c.write_merge.new.out) (g.K.Sink.faults c.args.out.now) (g.K.Sink.faults c.write_merge.new.out) in
    subst (EndsMerge c.args.d source) (sym (ap (λ (s : Status). s.cause) c.report.ensures.status)) (merge_ends c.args.d source out c.write_merge.result c.write_merge.ensures calm still)
