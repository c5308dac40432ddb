use Rattle.ltypes.proofs.Drilled.{undrilled}
use Rattle.ltypes.proofs.drill.write_drill.Goals as goal

pub returns : goal.returns
returns g c = undrilled c.args.d c.args.seed c.args.turns (g.K.Sink.faults c.args.out.now) (g.K.Sink.faults c.args.out.now) (g.K.Sink.held c.args.out.now) c.in-Err.cause c.in-Err.ensures.why
