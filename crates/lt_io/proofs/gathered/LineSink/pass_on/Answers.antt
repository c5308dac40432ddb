use Rattle.std.proofs.Common.{take}
use Rattle.lt_io.proofs.Gathering.{still_held}
use Rattle.lt_io.proofs.gathered.LineSink.pass_on.Goals as goal

pub returns-then-self-clause-same : goal.returns-then-self-clause-same
returns-then-self-clause-same g c =
    still_held g.K.Sink.held c.args.self.now c.self.inside.sink c.put_some-taken.new.sink (take c.self.inside.end c.self.inside.bytes) c.part.result.now c.self.inside.start c.put_some-taken.result c.self.view_is c.part.ensures c.put_some-taken.ensures.bytes
