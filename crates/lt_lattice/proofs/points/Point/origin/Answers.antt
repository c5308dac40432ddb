use Rattle.lt_lattice.proofs.Padded.{origin, origin_front}
use Rattle.lt_lattice.proofs.points.Point.origin.Goals as goal

pub invariant_of-result : goal.invariant_of-result
invariant_of-result c = rw c.from.ensures (origin c.args.d c.requires.low c.requires.high)

pub returns : goal.returns
returns c = rw c.from.ensures (origin_front c.args.d c.requires.high)
