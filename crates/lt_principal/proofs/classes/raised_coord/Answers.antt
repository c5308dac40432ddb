use Rattle.std.proofs.Common.{arith, sym, ◌∙◌, w64}
use Rattle.std.proofs.lemmas.Int.{ints, to_z-of_z}
use Rattle.lt_principal.proofs.Ways.{raised_there, raised_elsewhere}
use Rattle.lt_principal.proofs.classes.raised_coord.Goals as goal

pub returns-then-i-k-clause-value : goal.returns-then-i-k-clause-value
returns-then-i-k-clause-value c = rw c.if-i-k.true (sym (raised_there c.args.x.now c.args.k c.requires.place c.requires.zero))

pub returns-else-i-k-clause-value : goal.returns-else-i-k-clause-value
returns-else-i-k-clause-value c = rw (to_z-of_z w64 c.coord.result (omega (arith, ints))) (c.coord.ensures.value ∙ sym (raised_elsewhere c.args.x.now c.args.k c.args.i c.if-i-k.false))
