use Rattle.std.proofs.Common.{arith, length}
use Rattle.lt_lattice.proofs.Lengths.{form_length, at_most_21}
use Rattle.lt_lattice.proofs.forms.Form.of.Goals as goal

pub collected-requires : goal.collected-requires
collected-requires c = omega (arith, at_most_21 c.args.d c.requires.high, c.requires.count)

pub invariant_of-result : goal.invariant_of-result
invariant_of-result c =
    rw c.collected.ensures (form_length c.args.d (length c.args.numbers.now) c.requires.low c.requires.high c.requires.count, c.requires.below)
