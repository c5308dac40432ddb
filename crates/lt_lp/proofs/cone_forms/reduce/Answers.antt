use Rattle.lt_lp.proofs.Reduces.{reduced, reduced_below}
use Rattle.lt_lp.proofs.WallSums.{not_large}
use Rattle.lt_lp.proofs.cone_forms.reduce.Goals as goal

pub unreachable-requires : goal.unreachable-requires
unreachable-requires c = not_large c.args.numbers.now c.requires.some.0 c.requires.some.1 c.requires.below c.in-Err.ensures.0

pub returns-clause-reduced : goal.returns-clause-reduced
returns-clause-reduced c = reduced c.args.numbers.now c.primitive.new.list c.in-Ok.field-0 c.requires.some.0 c.requires.some.1 c.in-Ok.ensures

pub returns-clause-below : goal.returns-clause-below
returns-clause-below c =
    let r = reduced c.args.numbers.now c.primitive.new.list c.in-Ok.field-0 c.requires.some.0 c.requires.some.1 c.in-Ok.ensures in
    reduced_below _ c.args.numbers.now c.primitive.new.list r c.requires.below
