use Rattle.std.proofs.Common.{◌<◌, ap, arith, length, ℤ, List}
use Rattle.lt_model.specs.Forms.{value}
use Rattle.lt_cover.proofs.Loops.{few_left}
use Rattle.lt_cover.proofs.columns.values.Goals as goal

pub push-requires : goal.push-requires
push-requires c =
    let s = c.args.class.now in
    let e = ap (length {A = List ℤ}) c.vertices-i-end.ensures in
    let li : c.loop-i.i < length s = omega (arith, e, c.loop-i-test.true) in
    let r = few_left (value c.args.q.now) s c.loop-i.i c.loop-i.all.items li c.loop-i.auto.i c.loop-i.invariant in
    (omega arith, omega (arith, r, c.requires.class.simplex.count, c.requires.high))
