use Rattle.std.proofs.Common.{◌<◌, ap, arith, length, get_or, [], ℤ, List}
use Rattle.lt_model.specs.Forms.{polar}
use Rattle.lt_cover.proofs.Loops.{room_left}
use Rattle.lt_cover.proofs.columns.push_column.Goals as goal

pub push-requires : goal.push-requires
push-requires c =
    let s = c.args.class.now in
    let e = ap (length {A = List ℤ}) c.vertices-i-end.ensures in
    let li : c.loop-i.i < length s = omega (arith, e, c.loop-i-test.true) in
    let r = room_left (λ v. polar c.args.q.now v (get_or s c.args.j [])) s c.loop-i.i c.loop-i.all.items c.args.all.now.items li c.loop-i.auto.i c.loop-i.invariant in
    (omega arith, omega (arith, r, c.requires.room))
