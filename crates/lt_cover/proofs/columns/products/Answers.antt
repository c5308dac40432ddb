use Rattle.std.proofs.Common.{◌<◌, ◌-◌, ◌∙◌, ap, arith, length, map, drop, ℤ, List}
use Rattle.lt_model.proofs.Walk.{length-map}
use Rattle.lt_model.specs.Flat.{flat}
use Rattle.lt_model.specs.Forms.{polar}
use Rattle.lt_cover.specs.Gram.{gram}
use Rattle.lt_cover.proofs.Loops.{column_room, column_pushed}
use Rattle.lt_cover.proofs.Systems.{count}
use Rattle.lt_cover.proofs.columns.products.Goals as goal

pub push_column-requires-clause-room : goal.push_column-requires-clause-room
push_column-requires-clause-room c =
    let s = c.args.class.now in
    let q = c.args.q.now in
    let e = ap (length {A = List ℤ}) c.vertices-j-end.ensures in
    let lj : c.loop-j.j < length s = omega (arith, e, c.loop-j-test.true) in
    column_room (λ w. map (λ v. polar q v w) (drop 1 s)) s (length s - 1) c.loop-j.j c.loop-j.all.items c.requires.high c.requires.class.simplex.count (λ w. length-map (λ v. polar q v w) (drop 1 s) ∙ count (length s - 1) q s c.requires) lj c.loop-j.auto.j c.loop-j.invariant

pub loop-j-preserved : goal.loop-j-preserved
loop-j-preserved c =
    let s = c.args.class.now in
    let q = c.args.q.now in
    let e = ap (length {A = List ℤ}) c.vertices-j-end.ensures in
    let lj : c.loop-j.j < length s = omega (arith, e, c.loop-j-test.true) in
    column_pushed (λ w. map (λ v. polar q v w) (drop 1 s)) s c.loop-j.j c.loop-j.all.items c.push_column.new.all.items (flat (gram q (drop 1 s))) lj c.push_column.ensures c.loop-j.invariant
