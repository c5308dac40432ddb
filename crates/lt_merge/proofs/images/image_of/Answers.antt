use Rattle.std.proofs.Common.{arith, rules, get_or, [], ◌≤◌, length, ◌≡◌, ◌++◌, ◌∷◌}
use Rattle.std.proofs.lemmas.Int.{to_z-of_z}
use Rattle.std.specs.Int.{w128}
use mir.Val.{SFits}
use Rattle.lt_model.specs.Flat.{rows}
use Rattle.lt_model.proofs.Flat.{length-first_rows}
use Rattle.lt_merge.proofs.Rows.{row_more, row_room, row_ends, rows_end}
use Rattle.lt_merge.proofs.images.image_of.Goals as goal

pub push-requires : goal.push-requires
push-requires c =
    let d = c.args.d in
    let l = length-first_rows d d c.args.u.now in
    let few : length (rows d c.args.u.now) ≤ 6 = omega (arith, l, c.requires.few) in
    (omega arith, row_room (rows d c.args.u.now) _ c.args.normal.now c.loop-j.all.items _ c.loop-j.j few (omega (arith, l)) c.loop-j.invariant)

pub loop-j-preserved : goal.loop-j-preserved
loop-j-preserved c =
    let d = c.args.d in
    let l = length-first_rows d d c.args.u.now in
    let fits : SFits w128 c.image_number.result = search rules in
    let e = to_z-of_z w128 c.image_number.result fits in
    let h : c.push.new.self.items ≡ c.loop-j.all.items ++ c.image_number.result ∷ [] = rw e at c.push.ensures.items in
    let k = row_more (rows d c.args.u.now) (get_or (rows d c.args.u.now) c.loop-i.i []) c.args.normal.now c.loop-j.all.items _ _ c.image_number.result c.loop-j.j (omega (arith, l)) c.image_number.ensures c.loop-j.invariant in
    rw h k

pub loop-i-preserved : goal.loop-i-preserved
loop-i-preserved c =
    let l = length-first_rows c.args.d c.args.d c.args.u.now in
    row_ends (rows c.args.d c.args.u.now) _ c.args.normal.now c.loop-j.all.items _ _ c.loop-j.j (omega (arith, l)) c.loop-j.invariant

pub returns : goal.returns
returns c =
    let l = length-first_rows c.args.d c.args.d c.args.u.now in
    rows_end (rows c.args.d c.args.u.now) c.args.normal.now c.loop-i.all.items _ c.loop-i.i (omega (arith, l)) c.loop-i.invariant
