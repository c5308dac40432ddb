use Rattle.std.proofs.Common.{rules, arith, sym, ◌∙◌, ap, ◌<◌, ◌^◌, pos, length, refl}
use Rattle.std.proofs.lemmas.Int.{to_z-of_z}
use mir.Val.{SFits}
use mir.Syntax.{w128}
use Rattle.std.proofs.lemmas.List.{take_more, take_all}
use Rattle.lt_model.specs.Flat.{rows}
use Rattle.lt_model.specs.Matrices.{apply}
use Rattle.lt_model.proofs.Flat.{length-first_rows}
use Rattle.lt_model.proofs.Points.{length-apply}
use Rattle.lt_lattice.proofs.Places.{row_within, length_row, get-apply}
use Rattle.lt_lattice.proofs.matrices.image.Goals as goal

pub image_coordinate-requires-clause-same : goal.image_coordinate-requires-clause-same
image_coordinate-requires-clause-same c =
    rw c.row.ensures (length_row c.args.d c.loop-i.i c.args.u.now c.requires.count c.loop-i-test.true ∙ sym c.requires.same)

pub image_coordinate-requires-clause-within : goal.image_coordinate-requires-clause-within
image_coordinate-requires-clause-within c =
    rw c.row.ensures (row_within (2 ^ 62) c.args.d c.loop-i.i c.args.u.now c.requires.count c.loop-i-test.true c.requires.below)

pub loop-i-preserved : goal.loop-i-preserved
loop-i-preserved c =
    let d = c.args.d in
    let u = rows d c.args.u.now in
    let i = c.loop-i.i in
    let few : i < length u = omega (arith, length-first_rows d d c.args.u.now, c.loop-i-test.true) in
    let all : i < length (apply u c.args.x.now) = omega (arith, few, length-apply u c.args.x.now) in
    let fits : SFits w128 c.image_coordinate.result = search rules in
    rw (take_more (apply u c.args.x.now) i (pos 0) all, get-apply i u c.args.x.now few, c.push.ensures.items, c.loop-i.invariant, to_z-of_z w128 _ fits, c.image_coordinate.ensures, c.row.ensures) refl

pub returns-clause-value : goal.returns-clause-value
returns-clause-value c =
    let d = c.args.d in
    let u = rows d c.args.u.now in
    c.loop-i.invariant ∙ take_all c.loop-i.i (apply u c.args.x.now) (omega (arith, length-first_rows d d c.args.u.now, length-apply u c.args.x.now, c.loop-i-test.false))

pub returns-clause-count : goal.returns-clause-count
returns-clause-count c =
    let d = c.args.d in
    let u = rows d c.args.u.now in
    ap length (c.loop-i.invariant ∙ take_all c.loop-i.i (apply u c.args.x.now) (omega (arith, length-first_rows d d c.args.u.now, length-apply u c.args.x.now, c.loop-i-test.false)))
    ∙ length-apply u c.args.x.now ∙ length-first_rows d d c.args.u.now
