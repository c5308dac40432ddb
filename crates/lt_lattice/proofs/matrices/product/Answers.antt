use Rattle.std.proofs.Common.{rules, arith, ◌≡◌, ap, ◌∙◌, ◌*◌, [], length, get_or}
use Rattle.std.proofs.lemmas.Int.{to_z-of_z}
use mir.Val.{SFits}
use mir.Syntax.{w128}
use Rattle.lt_model.specs.Matrices.{times, IsSquare}
use Rattle.lt_model.specs.Flat.{rows}
use Rattle.lt_model.proofs.Flat.{rows_square, times_square, length-flat}
use Rattle.lt_lattice.proofs.Filled.{fill_more, fill_done, fill_room, filled}
use Rattle.lt_lattice.proofs.Lengths.{at_most_36}
use Rattle.lt_lattice.proofs.Places.{square_row}
use Rattle.lt_lattice.proofs.matrices.product.Goals as goal

pub push-requires : goal.push-requires
push-requires c =
    let d = c.args.d in
    let p = times (rows d c.args.u.now) (rows d c.args.v.now) in
    let square : IsSquare d p = times_square d _ _ (rows_square d _ c.requires.left) (rows_square d _ c.requires.right) in
    let long : length (get_or p c.loop-i.i []) ≡ d = square_row d p c.loop-i.i square c.loop-i-test.true in
    let room = fill_room d p (get_or p c.loop-i.i []) _ c.loop-j.all.items c.loop-j.j square (omega (arith, long, c.loop-j-test.true)) c.loop-j.invariant in
    (omega arith, omega (arith, room, at_most_36 d c.requires.few))

pub loop-j-preserved : goal.loop-j-preserved
loop-j-preserved c =
    let d = c.args.d in
    let p = times (rows d c.args.u.now) (rows d c.args.v.now) in
    let square : IsSquare d p = times_square d _ _ (rows_square d _ c.requires.left) (rows_square d _ c.requires.right) in
    let long : length (get_or p c.loop-i.i []) ≡ d = square_row d p c.loop-i.i square c.loop-i-test.true in
    let step = fill_more (get_or p c.loop-i.i []) _ c.loop-j.all.items _ c.loop-j.j (omega (arith, long, c.loop-j-test.true)) c.loop-j.invariant in
    let fits : SFits w128 c.entry.result = search rules in
    rw (c.push.ensures.items, to_z-of_z w128 _ fits, c.entry.ensures) step

pub loop-i-preserved : goal.loop-i-preserved
loop-i-preserved c =
    let d = c.args.d in
    let p = times (rows d c.args.u.now) (rows d c.args.v.now) in
    let square : IsSquare d p = times_square d _ _ (rows_square d _ c.requires.left) (rows_square d _ c.requires.right) in
    let long : length (get_or p c.loop-i.i []) ≡ d = square_row d p c.loop-i.i square c.loop-i-test.true in
    fill_done (get_or p c.loop-i.i []) _ c.loop-j.all.items _ c.loop-j.j (omega (arith, long, c.loop-j-test.false)) c.loop-j.invariant

pub returns-clause-value : goal.returns-clause-value
returns-clause-value c =
    let d = c.args.d in
    let p = times (rows d c.args.u.now) (rows d c.args.v.now) in
    let square : IsSquare d p = times_square d _ _ (rows_square d _ c.requires.left) (rows_square d _ c.requires.right) in
    filled p c.loop-i.all.items _ c.loop-i.i (omega (arith, square.rows, c.loop-i-test.false)) c.loop-i.invariant

pub returns-clause-count : goal.returns-clause-count
returns-clause-count c =
    let d = c.args.d in
    let p = times (rows d c.args.u.now) (rows d c.args.v.now) in
    let square : IsSquare d p = times_square d _ _ (rows_square d _ c.requires.left) (rows_square d _ c.requires.right) in
    let all = filled p c.loop-i.all.items _ c.loop-i.i (omega (arith, square.rows, c.loop-i-test.false)) c.loop-i.invariant in
    ap length all ∙ length-flat d p square.columns ∙ ap (λ n. n * d) square.rows
