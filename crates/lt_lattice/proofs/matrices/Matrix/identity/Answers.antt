use Rattle.std.proofs.Common.{rules, arith, ◌≡◌, ◌∙◌, ap, ◌*◌, [], length, get_or}
use Rattle.std.proofs.lemmas.Int.{to_z-of_z}
use mir.Val.{SFits}
use mir.Syntax.{w128}
use Rattle.lt_model.specs.Matrices.{identity}
use Rattle.lt_model.proofs.Flat.{identity_square, length-flat}
use Rattle.lt_lattice.proofs.Filled.{fill_more, fill_done, fill_room, filled}
use Rattle.lt_lattice.proofs.Lengths.{square_length, at_most_36}
use Rattle.lt_lattice.proofs.Places.{square_row, identity_below}
use Rattle.lt_lattice.proofs.matrices.Matrix.identity.Goals as goal

pub push-requires : goal.push-requires
push-requires c =
    let d = c.args.d in
    let long : length (get_or (identity d) c.loop-i.i []) ≡ d = square_row d (identity d) c.loop-i.i (identity_square d) c.loop-i-test.true in
    let room = fill_room d (identity d) (get_or (identity d) c.loop-i.i []) _ c.loop-j.numbers.items c.loop-j.j (identity_square d) (omega (arith, long, c.loop-j-test.true)) c.loop-j.invariant in
    (omega arith, omega (arith, room, at_most_36 d c.requires.high))

pub loop-j-preserved : goal.loop-j-preserved
loop-j-preserved c =
    let d = c.args.d in
    let i = c.loop-i.i in
    let j = c.loop-j.j in
    let long : length (get_or (identity d) i []) ≡ d = square_row d (identity d) i (identity_square d) c.loop-i-test.true in
    let step = fill_more (get_or (identity d) i []) _ c.loop-j.numbers.items _ j (omega (arith, long, c.loop-j-test.true)) c.loop-j.invariant in
    let fits : SFits w128 c.identity_entry.result = search rules in
    rw (c.push.ensures.items, to_z-of_z w128 _ fits, c.identity_entry.ensures d c.loop-i-test.true) step

pub loop-i-preserved : goal.loop-i-preserved
loop-i-preserved c =
    let d = c.args.d in
    let long : length (get_or (identity d) c.loop-i.i []) ≡ d = square_row d (identity d) c.loop-i.i (identity_square d) c.loop-i-test.true in
    fill_done (get_or (identity d) c.loop-i.i []) _ c.loop-j.numbers.items _ c.loop-j.j (omega (arith, long, c.loop-j-test.false)) c.loop-j.invariant

pub invariant_of-result : goal.invariant_of-result
invariant_of-result c =
    let d = c.args.d in
    let square = identity_square d in
    let all = filled (identity d) c.loop-i.numbers.items _ c.loop-i.i (omega (arith, square.rows, c.loop-i-test.false)) c.loop-i.invariant in
    rw all (square_length d _ c.requires.low c.requires.high (length-flat d (identity d) square.columns ∙ ap (λ n. n * d) square.rows), identity_below d)

pub returns : goal.returns
returns c =
    let square = identity_square c.args.d in
    filled (identity c.args.d) c.loop-i.numbers.items _ c.loop-i.i (omega (arith, square.rows, c.loop-i-test.false)) c.loop-i.invariant
