use Rattle.lt_core.proofs.Standing.{flat-matrix_rows, same_crosses}
use Rattle.lt_core.proofs.beginnings.same_cross.Goals as goal

pub returns-then-target-other : goal.returns-then-target-other
returns-then-target-other c =
    let mine = c.dimension-rows.ensures in
    let theirs = c.dimension-their_rows.ensures in
    same_crosses c.args.target c.args.other c.args.matrix.now c.args.theirs.now c.eq.result
    (flat-matrix_rows c.dimension-rows.result c.args.matrix.now mine.low mine.high mine.value)
    (flat-matrix_rows c.dimension-their_rows.result c.args.theirs.now theirs.low theirs.high theirs.value)
    c.if-target-other.true c.eq.ensures
