use Rattle.std.proofs.lemmas.Result.{err_from_is_err_and}
use Rattle.std.proofs.Common.{[]}
use Rattle.lt_text.proofs.Composed.{front_of_all, gathered_front, gathered_then}
use Rattle.lt_text.proofs.gathering.gather.Goals as goal

pub returns-in_err-make_room-clause-bytes : goal.returns-in_err-make_room-clause-bytes
returns-in_err-make_room-clause-bytes g c =
    let p = err_from_is_err_and c.from_residual.result c.from_residual.ensures.1 in
    gathered_front _ _ _ _ _ _ _ p.1 (front_of_all _ _ _ [] (g.L.Line.text c.args.line.now) c.in_err-make_room.ensures.bytes.front)

pub returns-clause-bytes : goal.returns-clause-bytes
returns-clause-bytes g c = gathered_then _ _ _ _ _ _ _ [] (g.L.Line.text c.args.line.now) c.in_ok-make_room.ensures.bytes.whole c.add.ensures.bytes
