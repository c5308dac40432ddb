use Rattle.std.specs.Prelude.{codes}
use Rattle.std.proofs.lemmas.Result.{err_from_is_err_and}
use Rattle.lt_io.proofs.Compose.{wrote_front, wrote_then, front_of_more}
use Rattle.lt_core.specs.Marks.{mark_of}
use Rattle.ltypes.specs.Texts.{named, mark_part}
use Rattle.ltypes.proofs.status.write_stuck.Goals as goal

pub returns-in_err-write_named-clause-bytes : goal.returns-in_err-write_named-clause-bytes
returns-in_err-write_named-clause-bytes g c =
    let A0 = named (codes "merge stuck") c.args.entry in
    let A1 = mark_part (mark_of c.args.mark.now) in
    let p = err_from_is_err_and c.from_residual.result c.from_residual.ensures.1 in
    wrote_front _ _ _ _ _ p.1 (front_of_more _ _ (A0) A1 c.in_err-write_named.ensures.bytes.front)

pub returns-clause-bytes : goal.returns-clause-bytes
returns-clause-bytes g c =
    let A0 = named (codes "merge stuck") c.args.entry in
    let A1 = mark_part (mark_of c.args.mark.now) in
    wrote_then _ _ _ _ (A0) A1 c.in_ok-write_named.ensures.bytes.whole c.write_mark.ensures.bytes
