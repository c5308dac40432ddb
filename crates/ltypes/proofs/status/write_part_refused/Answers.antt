use Rattle.std.proofs.Common.{◌++◌}
use Rattle.std.specs.Prelude.{codes}
use Rattle.std.proofs.lemmas.Result.{err_from_is_err_and}
use Rattle.lt_io.proofs.Compose.{wrote_front, wrote_then, front_of_more, appended_then, appended_then_front}
use Rattle.ltypes.specs.Texts.{named, refusal_text}
use Rattle.ltypes.proofs.status.write_part_refused.Goals as goal

pub returns-in_err-write_named-clause-bytes : goal.returns-in_err-write_named-clause-bytes
returns-in_err-write_named-clause-bytes g c =
    let A0 = named (codes "part") c.args.part in
    let A1 = codes " " in
    let A2 = refusal_text c.args.refusal.now in
    let p = err_from_is_err_and c.from_residual.result c.from_residual.ensures.1 in
    wrote_front _ _ _ _ _ p.1 (front_of_more _ _ (A0 ++ A1) A2 (front_of_more _ _ (A0) A1 c.in_err-write_named.ensures.bytes.front))

pub returns-in_err-write_all-clause-bytes : goal.returns-in_err-write_all-clause-bytes
returns-in_err-write_all-clause-bytes g c =
    let A0 = named (codes "part") c.args.part in
    let A1 = codes " " in
    let A2 = refusal_text c.args.refusal.now in
    let p = err_from_is_err_and c.from_residual-in_err-write_all.result c.from_residual-in_err-write_all.ensures.1 in
    wrote_front _ _ _ _ _ p.1 (front_of_more _ _ (A0 ++ A1) A2 (appended_then_front _ _ _ (A0) A1 c.in_ok-write_named.ensures.bytes.whole c.in_err-write_all.ensures.bytes.front))

pub returns-clause-bytes : goal.returns-clause-bytes
returns-clause-bytes g c =
    let A0 = named (codes "part") c.args.part in
    let A1 = codes " " in
    let A2 = refusal_text c.args.refusal.now in
    wrote_then _ _ _ _ (A0 ++ A1) A2 (appended_then _ _ _ (A0) A1 c.in_ok-write_named.ensures.bytes.whole c.in_ok-write_all.ensures.bytes.whole) c.write_refusal.ensures.bytes
