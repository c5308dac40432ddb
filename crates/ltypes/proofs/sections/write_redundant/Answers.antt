use Rattle.std.specs.Prelude.{codes}
use Rattle.std.proofs.lemmas.Result.{err_from_is_err_and}
use Rattle.lt_io.proofs.Compose.{wrote_front, wrote_then, front_of_more}
use Rattle.lt_text.specs.Texts.{start, combination_part}
use Rattle.ltypes.proofs.sections.write_redundant.Goals as goal

pub returns-in_err-start_with-clause-bytes : goal.returns-in_err-start_with-clause-bytes
returns-in_err-start_with-clause-bytes g c =
    let A0 = start (codes "redundant") c.args.normal.now.items in
    let A1 = combination_part c.args.scale.now c.args.terms.now.items in
    let p = err_from_is_err_and c.from_residual.result c.from_residual.ensures.1 in
    wrote_front _ _ _ _ _ p.1 (front_of_more _ _ (A0) A1 c.in_err-start_with.ensures.bytes.front)

pub returns-clause-bytes : goal.returns-clause-bytes
returns-clause-bytes g c =
    let A0 = start (codes "redundant") c.args.normal.now.items in
    let A1 = combination_part c.args.scale.now c.args.terms.now.items in
    wrote_then _ _ _ _ (A0) A1 c.in_ok-start_with.ensures.bytes.whole c.write_terms.ensures.bytes
