use Rattle.std.proofs.Common.{◌++◌}
use Rattle.std.specs.Prelude.{codes}
use Rattle.std.proofs.lemmas.Result.{err_from_is_err_and}
use Rattle.lt_io.proofs.Compose.{wrote_front, wrote_then, front_of_more, appended_then, appended_then_front}
use Rattle.lt_lines.specs.Lines.{line}
use Rattle.lt_text.specs.Texts.{start}
use Rattle.ltypes.proofs.sections.write_dead.Goals as goal

pub returns-in_err-start_with-clause-bytes : goal.returns-in_err-start_with-clause-bytes
returns-in_err-start_with-clause-bytes g c =
    let A0 = start (codes "dead") c.args.normal.now.items in
    let A1 = start (codes " at") c.args.at.now.items in
    let A2 = start (codes " form") c.args.form.now in
    let A3 = line (codes " vector") c.args.x.now in
    let p = err_from_is_err_and c.from_residual.result c.from_residual.ensures.1 in
    wrote_front _ _ _ _ _ p.1 (front_of_more _ _ (A0 ++ A1 ++ A2) A3 (front_of_more _ _ (A0 ++ A1) A2 (front_of_more _ _ (A0) A1 c.in_err-start_with.ensures.bytes.front)))

pub returns-in_err-start_with-2-clause-bytes : goal.returns-in_err-start_with-2-clause-bytes
returns-in_err-start_with-2-clause-bytes g c =
    let A0 = start (codes "dead") c.args.normal.now.items in
    let A1 = start (codes " at") c.args.at.now.items in
    let A2 = start (codes " form") c.args.form.now in
    let A3 = line (codes " vector") c.args.x.now in
    let p = err_from_is_err_and c.from_residual-in_err-start_with-2.result c.from_residual-in_err-start_with-2.ensures.1 in
    wrote_front _ _ _ _ _ p.1 (front_of_more _ _ (A0 ++ A1 ++ A2) A3 (front_of_more _ _ (A0 ++ A1) A2 (appended_then_front _ _ _ (A0) A1 c.in_ok-start_with.ensures.bytes.whole c.in_err-start_with-2.ensures.bytes.front)))

pub returns-in_err-start_form-clause-bytes : goal.returns-in_err-start_form-clause-bytes
returns-in_err-start_form-clause-bytes g c =
    let A0 = start (codes "dead") c.args.normal.now.items in
    let A1 = start (codes " at") c.args.at.now.items in
    let A2 = start (codes " form") c.args.form.now in
    let A3 = line (codes " vector") c.args.x.now in
    let p = err_from_is_err_and c.from_residual-in_err-start_form.result c.from_residual-in_err-start_form.ensures.1 in
    wrote_front _ _ _ _ _ p.1 (front_of_more _ _ (A0 ++ A1 ++ A2) A3 (appended_then_front _ _ _ (A0 ++ A1) A2 (appended_then _ _ _ (A0) A1 c.in_ok-start_with.ensures.bytes.whole c.in_ok-start_with-2.ensures.bytes.whole) c.in_err-start_form.ensures.bytes.front))

pub returns-clause-bytes : goal.returns-clause-bytes
returns-clause-bytes g c =
    let A0 = start (codes "dead") c.args.normal.now.items in
    let A1 = start (codes " at") c.args.at.now.items in
    let A2 = start (codes " form") c.args.form.now in
    let A3 = line (codes " vector") c.args.x.now in
    wrote_then _ _ _ _ (A0 ++ A1 ++ A2) A3 (appended_then _ _ _ (A0 ++ A1) A2 (appended_then _ _ _ (A0) A1 c.in_ok-start_with.ensures.bytes.whole c.in_ok-start_with-2.ensures.bytes.whole) c.in_ok-start_form.ensures.bytes.whole) c.write_named_point.ensures.bytes
