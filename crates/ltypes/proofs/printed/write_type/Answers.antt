use Rattle.std.proofs.Common.{pos, [], ◌∷◌, ◌++◌}
use Rattle.std.specs.Prelude.{codes}
use Rattle.std.proofs.lemmas.Result.{err_from_is_err_and}
use Rattle.lt_io.proofs.Compose.{wrote_front, wrote_then, front_of_more, appended_then, appended_then_front}
use Rattle.lt_lines.specs.Lines.{line}
use Rattle.lt_text.specs.Texts.{triangulation_text}
use Rattle.ltypes.proofs.printed.write_type.Goals as goal

pub returns-in_err-write_count-clause-bytes : goal.returns-in_err-write_count-clause-bytes
returns-in_err-write_count-clause-bytes g c =
    let dimension = line (codes "dimension") (pos c.args.d ∷ []) in
    let form = line (codes "form") c.args.form.now in
    let p = err_from_is_err_and c.from_residual.result c.from_residual.ensures.1 in
    wrote_front _ _ _ _ _ p.1 (front_of_more _ _ (dimension ++ form) (triangulation_text c.args.triangulation.now) (front_of_more _ _ dimension form c.in_err-write_count.ensures.bytes.front))

pub returns-in_err-write_line-clause-bytes : goal.returns-in_err-write_line-clause-bytes
returns-in_err-write_line-clause-bytes g c =
    let dimension = line (codes "dimension") (pos c.args.d ∷ []) in
    let form = line (codes "form") c.args.form.now in
    let p = err_from_is_err_and c.from_residual-in_err-write_line.result c.from_residual-in_err-write_line.ensures.1 in
    wrote_front _ _ _ _ _ p.1 (front_of_more _ _ (dimension ++ form) (triangulation_text c.args.triangulation.now) (appended_then_front _ _ _ dimension form c.in_ok-write_count.ensures.bytes.whole c.in_err-write_line.ensures.bytes.front))

pub returns-clause-bytes : goal.returns-clause-bytes
returns-clause-bytes g c =
    let dimension = line (codes "dimension") (pos c.args.d ∷ []) in
    let form = line (codes "form") c.args.form.now in
    wrote_then _ _ _ _ (dimension ++ form) (triangulation_text c.args.triangulation.now) (appended_then _ _ _ dimension form c.in_ok-write_count.ensures.bytes.whole c.in_ok-write_line.ensures.bytes.whole) c.write_triangulation.ensures.bytes
