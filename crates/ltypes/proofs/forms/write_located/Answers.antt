use Rattle.std.proofs.Common.{pos, [], ◌∷◌}
use Rattle.std.specs.Prelude.{codes}
use Rattle.std.proofs.lemmas.Result.{err_from_is_err_and}
use Rattle.lt_io.proofs.Compose.{wrote_front, wrote_then, front_of_more}
use Rattle.lt_lines.specs.Lines.{line}
use Rattle.lt_text.specs.Texts.{triangulation_text}
use Rattle.ltypes.proofs.forms.write_located.Goals as goal

pub returns-in_err-write_count-clause-bytes : goal.returns-in_err-write_count-clause-bytes
returns-in_err-write_count-clause-bytes g c =
    let A0 = line (codes "located after") (pos c.args.located.now.crossed ∷ []) in
    let A1 = triangulation_text c.args.located.now.triangulation in
    let p = err_from_is_err_and c.from_residual.result c.from_residual.ensures.1 in
    wrote_front _ _ _ _ _ p.1 (front_of_more _ _ (A0) A1 c.in_err-write_count.ensures.bytes.front)

pub returns-clause-bytes : goal.returns-clause-bytes
returns-clause-bytes g c =
    let A0 = line (codes "located after") (pos c.args.located.now.crossed ∷ []) in
    let A1 = triangulation_text c.args.located.now.triangulation in
    wrote_then _ _ _ _ (A0) A1 c.in_ok-write_count.ensures.bytes.whole c.write_triangulation.ensures.bytes
