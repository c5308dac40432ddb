use Rattle.std.proofs.Common.{pos, [], ◌∷◌}
use Rattle.std.specs.Prelude.{codes}
use Rattle.std.proofs.lemmas.Result.{err_from_is_err_and}
use Rattle.lt_io.proofs.Compose.{wrote_front, wrote_then, front_of_more}
use Rattle.lt_lines.specs.Lines.{line}
use Rattle.ltypes.specs.Texts.{named}
use Rattle.ltypes.specs.Sections.{facets, dead}
use Rattle.ltypes.proofs.sections.write_facets.Goals as goal

pub returns-in_err-start_facets-clause-bytes : goal.returns-in_err-start_facets-clause-bytes
returns-in_err-start_facets-clause-bytes g c =
    let A0 = named (codes "facets") (facets c.args.rows.now) in
    let A1 = line (codes " dead") (pos (dead c.args.rows.now) ∷ []) in
    let p = err_from_is_err_and c.from_residual.result c.from_residual.ensures.1 in
    wrote_front _ _ _ _ _ p.1 (front_of_more _ _ (A0) A1 c.in_err-start_facets.ensures.bytes.front)

pub returns-clause-bytes : goal.returns-clause-bytes
returns-clause-bytes g c =
    let A0 = named (codes "facets") (facets c.args.rows.now) in
    let A1 = line (codes " dead") (pos (dead c.args.rows.now) ∷ []) in
    wrote_then _ _ _ _ (A0) A1 c.in_ok-start_facets.ensures.bytes.whole c.write_dead_facets.ensures.bytes
