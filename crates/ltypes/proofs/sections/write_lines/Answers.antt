use Rattle.std.proofs.Common.{pos, [], ◌∷◌, ◌++◌, length}
use Rattle.std.specs.Prelude.{codes}
use Rattle.std.specs.List.{flat_map}
use Rattle.std.proofs.lemmas.Result.{err_from_is_err_and}
use Rattle.lt_io.proofs.Compose.{wrote_front, wrote_then, front_of_more, appended_then, appended_then_front}
use Rattle.lt_lines.specs.Lines.{line}
use Rattle.ltypes.specs.Forms.{crossings_line}
use Rattle.ltypes.specs.Sections.{section_row_line, facets_line}
use Rattle.ltypes.proofs.sections.write_lines.Goals as goal

pub returns-in_err-write_count-clause-bytes : goal.returns-in_err-write_count-clause-bytes
returns-in_err-write_count-clause-bytes g c =
    let A0 = crossings_line c.args.located.now.crossed in
    let A1 = line (codes "rows") (pos (length c.args.rows.now) ∷ []) in
    let A2 = flat_map section_row_line c.args.rows.now in
    let A3 = facets_line c.args.rows.now in
    let p = err_from_is_err_and c.from_residual.result c.from_residual.ensures.1 in
    wrote_front _ _ _ _ _ p.1 (front_of_more _ _ (A0 ++ A1 ++ A2) A3 (front_of_more _ _ (A0 ++ A1) A2 (front_of_more _ _ (A0) A1 c.in_err-write_count.ensures.bytes.front)))

pub returns-in_err-write_count-2-clause-bytes : goal.returns-in_err-write_count-2-clause-bytes
returns-in_err-write_count-2-clause-bytes g c =
    let A0 = crossings_line c.args.located.now.crossed in
    let A1 = line (codes "rows") (pos (length c.args.rows.now) ∷ []) in
    let A2 = flat_map section_row_line c.args.rows.now in
    let A3 = facets_line c.args.rows.now in
    let p = err_from_is_err_and c.from_residual-in_err-write_count-2.result c.from_residual-in_err-write_count-2.ensures.1 in
    wrote_front _ _ _ _ _ p.1 (front_of_more _ _ (A0 ++ A1 ++ A2) A3 (front_of_more _ _ (A0 ++ A1) A2 (appended_then_front _ _ _ (A0) A1 c.in_ok-write_count.ensures.bytes.whole c.in_err-write_count-2.ensures.bytes.front)))

pub returns-in_err-write_rows-clause-bytes : goal.returns-in_err-write_rows-clause-bytes
returns-in_err-write_rows-clause-bytes g c =
    let A0 = crossings_line c.args.located.now.crossed in
    let A1 = line (codes "rows") (pos (length c.args.rows.now) ∷ []) in
    let A2 = flat_map section_row_line c.args.rows.now in
    let A3 = facets_line c.args.rows.now in
    let p = err_from_is_err_and c.from_residual-in_err-write_rows.result c.from_residual-in_err-write_rows.ensures.1 in
    wrote_front _ _ _ _ _ p.1 (front_of_more _ _ (A0 ++ A1 ++ A2) A3 (appended_then_front _ _ _ (A0 ++ A1) A2 (appended_then _ _ _ (A0) A1 c.in_ok-write_count.ensures.bytes.whole c.in_ok-write_count-2.ensures.bytes.whole) c.in_err-write_rows.ensures.bytes.front))

pub returns-clause-bytes : goal.returns-clause-bytes
returns-clause-bytes g c =
    let A0 = crossings_line c.args.located.now.crossed in
    let A1 = line (codes "rows") (pos (length c.args.rows.now) ∷ []) in
    let A2 = flat_map section_row_line c.args.rows.now in
    let A3 = facets_line c.args.rows.now in
    wrote_then _ _ _ _ (A0 ++ A1 ++ A2) A3 (appended_then _ _ _ (A0 ++ A1) A2 (appended_then _ _ _ (A0) A1 c.in_ok-write_count.ensures.bytes.whole c.in_ok-write_count-2.ensures.bytes.whole) c.in_ok-write_rows.ensures.bytes.whole) c.write_facets.ensures.bytes
