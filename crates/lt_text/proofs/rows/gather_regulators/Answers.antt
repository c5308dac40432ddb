use Rattle.std.proofs.Common.{pos, [], ◌∷◌, length}
use Rattle.std.specs.Prelude.{codes}
use Rattle.std.specs.List.{flat_map}
use Rattle.lt_lines.specs.Lines.{line}
use Rattle.lt_text.specs.Texts.{row_line}
use Rattle.std.proofs.lemmas.Result.{err_from_is_err_and}
use Rattle.lt_text.proofs.Composed.{front_of_all, gathered_front, gathered_then}
use Rattle.lt_text.proofs.rows.gather_regulators.Goals as goal

pub returns-in_err-gather_count-clause-bytes : goal.returns-in_err-gather_count-clause-bytes
returns-in_err-gather_count-clause-bytes g c =
    let p = err_from_is_err_and c.from_residual.result c.from_residual.ensures.1 in
    gathered_front _ _ _ _ _ _ _ p.1 (front_of_all _ _ _ (line (codes "regulators") (pos (length c.args.rows.now) ∷ [])) (flat_map row_line c.args.rows.now) c.in_err-gather_count.ensures.bytes.front)

pub returns-clause-bytes : goal.returns-clause-bytes
returns-clause-bytes g c = gathered_then _ _ _ _ _ _ _ (line (codes "regulators") (pos (length c.args.rows.now) ∷ [])) (flat_map row_line c.args.rows.now) c.in_ok-gather_count.ensures.bytes.whole c.gather_rows.ensures.bytes
