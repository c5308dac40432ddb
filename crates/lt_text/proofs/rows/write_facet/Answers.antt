use Rattle.std.proofs.Common.{ap}
use Rattle.std.specs.Prelude.{codes}
use Rattle.std.proofs.lemmas.Result.{err_from_is_err_and}
use Rattle.lt_lines.specs.Lines.{line}
use Rattle.lt_text.specs.Texts.{start}
use Rattle.lt_text.proofs.Composed.{first_front, both_written}
use Rattle.lt_text.proofs.rows.write_facet.Goals as goal

pub returns-in_err-write_start-clause-bytes : goal.returns-in_err-write_start-clause-bytes
returns-in_err-write_start-clause-bytes g c =
    let p = err_from_is_err_and c.from_residual.result c.from_residual.ensures.1 in
    first_front _ _ _ _ _ (start (codes "facet") c.args.normal.now) (line (codes " wall") c.args.form.now) p.1 (ap (start (codes "facet")) c.numbers.ensures.value) c.in_err-write_start.ensures.bytes.front

pub returns-clause-bytes : goal.returns-clause-bytes
returns-clause-bytes g c =
    both_written _ _ _ _ _ _ (start (codes "facet") c.args.normal.now) (line (codes " wall") c.args.form.now) (ap (start (codes "facet")) c.numbers.ensures.value) (ap (line (codes " wall")) c.numbers-2.ensures.value) c.in_ok-write_start.ensures.bytes.whole c.write_line.ensures.bytes
