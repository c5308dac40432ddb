use Rattle.std.proofs.Common.{ap, ◌∙◌}
use Rattle.std.specs.Prelude.{codes}
use Rattle.std.proofs.lemmas.Result.{err_from_is_err_and}
use Rattle.lt_lines.specs.Lines.{line}
use Rattle.lt_model.specs.Cones.{Cone}
use Rattle.lt_text.specs.Texts.{rows_text}
use Rattle.lt_text.proofs.Composed.{two_fronts, two_parts}
use Rattle.lt_text.proofs.rows.gather_cone.Goals as goal

pub returns-in_err-gather_regulators-clause-bytes : goal.returns-in_err-gather_regulators-clause-bytes
returns-in_err-gather_regulators-clause-bytes g c =
    let p = err_from_is_err_and c.from_residual.result c.from_residual.ensures.1 in
    two_fronts _ _ _ _ _ _ _ (rows_text c.args.cone.now.rows) (line (codes "form") c.args.cone.now.form) p.1 (ap rows_text (c.as_slice.ensures.value ∙ ap (λ (z : Cone). z.rows) c.cone.view_is)) c.in_err-gather_regulators.ensures.bytes.front

pub returns-clause-bytes : goal.returns-clause-bytes
returns-clause-bytes g c =
    two_parts _ _ _ _ _ _ _ _ _ (rows_text c.args.cone.now.rows) (line (codes "form") c.args.cone.now.form) (ap rows_text (c.as_slice.ensures.value ∙ ap (λ (z : Cone). z.rows) c.cone.view_is)) (ap (line (codes "form")) (c.numbers.ensures.value ∙ ap (λ (z : Cone). z.form) c.cone.view_is)) c.in_ok-gather_regulators.ensures.bytes.whole c.gather_line.ensures.bytes
