use Rattle.std.proofs.Common.{ap, refl}
use Rattle.std.specs.Prelude.{codes}
use Rattle.std.proofs.lemmas.Result.{err_from_is_err_and}
use Rattle.lt_text.specs.Texts.{start, combination_part}
use Rattle.lt_text.proofs.Composed.{first_front, both_written}
use Rattle.lt_text.proofs.rows.write_redundant.Goals as goal

pub returns-in_err-write_start-clause-bytes : goal.returns-in_err-write_start-clause-bytes
returns-in_err-write_start-clause-bytes g c =
    let p = err_from_is_err_and c.from_residual.result c.from_residual.ensures.1 in
    first_front _ _ _ _ _ (start (codes "redundant") c.args.normal.now) (combination_part c.args.scale.now c.args.terms.now.items) p.1 (ap (start (codes "redundant")) c.numbers.ensures.value) c.in_err-write_start.ensures.bytes.front

pub returns-clause-bytes : goal.returns-clause-bytes
returns-clause-bytes g c =
    both_written _ _ _ _ _ _ (start (codes "redundant") c.args.normal.now) (combination_part c.args.scale.now c.args.terms.now.items) (ap (start (codes "redundant")) c.numbers.ensures.value) refl c.in_ok-write_start.ensures.bytes.whole c.write_terms.ensures.bytes
