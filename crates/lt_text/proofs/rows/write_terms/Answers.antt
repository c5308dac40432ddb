use Rattle.std.proofs.Common.{ℕ, ℤ, List, pos, [], ◌∷◌, length, ap, ◌∙◌, rules, FitsSigned}
use Rattle.std.specs.Prelude.{codes}
use Rattle.std.proofs.lemmas.Result.{err_from_is_err_and}
use Rattle.std.specs.Int.{w128}
use Rattle.std.proofs.lemmas.Int.{to_z-of_z}
use Rattle.lt_lines.specs.Lines.{line}
use Rattle.lt_text.specs.Texts.{start, term_numbers}
use Rattle.lt_text.proofs.Composed.{first_front, both_written}
use Rattle.lt_text.proofs.rows.write_terms.Goals as goal

pub returns-in_err-write_start-clause-bytes : goal.returns-in_err-write_start-clause-bytes
returns-in_err-write_start-clause-bytes g c =
    let p = err_from_is_err_and c.from_residual.result c.from_residual.ensures.1 in
    let fits : FitsSigned w128 c.args.scale.now = search rules in
    first_front _ _ _ _ _ (start (codes " scale") (c.args.scale.now ∷ [])) (line (codes " terms") (pos (length c.args.terms.now.items) ∷ term_numbers c.args.terms.now.items)) p.1 (ap (λ (z : ℤ). start (codes " scale") (z ∷ [])) (to_z-of_z w128 c.args.scale.now fits)) c.in_err-write_start.ensures.bytes.front

pub returns-clause-bytes : goal.returns-clause-bytes
returns-clause-bytes g c =
    let fits : FitsSigned w128 c.args.scale.now = search rules in
    both_written _ _ _ _ _ _ (start (codes " scale") (c.args.scale.now ∷ [])) (line (codes " terms") (pos (length c.args.terms.now.items) ∷ term_numbers c.args.terms.now.items)) (ap (λ (z : ℤ). start (codes " scale") (z ∷ [])) (to_z-of_z w128 c.args.scale.now fits)) (ap (λ (n : ℕ). line (codes " terms") (pos n ∷ c.as_slice.result.now)) c.len.ensures.value ∙ ap (λ (zs : List ℤ). line (codes " terms") (pos (length c.args.terms.now.items) ∷ zs)) (c.as_slice.ensures.value ∙ c.numbers_of.ensures)) c.in_ok-write_start.ensures.bytes.whole c.write_list.ensures.bytes
