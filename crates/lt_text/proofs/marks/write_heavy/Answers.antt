use Rattle.std.proofs.Common.{ℕ, List, [], ap, refl, ◌∙◌}
use Rattle.std.specs.Prelude.{codes}
use Rattle.std.proofs.lemmas.Result.{err_from_is_err_and}
use Rattle.std.specs.Fmt.{decimal}
use Rattle.lt_lines.specs.Lines.{line}
use Rattle.lt_text.proofs.Composed.{first_front, both_written}
use Rattle.lt_text.proofs.marks.write_heavy.Goals as goal

pub returns-in_err-write_all-clause-bytes : goal.returns-in_err-write_all-clause-bytes
returns-in_err-write_all-clause-bytes g c =
    let p = err_from_is_err_and c.from_residual.result c.from_residual.ensures.1 in
    first_front _ _ _ _ _ (codes "heavy ") (line (decimal c.args.weight) []) p.1 refl c.in_err-write_all.ensures.bytes.front

pub returns-clause-bytes : goal.returns-clause-bytes
returns-clause-bytes g c =
    both_written _ _ _ _ _ _ (codes "heavy ") (line (decimal c.args.weight) []) refl (ap (λ (l : List ℕ). line l []) (c.as_bytes.ensures.value ∙ c.format.ensures.text)) c.in_ok-write_all.ensures.bytes.whole c.write_line.ensures.bytes
