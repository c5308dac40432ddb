use Rattle.std.proofs.Common.{ℕ, List, [], ap, ◌∙◌}
use Rattle.std.specs.Prelude.{codes}
use Rattle.std.proofs.lemmas.Result.{err_from_is_err_and}
use Rattle.std.specs.Fmt.{decimal}
use Rattle.lt_io.proofs.Compose.{wrote_front, wrote_then, front_of_more}
use Rattle.lt_lines.specs.Lines.{line}
use Rattle.ltypes.proofs.Drilled.{told}
use Rattle.ltypes.proofs.status.write_weight.Goals as goal

pub returns-in_err-write_all-clause-bytes : goal.returns-in_err-write_all-clause-bytes
returns-in_err-write_all-clause-bytes g c =
    let p = err_from_is_err_and c.from_residual.result c.from_residual.ensures.1 in
    wrote_front _ _ _ _ _ p.1 (front_of_more _ _ (codes ": heavy ") (line (decimal c.args.weight) []) c.in_err-write_all.ensures.bytes.front)

pub returns-clause-bytes : goal.returns-clause-bytes
returns-clause-bytes g c =
    let same = ap (λ (l : List ℕ). line l []) (c.as_bytes.ensures.value ∙ c.format.ensures.text) in
    wrote_then _ _ _ _ (codes ": heavy ") (line (decimal c.args.weight) []) c.in_ok-write_all.ensures.bytes.whole (told _ _ _ _ _ same c.write_line.ensures.bytes)
