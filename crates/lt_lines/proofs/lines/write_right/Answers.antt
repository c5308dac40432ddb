use Rattle.std.proofs.Common.{◌≡◌, ◌-◌, ◌∙◌, ap, take, length, List, ℕ}
use Rattle.std.specs.Prelude.{codes}
use Rattle.std.specs.Fmt.{decimal}
use Rattle.std.proofs.lemmas.Result.{err_from_is_err_and}
use Rattle.lt_io.proofs.Compose.{wrote_front, wrote_then, front_of_more}
use Rattle.lt_lines.proofs.lines.write_right.Goals as goal

pub returns-in_err-write_blanks-clause-bytes : goal.returns-in_err-write_blanks-clause-bytes
returns-in_err-write_blanks-clause-bytes g c =
    let p = err_from_is_err_and c.from_residual.result c.from_residual.ensures.1 in
    let blanks : List ℕ = take (c.args.width - length (decimal c.args.number)) (codes "                ") in
    let n : c.saturating_sub.result ≡ c.args.width - length (decimal c.args.number) = c.saturating_sub.ensures ∙ ap (λ (l : List ℕ). c.args.width - length l) c.format-text.ensures.text in
    wrote_front _ _ _ _ _ p.1 (front_of_more _ _ blanks (decimal c.args.number) (rw n at c.in_err-write_blanks.ensures.bytes.front))

pub returns-clause-bytes : goal.returns-clause-bytes
returns-clause-bytes g c =
    let blanks : List ℕ = take (c.args.width - length (decimal c.args.number)) (codes "                ") in
    let n : c.saturating_sub.result ≡ c.args.width - length (decimal c.args.number) = c.saturating_sub.ensures ∙ ap (λ (l : List ℕ). c.args.width - length l) c.format-text.ensures.text in
    let t : c.as_bytes.result.now ≡ decimal c.args.number = c.as_bytes.ensures.value ∙ c.format-text.ensures.text in
    wrote_then _ _ _ _ blanks (decimal c.args.number) (rw n at c.in_ok-write_blanks.ensures.bytes.whole) (rw t at c.write_all.ensures.bytes)
