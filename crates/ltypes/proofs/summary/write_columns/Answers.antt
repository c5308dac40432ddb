use Rattle.std.proofs.Common.{ℕ}
use Rattle.std.proofs.lemmas.Result.{err_from_is_err_and}
use Rattle.lt_io.proofs.Compose.{wrote_front}
use Rattle.lt_lines.specs.Lines.{right_in}
use Rattle.lt_lines.proofs.Parts.{front_of_pieces}
use Rattle.ltypes.proofs.summary.write_columns.Goals as goal

pub returns-in_err-write_right-clause-bytes : goal.returns-in_err-write_right-clause-bytes
returns-in_err-write_right-clause-bytes g c =
    let p = err_from_is_err_and c.from_residual.result c.from_residual.ensures.1 in
    wrote_front _ _ _ _ _ p.1 (front_of_pieces (λ (x : ℕ × ℕ). right_in x.0 x.1) _ _ _ c.args.numbers.now c.loop-width.width-index (0, 0) c.loop-width-test.true c.loop-width.invariant.so_far c.in_err-write_right.ensures.bytes.front)
