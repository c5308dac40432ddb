use Rattle.std.proofs.lemmas.Result.{err_from_is_err_and}
use Rattle.lt_io.proofs.Compose.{wrote_front}
use Rattle.lt_lines.specs.Lines.{spaced}
use Rattle.lt_lines.proofs.Parts.{front_of_pieces}
use Rattle.lt_lines.proofs.lines.write_part.Goals as goal

pub returns-in_err-write_spaced-clause-bytes : goal.returns-in_err-write_spaced-clause-bytes
returns-in_err-write_spaced-clause-bytes g c =
    let p = err_from_is_err_and c.from_residual.result c.from_residual.ensures.1 in
    wrote_front _ _ _ _ _ p.1 (front_of_pieces spaced _ _ _ c.args.numbers.now c.loop-number.number-index _ c.loop-number-test.true c.loop-number.invariant.so_far c.in_err-write_spaced.ensures.bytes.front)
