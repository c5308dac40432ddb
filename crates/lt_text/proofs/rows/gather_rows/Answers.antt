use Rattle.std.proofs.Common.{arith}
use Rattle.std.proofs.lemmas.Result.{err_from_is_err_and}
use Rattle.lt_text.specs.Texts.{row_line}
use Rattle.lt_text.proofs.Composed.{gathered_front}
use Rattle.lt_text.proofs.Loops.{front_in_pieces, one_piece_more}
use Rattle.lt_text.proofs.rows.gather_rows.Goals as goal

pub returns-in_err-gather-clause-bytes : goal.returns-in_err-gather-clause-bytes
returns-in_err-gather-clause-bytes g c =
    let p = err_from_is_err_and c.from_residual.result c.from_residual.ensures.1 in
    gathered_front _ _ _ _ _ _ _ p.1 (front_in_pieces row_line _ _ _ _ _ c.args.rows.now c.loop-row.row-index c.row-item.result _ c.loop-row-test.true c.row-item.is c.loop-row.invariant.so_far c.in_err-gather.ensures.bytes.front)

pub loop-row-preserved : goal.loop-row-preserved
loop-row-preserved g c = record {
  so_far = one_piece_more row_line _ _ _ _ _ _ c.args.rows.now c.loop-row.row-index c.row-item.result _ c.loop-row-test.true c.row-item.is c.loop-row.invariant.so_far c.in_ok-gather.ensures.bytes.whole;
  later = omega (arith, c.loop-row.invariant.later, c.in_ok-gather.ensures.cause.later);
}
