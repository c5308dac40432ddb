use Rattle.std.proofs.Common.{arith}
use Rattle.std.proofs.lemmas.Result.{err_from_is_err_and}
use Rattle.lt_core.specs.Marks.{mark_of}
use Rattle.lt_text.specs.Texts.{mark_line}
use Rattle.lt_text.proofs.Composed.{gathered_front}
use Rattle.lt_text.proofs.Loops.{front_in_pieces, one_piece_more}
use Rattle.lt_text.proofs.marks.gather_each.Goals as goal

pub returns-in_err-gather-clause-bytes : goal.returns-in_err-gather-clause-bytes
returns-in_err-gather-clause-bytes g c =
    let p = err_from_is_err_and c.from_residual.result c.from_residual.ensures.1 in
    gathered_front _ _ _ _ _ _ _ p.1 (front_in_pieces (λ m. mark_line (mark_of m)) _ _ _ _ _ c.args.marks.now c.loop-mark.mark-index c.mark-item.result _ c.loop-mark-test.true c.mark-item.is c.loop-mark.invariant.so_far c.in_err-gather.ensures.bytes.front)

pub loop-mark-preserved : goal.loop-mark-preserved
loop-mark-preserved g c = record {
  so_far = one_piece_more (λ m. mark_line (mark_of m)) _ _ _ _ _ _ c.args.marks.now c.loop-mark.mark-index c.mark-item.result _ c.loop-mark-test.true c.mark-item.is c.loop-mark.invariant.so_far c.in_ok-gather.ensures.bytes.whole;
  later = omega (arith, c.loop-mark.invariant.later, c.in_ok-gather.ensures.cause.later);
}
