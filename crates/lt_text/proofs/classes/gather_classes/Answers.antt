use Rattle.std.proofs.Common.{◌<◌, length, [], arith}
use Rattle.std.proofs.lemmas.Result.{err_from_is_err_and}
use Rattle.lt_text.specs.Texts.{class_line}
use Rattle.lt_text.proofs.Composed.{gathered_front}
use Rattle.lt_text.proofs.Loops.{front_in_pieces, one_piece_more}
use Rattle.lt_text.proofs.classes.gather_classes.Goals as goal

pub returns-in_err-gather-clause-bytes : goal.returns-in_err-gather-clause-bytes
returns-in_err-gather-clause-bytes g c =
    let p = err_from_is_err_and c.from_residual.result c.from_residual.ensures.1 in
    let lt : c.loop-i.i < length c.args.triangulation.now = omega arith in
    gathered_front _ _ _ _ _ _ _ p.1 (front_in_pieces class_line _ _ _ _ _ c.args.triangulation.now c.loop-i.i c.class.result.now [] lt c.class.ensures c.loop-i.invariant.so_far c.in_err-gather.ensures.bytes.front)

pub loop-i-preserved : goal.loop-i-preserved
loop-i-preserved g c =
    let lt : c.loop-i.i < length c.args.triangulation.now = omega arith in
    record {
      so_far = one_piece_more class_line _ _ _ _ _ _ c.args.triangulation.now c.loop-i.i c.class.result.now [] lt c.class.ensures c.loop-i.invariant.so_far c.in_ok-gather.ensures.bytes.whole;
      later = omega (arith, c.loop-i.invariant.later, c.in_ok-gather.ensures.cause.later);
    }
