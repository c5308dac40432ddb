use Rattle.std.proofs.Common.{ℤ, List, subst}
use Rattle.std.proofs.lemmas.Result.{err_from_is_err_and}
use Rattle.lt_io.specs.Bytes.{AppendsFront}
use Rattle.lt_io.proofs.Compose.{wrote_front}
use Rattle.lt_lines.specs.Lines.{numbers_line}
use Rattle.lt_lines.proofs.Parts.{front_of_pieces}
use Rattle.ltypes.proofs.forms.write_lines.Goals as goal

pub returns-in_err-write_point-clause-bytes : goal.returns-in_err-write_point-clause-bytes
returns-in_err-write_point-clause-bytes g c =
    let p = err_from_is_err_and c.from_residual.result c.from_residual.ensures.1 in
    wrote_front _ _ _ _ _ p.1 (front_of_pieces {X = List ℤ} numbers_line _ _ _ c.args.vectors.now c.loop-vector.vector-index c.vector-item.result c.loop-vector-test.true c.loop-vector.invariant.so_far (subst (λ (z : List ℤ). AppendsFront (g.K.Sink.held c.loop-vector.out) (g.K.Sink.held c.write_point.new.out) (numbers_line z)) c.vector-item.is c.in_err-write_point.ensures.bytes.front))
