use Rattle.std.proofs.Common.{ℤ, pos, [], ◌∷◌, arith, subst}
use Rattle.std.specs.Int.{w128}
use Rattle.std.proofs.lemmas.Int.{to_z_pos}
use Rattle.std.proofs.lemmas.Result.{err_from_is_err_and}
use Rattle.lt_io.specs.Bytes.{Wrote}
use Rattle.lt_io.proofs.Compose.{wrote_front, wrote_then, front_of_more}
use Rattle.lt_lines.specs.Lines.{behind_spaces}
use Rattle.ltypes.proofs.printed.write_named.Goals as goal

pub returns-in_err-write_all-clause-bytes : goal.returns-in_err-write_all-clause-bytes
returns-in_err-write_all-clause-bytes g c =
    let p = err_from_is_err_and c.from_residual.result c.from_residual.ensures.1 in
    wrote_front _ _ _ _ _ p.1 (front_of_more _ _ c.args.word.now (behind_spaces (pos c.args.count ∷ [])) c.in_err-write_all.ensures.bytes.front)

pub returns-clause-bytes : goal.returns-clause-bytes
returns-clause-bytes g c =
    wrote_then _ _ _ _ c.args.word.now (behind_spaces (pos c.args.count ∷ [])) c.in_ok-write_all.ensures.bytes.whole
    (subst (λ (z : ℤ). Wrote (g.K.Sink.held c.write_all.new.sink) (g.K.Sink.held c.write_part.new.sink) c.write_part.result (behind_spaces (z ∷ []))) (to_z_pos w128 c.args.count (omega arith)) c.write_part.ensures.bytes)
