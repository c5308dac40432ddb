use Rattle.std.proofs.Common.{List, ℕ, subst}
use Rattle.std.specs.Io.KnownBytes.{Appends}
use Rattle.std.proofs.lemmas.Result.{err_from_is_err_and}
use Rattle.lt_io.proofs.Compose.{front_of_more}
use Rattle.lt_io.specs.Bytes.{AppendsFront}
use Rattle.lt_text.proofs.Composed.{gathered_front, gathered_past, taken_back}
use Rattle.lt_text.proofs.gathering.add.Goals as goal

pub returns-in_err-pass_on-in-Err-clause-bytes : goal.returns-in_err-pass_on-in-Err-clause-bytes
returns-in_err-pass_on-in-Err-clause-bytes g c =
    let p = err_from_is_err_and c.from_residual.result c.from_residual.ensures.1 in
    let is = taken_back _ _ _ _ _ c.in-Err.ensures.bytes.front c.len-waiting.ensures c.cut.ensures in
    let front = subst (λ (l : List ℕ). AppendsFront (g.K.Sink.held c.args.out.now) (g.K.Sink.held c.pass_on.new.sink) l) is c.in_err-pass_on-in-Err.ensures.bytes.front in
    gathered_front _ _ _ _ _ _ _ p.1 (front_of_more _ _ c.args.block.now.held (g.L.Line.text c.args.line.now) front)

pub returns-in_ok-pass_on-in-Err-clause-bytes : goal.returns-in_ok-pass_on-in-Err-clause-bytes
returns-in_ok-pass_on-in-Err-clause-bytes g c =
    let is = taken_back _ _ _ _ _ c.in-Err.ensures.bytes.front c.len-waiting.ensures c.cut.ensures in
    let whole = subst (λ (l : List ℕ). Appends (g.K.Sink.held c.args.out.now) (g.K.Sink.held c.pass_on.new.sink) l) is c.in_ok-pass_on-in-Err.ensures.bytes.whole in
    gathered_past _ _ _ _ _ _ _ c.pass_on.ensures.none whole c.write-in-Err.ensures.bytes
