use Rattle.std.proofs.Common.{ap}
use Rattle.std.proofs.lemmas.Result.{err_from_is_err_and}
use Rattle.lt_io.specs.Streams.{Waiting}
use Rattle.lt_text.proofs.Composed.{wrote_at_end, wrote_no_end}
use Rattle.lt_text.proofs.classes.write_triangulation.Goals as goal

pub returns-in_err-gather_triangulation-clause-bytes : goal.returns-in_err-gather_triangulation-clause-bytes
returns-in_err-gather_triangulation-clause-bytes g c =
    let p = err_from_is_err_and c.from_residual.result c.from_residual.ensures.1 in
    wrote_no_end _ _ _ _ _ _ p.1 (ap (λ (b : Waiting). b.held) c.new-block.ensures) c.in_err-gather_triangulation.ensures.bytes.front

pub returns-clause-bytes : goal.returns-clause-bytes
returns-clause-bytes g c = wrote_at_end _ _ _ _ _ _ _ (ap (λ (b : Waiting). b.held) c.new-block.ensures) c.in_ok-gather_triangulation.ensures.bytes.whole c.pass_on.ensures.bytes
