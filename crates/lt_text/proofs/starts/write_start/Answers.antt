use Rattle.std.proofs.lemmas.Result.{err_from_is_err_and}
use Rattle.lt_io.proofs.Compose.{wrote_front, wrote_then, front_of_more}
use Rattle.lt_lines.specs.Lines.{behind_spaces}
use Rattle.lt_text.proofs.starts.write_start.Goals as goal

pub returns-in_err-write_all-clause-bytes : goal.returns-in_err-write_all-clause-bytes
returns-in_err-write_all-clause-bytes g c =
    let p = err_from_is_err_and c.from_residual.result c.from_residual.ensures.1 in
    wrote_front _ _ _ _ _ p.1 (front_of_more _ _ c.args.word.now (behind_spaces c.args.numbers.now) c.in_err-write_all.ensures.bytes.front)

pub returns-clause-bytes : goal.returns-clause-bytes
returns-clause-bytes g c = wrote_then _ _ _ _ c.args.word.now (behind_spaces c.args.numbers.now) c.in_ok-write_all.ensures.bytes.whole c.write_part.ensures.bytes
