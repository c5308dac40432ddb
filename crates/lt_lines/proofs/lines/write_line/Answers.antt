use Rattle.std.proofs.Common.{[], ◌∷◌, ◌++◌}
use Rattle.std.proofs.lemmas.Result.{err_from_is_err_and}
use Rattle.lt_io.proofs.Compose.{wrote_front, wrote_then, front_of_more, appended_then, appended_then_front}
use Rattle.lt_lines.specs.Lines.{behind_spaces}
use Rattle.lt_lines.proofs.lines.write_line.Goals as goal

pub returns-in_err-write_all-clause-bytes : goal.returns-in_err-write_all-clause-bytes
returns-in_err-write_all-clause-bytes g c =
    let p = err_from_is_err_and c.from_residual.result c.from_residual.ensures.1 in
    let numbers = behind_spaces c.args.numbers.now in
    wrote_front _ _ _ _ _ p.1 (front_of_more _ _ (c.args.word.now ++ numbers) (10 ∷ []) (front_of_more _ _ c.args.word.now numbers c.in_err-write_all.ensures.bytes.front))

pub returns-in_err-write_part-clause-bytes : goal.returns-in_err-write_part-clause-bytes
returns-in_err-write_part-clause-bytes g c =
    let p = err_from_is_err_and c.from_residual-in_err-write_part.result c.from_residual-in_err-write_part.ensures.1 in
    let numbers = behind_spaces c.args.numbers.now in
    wrote_front _ _ _ _ _ p.1 (front_of_more _ _ (c.args.word.now ++ numbers) (10 ∷ []) (appended_then_front _ _ _ c.args.word.now numbers c.in_ok-write_all.ensures.bytes.whole c.in_err-write_part.ensures.bytes.front))

pub returns-clause-bytes : goal.returns-clause-bytes
returns-clause-bytes g c =
    let numbers = behind_spaces c.args.numbers.now in
    wrote_then _ _ _ _ (c.args.word.now ++ numbers) (10 ∷ []) (appended_then _ _ _ c.args.word.now numbers c.in_ok-write_all.ensures.bytes.whole c.in_ok-write_part.ensures.bytes.whole) c.write_all-2.ensures.bytes
