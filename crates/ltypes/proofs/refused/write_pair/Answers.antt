use Rattle.std.proofs.Common.{pos, [], ◌∷◌}
use Rattle.std.proofs.lemmas.Result.{err_from_is_err_and}
use Rattle.lt_io.proofs.Compose.{wrote_front, wrote_then, front_of_more}
use Rattle.lt_lines.specs.Lines.{line}
use Rattle.ltypes.specs.Texts.{named}
use Rattle.ltypes.proofs.refused.write_pair.Goals as goal

pub returns-in_err-write_named-clause-bytes : goal.returns-in_err-write_named-clause-bytes
returns-in_err-write_named-clause-bytes g c =
    let p = err_from_is_err_and c.from_residual.result c.from_residual.ensures.1 in
    wrote_front _ _ _ _ _ p.1 (front_of_more _ _ (named c.args.word.now c.args.first) (line [] (pos c.args.second ∷ [])) c.in_err-write_named.ensures.bytes.front)

pub returns-clause-bytes : goal.returns-clause-bytes
returns-clause-bytes g c = wrote_then _ _ _ _ (named c.args.word.now c.args.first) (line [] (pos c.args.second ∷ [])) c.in_ok-write_named.ensures.bytes.whole c.write_count.ensures.bytes
