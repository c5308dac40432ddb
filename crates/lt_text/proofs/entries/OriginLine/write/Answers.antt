use Rattle.std.proofs.Common.{pos, [], ◌∷◌}
use Rattle.std.specs.Prelude.{codes}
use Rattle.lt_model.specs.Atlases.{place_of}
use Rattle.lt_text.specs.Texts.{start, origin_part}
use Rattle.std.proofs.lemmas.Result.{err_from_is_err_and}
use Rattle.lt_io.proofs.Compose.{wrote_front, wrote_then, front_of_more}
use Rattle.lt_text.proofs.entries.OriginLine.write.Goals as goal

pub returns-in_err-write_counted-clause-bytes : goal.returns-in_err-write_counted-clause-bytes
returns-in_err-write_counted-clause-bytes g c =
    let p = err_from_is_err_and c.from_residual.result c.from_residual.ensures.1 in
    wrote_front _ _ _ _ _ p.1 (front_of_more _ _ (start (codes "entry") (pos c.args.self.now.number ∷ [])) (origin_part (place_of c.args.self.now.from)) c.in_err-write_counted.ensures.bytes.front)

pub returns-clause-bytes : goal.returns-clause-bytes
returns-clause-bytes g c = wrote_then _ _ _ _ (start (codes "entry") (pos c.args.self.now.number ∷ [])) (origin_part (place_of c.args.self.now.from)) c.in_ok-write_counted.ensures.bytes.whole c.write_origin.ensures.bytes
