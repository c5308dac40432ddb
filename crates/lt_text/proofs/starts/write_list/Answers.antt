use Rattle.std.proofs.Common.{pos, [], ◌∷◌, subst, List, ℕ}
use Rattle.std.proofs.lemmas.Result.{err_from_is_err_and}
use Rattle.lt_io.proofs.Compose.{wrote_front, wrote_then, front_of_more}
use Rattle.lt_io.specs.Bytes.{AppendsFront, Wrote}
use Rattle.lt_lines.specs.Lines.{line}
use Rattle.lt_text.specs.Texts.{start}
use Rattle.lt_text.proofs.Lists.{started_list}
use Rattle.lt_text.proofs.starts.write_list.Goals as goal

pub returns-in_err-write_counted-clause-bytes : goal.returns-in_err-write_counted-clause-bytes
returns-in_err-write_counted-clause-bytes g c =
    let p = err_from_is_err_and c.from_residual.result c.from_residual.ensures.1 in
    let front = front_of_more _ _ (start c.args.word.now (pos c.args.count ∷ [])) (line [] c.args.numbers.now) c.in_err-write_counted.ensures.bytes.front in
    wrote_front _ _ _ _ _ p.1 (subst (λ (l : List ℕ). AppendsFront (g.K.Sink.held c.args.out.now) (g.K.Sink.held c.write_counted.new.out) l) (started_list c.args.word.now (pos c.args.count) c.args.numbers.now) front)

pub returns-clause-bytes : goal.returns-clause-bytes
returns-clause-bytes g c =
    let all = wrote_then _ _ _ _ (start c.args.word.now (pos c.args.count ∷ [])) (line [] c.args.numbers.now) c.in_ok-write_counted.ensures.bytes.whole c.write_line.ensures.bytes in
    subst (λ (l : List ℕ). Wrote (g.K.Sink.held c.args.out.now) (g.K.Sink.held c.write_line.new.sink) c.write_line.result l) (started_list c.args.word.now (pos c.args.count) c.args.numbers.now) all
