use Rattle.std.proofs.Common.{ℕ, ℤ, List, [], ◌++◌, subst}
use Rattle.std.specs.Prelude.{codes}
use Rattle.std.proofs.lemmas.Result.{err_from_is_err_and}
use Rattle.lt_io.specs.Bytes.{Wrote}
use Rattle.lt_io.proofs.Compose.{wrote_front, wrote_then, front_of_more, appended_then, appended_then_front}
use Rattle.lt_lines.specs.Lines.{line}
use Rattle.ltypes.specs.Texts.{named}
use Rattle.ltypes.proofs.refused.write_twin.Goals as goal

abbrev first : ℕ → List ℕ
first i = named (codes "refused: twin") i

abbrev second : ℕ → List ℕ
second j = named [] j

pub returns-in_err-write_named-clause-bytes : goal.returns-in_err-write_named-clause-bytes
returns-in_err-write_named-clause-bytes g c =
    let p = err_from_is_err_and c.from_residual.result c.from_residual.ensures.1 in
    wrote_front _ _ _ _ _ p.1
    (front_of_more _ _ (first c.args.i ++ second c.args.j) (line [] c.args.matrix.now) (front_of_more _ _ (first c.args.i) (second c.args.j) c.in_err-write_named.ensures.bytes.front))

pub returns-in_err-write_named-2-clause-bytes : goal.returns-in_err-write_named-2-clause-bytes
returns-in_err-write_named-2-clause-bytes g c =
    let p = err_from_is_err_and c.from_residual-in_err-write_named-2.result c.from_residual-in_err-write_named-2.ensures.1 in
    wrote_front _ _ _ _ _ p.1
    (front_of_more _ _ (first c.args.i ++ second c.args.j) (line [] c.args.matrix.now) (appended_then_front _ _ _ (first c.args.i) (second c.args.j) c.in_ok-write_named.ensures.bytes.whole c.in_err-write_named-2.ensures.bytes.front))

pub returns-clause-bytes : goal.returns-clause-bytes
returns-clause-bytes g c =
    wrote_then _ _ _ _ (first c.args.i ++ second c.args.j) (line [] c.args.matrix.now) (appended_then _ _ _ (first c.args.i) (second c.args.j) c.in_ok-write_named.ensures.bytes.whole c.in_ok-write_named-2.ensures.bytes.whole)
    (subst (λ (l : List ℤ). Wrote (g.E.Sink.held c.write_named-2.new.out) (g.E.Sink.held c.write_line.new.sink) c.write_line.result (line [] l)) c.numbers.ensures.value c.write_line.ensures.bytes)
