use Rattle.std.proofs.Common.{ℤ, List, pos, ◌∷◌, subst, ◌∙◌, sym}
use Rattle.std.specs.Prelude.{codes}
use Rattle.lt_io.specs.Bytes.{Wrote}
use Rattle.lt_lines.specs.Lines.{line}
use Rattle.lt_core.proofs.Standing.{flat-matrix_rows}
use Rattle.lt_text.proofs.marks.write_cross.Goals as goal

pub returns-clause-bytes : goal.returns-clause-bytes
returns-clause-bytes g c =
    let d = c.dimension-dimension.ensures in
    subst (λ (zs : List ℤ). Wrote (g.K.Sink.held c.args.out.now) (g.K.Sink.held c.write_list.new.out) c.write_list.result (line (codes "cross") (pos c.args.target ∷ zs))) (c.numbers.ensures.value ∙ sym (flat-matrix_rows c.dimension-dimension.result c.args.matrix.now d.low d.high d.value)) c.write_list.ensures.bytes
