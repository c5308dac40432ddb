use Rattle.std.proofs.Common.{ℤ, pos, [], ◌∷◌, subst, arith}
use Rattle.std.specs.Prelude.{codes}
use Rattle.std.specs.Int.{w128}
use Rattle.std.proofs.lemmas.Int.{to_z_pos}
use Rattle.lt_io.specs.Bytes.{Wrote}
use Rattle.lt_lines.specs.Lines.{line}
use Rattle.lt_text.proofs.entries.write_from.Goals as goal

pub returns-clause-bytes : goal.returns-clause-bytes
returns-clause-bytes g c = subst (λ (z : ℤ). Wrote (g.K.Sink.held c.args.out.now) (g.K.Sink.held c.write_list.new.out) c.write_list.result (line (codes " from") (pos c.args.entry ∷ z ∷ []))) (to_z_pos w128 c.args.facet (omega arith)) c.write_list.ensures.bytes
