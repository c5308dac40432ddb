use Rattle.std.proofs.Common.{ℤ, [], ◌∷◌, subst, arith}
use Rattle.std.specs.Int.{w128}
use Rattle.std.proofs.lemmas.Int.{to_z_pos}
use Rattle.lt_lines.specs.Lines.{line}
use Rattle.lt_text.specs.Gathered.{Gathered}
use Rattle.lt_text.proofs.gathering.gather_count.Goals as goal

pub returns-clause-bytes : goal.returns-clause-bytes
returns-clause-bytes g c = subst (λ (z : ℤ). Gathered (g.K.Sink.held c.args.out.now) (g.K.Sink.held c.gather_line.new.out) c.args.block.now.held c.gather_line.new.block.held c.gather_line.result (line c.args.word.now (z ∷ []))) (to_z_pos w128 c.args.count (omega arith)) c.gather_line.ensures.bytes
