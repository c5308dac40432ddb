use Rattle.std.proofs.Common.{ℤ, [], ◌∷◌, subst, arith}
use Rattle.std.specs.Int.{w128}
use Rattle.std.proofs.lemmas.Int.{to_z_pos}
use Rattle.lt_io.specs.Bytes.{Wrote}
use Rattle.lt_text.specs.Texts.{start}
use Rattle.lt_text.proofs.starts.write_counted.Goals as goal

pub returns-clause-bytes : goal.returns-clause-bytes
returns-clause-bytes g c = subst (λ (z : ℤ). Wrote (g.K.Sink.held c.args.out.now) (g.K.Sink.held c.write_start.new.out) c.write_start.result (start c.args.word.now (z ∷ []))) (to_z_pos w128 c.args.count (omega arith)) c.write_start.ensures.bytes
