use Rattle.std.proofs.Common.{sym, subst}
use Rattle.lt_io.specs.Bytes.{Wrote}
use Rattle.lt_read.specs.declared.refusals.Refusal.{Refusal}
use Rattle.ltypes.specs.Texts.{refusal_text}
use Rattle.ltypes.proofs.refused.write_refusal.Goals as goal

pub returns-in-BadCone-clause-bytes : goal.returns-in-BadCone-clause-bytes
returns-in-BadCone-clause-bytes g c =
    subst (λ (r : Refusal). Wrote (g.E.Sink.held c.args.err.now) (g.E.Sink.held c.write_pair.new.err) c.write_pair.result (refusal_text r)) (sym c.in-BadCone.is) c.write_pair.ensures.bytes
