use Rattle.std.proofs.Common.{ℕ, List, subst}
use Rattle.lt_io.specs.Bytes.{Wrote}
use Rattle.ltypes.proofs.Summed.{same_totals}
use Rattle.ltypes.proofs.totals.write_totals.Goals as goal

pub returns-clause-bytes : goal.returns-clause-bytes
returns-clause-bytes g c =
    let t = c.totals_of.ensures in
    subst (λ (l : List ℕ). Wrote (g.K.Sink.held c.args.out.now) (g.K.Sink.held c.write_numbers.new.out) c.write_numbers.result l)
    (same_totals c.args.word.now _ _ _ _ _ _ _ _ t.entries t.facets t.crossed t.undecided) c.write_numbers.ensures.bytes
