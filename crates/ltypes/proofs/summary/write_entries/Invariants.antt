use Rattle.std.proofs.Common.{◌≤◌}
use Rattle.std.specs.Io.KnownBytes.{Appends}
use Rattle.ltypes.specs.Summaries.{entry_summaries}
use Rattle.ltypes.proofs.summary.write_entries.Given as goal

abbrev pub invariant-loop-k : goal.invariant-loop-k
invariant-loop-k g l = record {
  so_far : Appends (g.K.Sink.held l.initial.out) (g.K.Sink.held l.out) (entry_summaries l.atlas l.k);
  later : g.K.Sink.faults l.initial.out ≤ g.K.Sink.faults l.out;
}
