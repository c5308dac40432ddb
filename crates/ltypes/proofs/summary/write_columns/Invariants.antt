use Rattle.std.proofs.Common.{◌≤◌, take}
use Rattle.std.specs.Io.KnownBytes.{Appends}
use Rattle.ltypes.specs.Summaries.{columns}
use Rattle.ltypes.proofs.summary.write_columns.Given as goal

abbrev pub invariant-loop-width : goal.invariant-loop-width
invariant-loop-width g l = record {
  so_far : Appends (g.K.Sink.held l.initial.out) (g.K.Sink.held l.out) (columns (take l.width-index l.numbers));
  later : g.K.Sink.faults l.initial.out ≤ g.K.Sink.faults l.out;
}
