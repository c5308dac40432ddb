use Rattle.std.proofs.Common.{◌≤◌, take}
use Rattle.std.specs.Io.KnownBytes.{Appends}
use Rattle.lt_lines.specs.Lines.{behind_spaces}
use Rattle.lt_lines.proofs.lines.write_part.Given as goal

abbrev pub invariant-loop-number : goal.invariant-loop-number
invariant-loop-number g l = record {
  so_far : Appends (g.K.Sink.held l.initial.sink) (g.K.Sink.held l.sink) (behind_spaces (take l.number-index l.numbers));
  later : g.K.Sink.faults l.initial.sink ≤ g.K.Sink.faults l.sink;
}
