use Rattle.std.proofs.Common.{◌≤◌, take}
use Rattle.std.specs.Io.KnownBytes.{Appends}
use Rattle.std.specs.List.{flat_map}
use Rattle.lt_lines.specs.Lines.{numbers_line}
use Rattle.ltypes.proofs.forms.write_lines.Given as goal

abbrev pub invariant-loop-vector : goal.invariant-loop-vector
invariant-loop-vector g l = record {
  so_far : Appends (g.K.Sink.held l.initial.out) (g.K.Sink.held l.out) (flat_map numbers_line (take l.vector-index l.vectors));
  later : g.K.Sink.faults l.initial.out ≤ g.K.Sink.faults l.out;
}
