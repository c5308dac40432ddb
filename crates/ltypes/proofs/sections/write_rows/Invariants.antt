use Rattle.std.proofs.Common.{◌≤◌, take}
use Rattle.std.specs.Io.KnownBytes.{Appends}
use Rattle.std.specs.List.{flat_map}
use Rattle.ltypes.specs.Sections.{section_row_line}
use Rattle.ltypes.proofs.sections.write_rows.Given as goal

abbrev pub invariant-loop-row : goal.invariant-loop-row
invariant-loop-row g l = record {
  so_far : Appends (g.K.Sink.held l.initial.out) (g.K.Sink.held l.out) (flat_map section_row_line (take l.row-index l.rows));
  later : g.K.Sink.faults l.initial.out ≤ g.K.Sink.faults l.out;
}
