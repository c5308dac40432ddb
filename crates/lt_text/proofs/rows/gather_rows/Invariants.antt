use Rattle.std.proofs.Common.{◌≤◌, take}
use Rattle.std.specs.List.{flat_map}
use Rattle.lt_text.specs.Gathered.{Gains}
use Rattle.lt_text.specs.Texts.{row_line}
use Rattle.lt_text.proofs.rows.gather_rows.Given as goal

abbrev pub invariant-loop-row : goal.invariant-loop-row
invariant-loop-row g l = record {
  so_far : Gains (g.K.Sink.held l.initial.out) (g.K.Sink.held l.out) l.initial.block.held l.block.held (flat_map row_line (take l.row-index l.rows));
  later : g.K.Sink.faults l.initial.out ≤ g.K.Sink.faults l.out;
}
