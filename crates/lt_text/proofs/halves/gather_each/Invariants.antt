use Rattle.std.proofs.Common.{◌≤◌, take}
use Rattle.lt_model.specs.Negatives.{half}
use Rattle.lt_text.specs.Gathered.{Gains}
use Rattle.lt_text.specs.Texts.{class_lines}
use Rattle.lt_text.proofs.halves.gather_each.Given as goal

abbrev pub invariant-loop-i : goal.invariant-loop-i
invariant-loop-i g l = record {
  so_far : Gains (g.K.Sink.held l.initial.out) (g.K.Sink.held l.out) l.initial.block.held l.block.held (class_lines (half (take l.i l.triangulation)));
  later : g.K.Sink.faults l.initial.out ≤ g.K.Sink.faults l.out;
}
